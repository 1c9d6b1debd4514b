-- The pass over what the work space shows: a step without parts, with one, with two; a part without posts.
use Rattle.std.proofs.Common.{Option, None, Some}
use mathlib.Core.Path.{◌≡◌, refl, ap, ap₂, sym, ◌∙◌, subst}
use mathlib.Core.Logic.{inl}
use mathlib.Core.List.{List, [], ◌∷◌, ◌++◌}
use Prim.Native.Nat.{ℕ, ◌+◌, ◌<◌}
use native.Mathlib.Omega.{arith}
use lib.ListN.{length, get_or}
use Rattle.workspace.specs.Region.{Region, ChangedWithin}
use Rattle.workspace.proofs.Region.{region_empty, region_append, region_kept, region_moved, changed_then, changed_wider}
use Rattle.fill_theory.specs.declared.Effect.{Effect}
use Rattle.fill_theory.specs.Flow.{Flow, steps, unary_flow, binary_flow}
use Rattle.fill_theory.specs.Pass.{apply, own_post, pass}
use Rattle.fill_theory.specs.Found.{◌>>=◌}
use Rattle.fill_theory.proofs.Found.{finds_bind}
use Rattle.fill_theory.proofs.Pass.{pass_length, steps_positive}
use Rattle.fill_transfer.specs.declared.Column.{Column}
use Rattle.fill_theory.specs.declared.Transfer.TheVariants.{Leaf, Unary, Binary}
use Rattle.fill_theory.specs.declared.UnaryTransfer.{UnaryTransfer}
use Rattle.fill_theory.specs.declared.BinaryTransfer.{BinaryTransfer}
use Rattle.fill_transfer.specs.Transfers.{transfer_in}
use Rattle.fill_transfer.specs.Shows.{end_in, Shows}
use Rattle.fill_transfer.specs.Bounds.{top, part_upper_bound, last_upper_bound}
use Rattle.fill_transfer.specs.AfterSteps.{part_pre, after_unary, second_pre, after_binary}
use Rattle.fill_pass.specs.Bounds.{upper_bounds_of}
use Rattle.fill_pass.specs.Passed.{settled, Answers, Passed}
use Rattle.fill_pass.proofs.Answers.{found_some, found_none, settle_answers, settled_changed}
use Rattle.fill_theory.proofs.Placed.{unary_steps, binary_steps}
use Rattle.fill_pass.proofs.Parts.{leaf_parts, unary_parts, binary_parts, first_upper_bound_of, unary_upper_bound_lem, part_upper_bounds, binary_upper_bound, first_upper_bounds, last_upper_bounds, nothing_bind, pass_unary, pass_binary}

-- the pass of a flow with one part, and of one with two
module _ (pre c : ℕ) where
  pass_by : {m : List ℕ} {k before : ℕ} (transfer : UnaryTransfer) (f g : Flow) → before ≡ part_pre transfer pre (get_or m k 0) → f ≡ unary_flow transfer g
      → Region m k (upper_bounds_of c f)
      → pass top pre c f ≡ (pass top before (part_upper_bound transfer c) g >>= λ ps. after_unary transfer before (own_post ps) >>= λ p. Some (p ∷ ps))
  pass_by {before = before} transfer f g from is C = ap (pass top pre c) is ∙ pass_unary pre c before transfer g (from ∙ ap (part_pre transfer pre) (unary_upper_bound_lem c transfer g is C))

  pass_both : (transfer : BinaryTransfer) (f g h : Flow) → f ≡ binary_flow transfer g h
      → pass top pre c f
      ≡ (pass top pre (first_upper_bound_of transfer c h) g >>= λ ps. pass top (second_pre transfer pre (own_post ps)) (last_upper_bound transfer c) h >>= λ qs.
      after_binary transfer c (own_post ps) (own_post qs) >>= λ p. Some (p ∷ (ps ++ qs)))
  pass_both transfer f g h is = ap (pass top pre c) is ∙ pass_binary pre c transfer g h

-- of the parts g and h of a step k with two parts: the posts of the first, and what the call for the second answers then
record BothAnswer (transfer : BinaryTransfer) (k pre first : ℕ) (q₁ q₂ : List ℕ) (g h : Flow) (c : ℕ) (r : Option ℕ) : Type 0 where
  posts : List ℕ
  found : pass top pre (first_upper_bound_of transfer c h) g ≡ Some posts
  own : first ≡ own_post posts
  stand : Region q₁ (k + 1) posts
  last : Answers (pass top (second_pre transfer pre (own_post posts)) (last_upper_bound transfer c) h) (k + 1 + steps g) q₂ r

module _ {w m : List ℕ} {column : Column} (k pre : ℕ) {q : List ℕ} where
  -- ------------------------------------------------------------------ no part

  pub leaf_passed : {E : Effect} {t r : Option ℕ} {q' : List ℕ} → transfer_in w column k ≡ Leaf E → k < length q → t ≡ apply E pre → r ≡ t
      → q' ≡ settled q k t → Passed w m column k pre q q' r
  unfolding pass
  leaf_passed {E} {t} {r} {q'} seen l e same s = record {
    answers = λ f c S C.
        subst (λ f. Answers (pass top pre c f) k q' r) (sym (leaf_parts w column k E f S seen))
        (settle_answers q q' k [] (apply E pre) t r e same s l (region_empty q (k + 1) (omega arith)));
    changed = λ f S. settled_changed q q' k (k + steps f) t s (omega (arith, steps_positive f));
  }

  -- ------------------------------------------------------------------ one part

  module _ {transfer : UnaryTransfer} (seen : transfer_in w column k ≡ Unary transfer) {before : ℕ} (from : before ≡ part_pre transfer pre (get_or m k 0)) {q₁ : List ℕ} where
    part_changed : {r : Option ℕ} → Passed w m column (k + 1) before q q₁ r → (f : Flow) → Shows w column k f → ChangedWithin k (k + steps f) q q₁
    part_changed A f S =
        let U = unary_parts w column k transfer f S seen in
        let counted : steps f ≡ steps U.part + 1 = ap steps U.is ∙ unary_steps transfer U.part in
        changed_wider k (k + steps f) (omega arith) (omega arith) (A.changed U.part U.shown)

    -- it has no posts
    pub unary_nothing : Passed w m column (k + 1) before q q₁ None → Passed w m column k pre q q₁ None
    unary_nothing A = record { answers = answers; changed = part_changed A }
      where
        answers : (f : Flow) (c : ℕ) → Shows w column k f → Region m k (upper_bounds_of c f) → Answers (pass top pre c f) k q₁ None
        answers f c S C =
            let U = unary_parts w column k transfer f S seen in
            let missed = found_none (pass top before (part_upper_bound transfer c) U.part) (k + 1) q₁ (A.answers U.part _ U.shown (part_upper_bounds c transfer U.part U.is C)) in
            let whole : pass top pre c f ≡ None = pass_by pre c transfer f U.part from U.is C ∙ nothing_bind _ _ missed in
            subst (λ o. Answers o k q₁ None) (sym whole) refl

    pub unary_passed : {first : ℕ} {t r : Option ℕ} {q' : List ℕ} → Passed w m column (k + 1) before q q₁ (Some first) → k < length q₁
        → t ≡ after_unary transfer before first → r ≡ t → q' ≡ settled q₁ k t → Passed w m column k pre q q' r
    unary_passed {first} {t} {r} {q'} A l e same s = record {
      answers = answers;
      changed = λ f S.
          changed_then k (k + steps f) (part_changed A f S) (settled_changed q₁ q' k (k + steps f) t s (omega (arith, steps_positive f)));
    }
      where
        answers : (f : Flow) (c : ℕ) → Shows w column k f → Region m k (upper_bounds_of c f) → Answers (pass top pre c f) k q' r
        answers f c S C =
            let U = unary_parts w column k transfer f S seen in
            let (ps, found, own, R) = found_some (pass top before (part_upper_bound transfer c) U.part) (k + 1) q₁ (A.answers U.part _ U.shown (part_upper_bounds c transfer U.part U.is C)) in
            let whole = pass_by pre c transfer f U.part from U.is C ∙ finds_bind _ _ found refl in
            subst (λ o. Answers o k q' r) (sym whole)
            (settle_answers q₁ q' k ps (after_unary transfer before (own_post ps)) t r (e ∙ ap (after_unary transfer before) own) same s l R)

  -- ------------------------------------------------------------------ two parts

  module _ {transfer : BinaryTransfer} (seen : transfer_in w column k ≡ Binary transfer) {q₁ : List ℕ} where
    first_changed : {r : Option ℕ} → Passed w m column (k + 1) pre q q₁ r → (f : Flow) → Shows w column k f → ChangedWithin k (k + steps f) q q₁
    first_changed A f S =
        let B = binary_parts w column k transfer f S seen in
        let counted : steps f ≡ steps B.first + steps B.second + 1 = ap steps B.is ∙ binary_steps transfer B.first B.second in
        changed_wider k (k + steps f) (omega arith) (omega arith) (A.changed B.first B.shown)

    -- the first has no posts
    pub first_nothing : Passed w m column (k + 1) pre q q₁ None → Passed w m column k pre q q₁ None
    first_nothing A = record { answers = answers; changed = first_changed A }
      where
        answers : (f : Flow) (c : ℕ) → Shows w column k f → Region m k (upper_bounds_of c f) → Answers (pass top pre c f) k q₁ None
        answers f c S C =
            let B = binary_parts w column k transfer f S seen in
            let missed = found_none (pass top pre (first_upper_bound_of transfer c B.second) B.first) (k + 1) q₁ (A.answers B.first _ B.shown (first_upper_bounds c transfer B.first B.second B.is C)) in
            let whole : pass top pre c f ≡ None = pass_both pre c transfer f B.first B.second B.is ∙ nothing_bind _ _ missed in
            subst (λ o. Answers o k q₁ None) (sym whole) refl

    module _ {first second next : ℕ} (A : Passed w m column (k + 1) pre q q₁ (Some first)) (at : second ≡ end_in w (k + 1)) (from : next ≡ second_pre transfer pre first)
        {q₂ : List ℕ} where
      -- the call for the second part of a flow whose first part is f
      second_call : {r : Option ℕ} → Passed w m column second next q₁ q₂ r → (f : Flow) → end_in w (k + 1) ≡ k + 1 + steps f → Passed w m column (k + 1 + steps f) next q₁ q₂ r
      second_call D f ends =
          let place : second ≡ k + 1 + steps f = at ∙ ends in
          rw place at D

      both_changed : {r : Option ℕ} → Passed w m column second next q₁ q₂ r → (f : Flow) → Shows w column k f → ChangedWithin k (k + steps f) q q₂
      both_changed D f S =
          let B = binary_parts w column k transfer f S seen in
          let counted : steps f ≡ steps B.first + steps B.second + 1 = ap steps B.is ∙ binary_steps transfer B.first B.second in
          changed_then k (k + steps f) (first_changed A f S)
          (changed_wider k (k + steps f) (omega arith) (omega arith) ((second_call D B.first B.ends).changed B.second B.behind))

      both_answer : {r : Option ℕ} → Passed w m column second next q₁ q₂ r → (f g h : Flow) (c : ℕ) → f ≡ binary_flow transfer g h → Region m k (upper_bounds_of c f) → Shows w column (k + 1) g → end_in w (k + 1) ≡ k + 1 + steps g
          → Shows w column (k + 1 + steps g) h → BothAnswer transfer k pre first q₁ q₂ g h c r
      both_answer D f g h c is C shown ends behind =
          let (ps, found, own, R) = found_some (pass top pre (first_upper_bound_of transfer c h) g) (k + 1) q₁ (A.answers g _ shown (first_upper_bounds c transfer g h is C)) in
          let start : next ≡ second_pre transfer pre (own_post ps) = from ∙ ap (second_pre transfer pre) own in
          record {
            posts = ps;
            found = found;
            own = own;
            stand = R;
            last = rw start at ((second_call D g ends).answers h (last_upper_bound transfer c) behind (last_upper_bounds c transfer g h is C));
          }

      -- the second has no posts
      pub second_nothing : Passed w m column second next q₁ q₂ None → Passed w m column k pre q q₂ None
      second_nothing D = record { answers = answers; changed = both_changed D }
        where
          answers : (f : Flow) (c : ℕ) → Shows w column k f → Region m k (upper_bounds_of c f) → Answers (pass top pre c f) k q₂ None
          answers f c S C =
              let B = binary_parts w column k transfer f S seen in
              let X = both_answer D f B.first B.second c B.is C B.shown B.ends B.behind in
              let missed = found_none (pass top (second_pre transfer pre (own_post X.posts)) (last_upper_bound transfer c) B.second) _ q₂ X.last in
              let whole : pass top pre c f ≡ None = pass_both pre c transfer f B.first B.second B.is ∙ finds_bind _ _ X.found (nothing_bind _ _ missed) in
              subst (λ o. Answers o k q₂ None) (sym whole) refl

      pub binary_passed : {last : ℕ} {t r : Option ℕ} {q' : List ℕ} → Passed w m column second next q₁ q₂ (Some last) → k < length q₂
          → t ≡ after_binary transfer (get_or m k 0) first last → r ≡ t → q' ≡ settled q₂ k t → Passed w m column k pre q q' r
      binary_passed {last} {t} {r} {q'} D l e same s = record {
        answers = answers;
        changed = λ f S.
            changed_then k (k + steps f) (both_changed D f S) (settled_changed q₂ q' k (k + steps f) t s (omega (arith, steps_positive f)));
      }
        where
          answers : (f : Flow) (c : ℕ) → Shows w column k f → Region m k (upper_bounds_of c f) → Answers (pass top pre c f) k q' r
          answers f c S C =
              let B = binary_parts w column k transfer f S seen in
              let X = both_answer D f B.first B.second c B.is C B.shown B.ends B.behind in
              let ps = X.posts in
              let (qs, found', own', R') = found_some (pass top (second_pre transfer pre (own_post ps)) (last_upper_bound transfer c) B.second) _ q₂ X.last in
              let under : get_or m k 0 ≡ c = binary_upper_bound c transfer B.first B.second B.is C in
              let after : after_binary transfer (get_or m k 0) first last ≡ after_binary transfer c (own_post ps) (own_post qs) =
              rw under (ap₂ (after_binary transfer c) X.own own') in
              let long : length ps ≡ steps B.first = pass_length top pre (first_upper_bound_of transfer c B.second) B.first X.found in
              let stand : Region q₂ (k + 1) (ps ++ qs) =
              region_append ps qs (region_kept ((second_call D B.first B.ends).changed B.second B.behind) (inl (omega arith)) X.stand) (region_moved _ _ (omega arith) R') in
              let whole = pass_both pre c transfer f B.first B.second B.is ∙ finds_bind _ _ X.found (finds_bind _ _ found' refl) in
              subst (λ o. Answers o k q' r) (sym whole)
              (settle_answers q₂ q' k (ps ++ qs) (after_binary transfer c (own_post ps) (own_post qs)) t r (e ∙ after) same s l stand)
