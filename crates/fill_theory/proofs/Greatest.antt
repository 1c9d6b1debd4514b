-- At one location: the pass finds posts exactly when some posts pass, and they are the greatest.
-- The reason is one invariant: from a pre that is at least that of posts that pass, and under the ceiling, the pass finds posts that
-- are nowhere below those.
use Rattle.std.proofs.Common.{Option, None, Some}
use mathlib.Core.Path.{◌≡◌, refl, ap, sym, ◌∙◌}
use mathlib.Core.List.{List, [], ◌∷◌, ◌++◌}
use mathlib.Core.Logic.{◌↔◌}
use Prim.Native.Nat.{ℕ, ◌+◌, ◌-◌, ◌≤◌, ◌<◌, min}
use native.Mathlib.Omega.{arith}
use lib.ListN.{length, get_or}
use lib.Seq.{ext_get_or}
use Rattle.spec.proofs.Clashes.{none_is_not_some}
use Rattle.fill_theory.specs.Flow.{taking, Flow, alone, after, in_turn, branch, loop, fork, call, steps, Applies, Passes}
use Rattle.fill_theory.specs.Pass.{apply, forth, back, own_post, weight, ceiling, attainable, pass, greatest_posts}
use Rattle.fill_theory.specs.declared.Effect.{Effect}
use Rattle.fill_theory.proofs.Found.{some_injective, finds_bind, met_demand, met_exact, applies_apply}
use Rattle.fill_theory.proofs.Along.{Along, along_at, at_along}
use Rattle.fill_theory.proofs.Pass.{pass_length, own_found, found_both, pass_passes, pass_own}
use Rattle.fill_theory.proofs.Bounds.{back_holds, post_weighs, ceiling_holds, attainable_holds, attainable_capped, attainable_gains}

-- ------------------------------------------------------------------ a step

-- the same step from more
pub apply_more : {x p : ℕ} (E : Effect) (before : ℕ) → Applies E x p → x ≤ before → (apply E before ≡ Some (forth E before)) × (p ≤ forth E before)
unfolding forth
apply_more {x} {p} E before t l =
    let moved : Applies E before (before + E.gives - E.takes) =
    record { balance = omega (arith, t.balance); enough = omega (arith, t.balance, t.enough); lent = t.lent } in
    (applies_apply E before moved, omega (arith, t.balance))

-- from `pre` the pass finds posts that are at least those of a
pub record Best (top : ℕ) (a : ℕ → ℕ) (i pre c : ℕ) (f : Flow) : Type 0 where
  pub posts : List ℕ
  pub found : pass top pre c f ≡ Some posts
  pub below : Along ◌≤◌ a i posts

-- ------------------------------------------------------------------ the best of a step, from the best of its parts

module _ (top : ℕ) (a : ℕ → ℕ) where
  own_below : {i pre c : ℕ} (f : Flow) (B : Best top a i pre c f) → a i ≤ own_post B.posts
  own_below f B = own_found top ◌≤◌ a _ _ _ f B.posts B.found B.below

  own_attainable : {i pre c : ℕ} (f : Flow) (B : Best top a i pre c f) → own_post B.posts ≡ attainable top pre c f
  own_attainable f B = pass_own top _ _ f B.found

  both_below : {i pre c x d : ℕ} (f g : Flow) (B : Best top a i pre c f) (C : Best top a (i + steps f) x d g) → Along ◌≤◌ a i (B.posts ++ C.posts)
  both_below f g B C = found_both top ◌≤◌ a _ _ _ f B.posts B.found C.posts B.below C.below

  module _ (i pre c : ℕ) where
    after_best : (E : Effect) (f : Flow) → Applies E (a (i + 1)) (a i) → Best top a (i + 1) pre (back E c) f → Best top a i pre c (after E f)
    unfolding pass Along own_post
    after_best E f h B =
        let (t, b) = apply_more E (own_post B.posts) h (own_below f B) in
        record {
          posts = forth E (own_post B.posts) ∷ B.posts;
          found = finds_bind _ _ B.found (finds_bind _ _ t refl);
          below = (b, B.below);
        }

    in_turn_best : (E : Effect) (f g : Flow) → Applies E (a (i + 1 + steps f)) (a i) → Best top a (i + 1) pre (ceiling top (back E c) g) f
        → Best top a (i + 1 + steps f) (attainable top pre (ceiling top (back E c) g) f) (back E c) g → Best top a i pre c (in_turn E f g)
    unfolding pass Along own_post
    in_turn_best E f g h B C =
        let (t, b) = apply_more E (own_post C.posts) h (own_below g C) in
        record {
          posts = forth E (own_post C.posts) ∷ (B.posts ++ C.posts);
          found = finds_bind _ _ B.found (rw (own_attainable f B) (finds_bind _ _ C.found (finds_bind _ _ t refl)));
          below = (b, both_below f g B C);
        }

    branch_best : (f g : Flow) → a i ≤ a (i + 1) → a i ≤ a (i + 1 + steps f) → a i ≤ c → Best top a (i + 1) pre top f
        → Best top a (i + 1 + steps f) pre top g → Best top a i pre c (branch f g)
    unfolding pass Along own_post
    branch_best f g h k l B C = record {
      posts = min c (min (own_post B.posts) (own_post C.posts)) ∷ (B.posts ++ C.posts);
      found = finds_bind _ _ B.found (finds_bind _ _ C.found refl);
      below = (omega (arith, own_below f B, own_below g C), both_below f g B C);
    }

    loop_best : (f : Flow) → a i ≤ attainable top pre c (loop f) → attainable top pre c (loop f) ≤ attainable top (attainable top pre c (loop f)) top f
        → Best top a (i + 1) (attainable top pre c (loop f)) top f → Best top a i pre c (loop f)
    unfolding pass Along own_post
    loop_best f l gains B =
        let most = attainable top pre c (loop f) in
        record {
          posts = most ∷ B.posts;
          found = finds_bind _ _ B.found (finds_bind _ _ (met_demand most (own_post B.posts) (omega (arith, own_attainable f B))) refl);
          below = (l, B.below);
        }

    fork_best : (s k : ℕ) (f g : Flow) → k ≤ a (i + 1 + steps f) → Applies (taking s) (a (i + 1)) (a i) → Best top a (i + 1) pre (back (taking s) c) f
        → Best top a (i + 1 + steps f) s top g → Best top a i pre c (fork s k f g)
    unfolding pass Along own_post
    fork_best s k f g l h B C =
        let (t, b) = apply_more (taking s) (own_post B.posts) h (own_below f B) in
        let paid = met_demand k (own_post C.posts) (omega (arith, own_below g C)) in
        record {
          posts = forth (taking s) (own_post B.posts) ∷ (B.posts ++ C.posts);
          found = finds_bind _ _ B.found (finds_bind _ _ C.found (finds_bind _ _ paid (finds_bind _ _ t refl)));
          below = (b, both_below f g B C);
        }

    call_best : (b d : ℕ) (f : Flow) → a (i + 1) ≡ b → a i ≡ d → attainable top pre b f ≤ b → Best top a (i + 1) pre b f → Best top a i pre c (call b d f)
    unfolding pass Along own_post
    call_best b d f h k capped B =
        let exact = met_exact (own_post B.posts) b (omega (arith, own_below f B, own_attainable f B)) in
        record {
          posts = d ∷ B.posts;
          found = finds_bind _ _ B.found (finds_bind _ _ exact refl);
          below = (omega arith, B.below);
        }

  -- ------------------------------------------------------------------ the best of a flow

  pub passes_best : (i x pre c : ℕ) (f : Flow) → Passes a i x f → x + weight f ≤ top → a i ≤ c → x ≤ pre → pre ≤ ceiling top c f
      → Best top a i pre c f
  unfolding Passes pass Along own_post ceiling attainable weight
  passes_best i x pre c (alone E) h s l m u =
      let (t, b) = apply_more E pre h m in
      record { posts = forth E pre ∷ []; found = finds_bind _ _ t refl; below = (b, tt) }
  passes_best i x pre c (after E f) h s l m u =
      after_best i pre c E f h.1 (passes_best (i + 1) x pre _ f h.0 (omega arith) (back_holds E c h.1 l) m u)
  passes_best i x pre c (in_turn E f g) h s l m u =
      let j = i + 1 + steps f in
      let first = post_weighs a (i + 1) x f h.0 in
      let last = back_holds E c h.2 l in
      let under = ceiling_holds top a j (a (i + 1)) (back E c) g h.1 (omega arith) last in
      let least = attainable_holds top a (i + 1) x pre _ f h.0 (omega arith) under m in
      let capped = attainable_capped top a (i + 1) x pre _ f h.0 (omega arith) under m u in
      in_turn_best i pre c E f g h.2
      (passes_best (i + 1) x pre _ f h.0 (omega arith) under m u)
      (passes_best j (a (i + 1)) _ _ g h.1 (omega arith) last least capped)
  passes_best i x pre c (branch f g) h s l m u =
      let j = i + 1 + steps f in
      branch_best i pre c f g h.2 h.3 l
      (passes_best (i + 1) x pre top f h.0 (omega arith) (omega (arith, post_weighs a (i + 1) x f h.0)) m (omega arith))
      (passes_best j x pre top g h.1 (omega arith) (omega (arith, post_weighs a j x g h.1)) m (omega arith))
  passes_best i x pre c (loop f) h s l m u =
      let most = attainable top pre c (loop f) in
      let least = attainable_holds top a i x pre c (loop f) h s l m in
      let within : a i + weight f ≤ top = omega (arith, h.1) in
      let under : a (i + 1) ≤ top = omega (arith, post_weighs a (i + 1) (a i) f h.0) in
      let gains = attainable_gains top a (i + 1) (a i) most top top most f h.0 within under least (omega arith) (omega arith) (omega (arith, h.2)) in
      loop_best i pre c f least gains (passes_best (i + 1) (a i) most top f h.0 within under least (omega arith))
  passes_best i x pre c (fork t k f g) h s l m u =
      let j = i + 1 + steps f in
      let last : a j ≤ top = omega (arith, post_weighs a j t g h.1) in
      fork_best i pre c t k f g h.2 h.3
      (passes_best (i + 1) x pre _ f h.0 (omega arith) (back_holds (taking t) c h.3 l) m u)
      (passes_best j t t top g h.1 (omega arith) last (omega arith) (ceiling_holds top a j t top g h.1 (omega arith) last))
  passes_best i x pre c (call b d f) h s l m u =
      let before : a (i + 1) ≤ b = omega (arith, h.1) in
      call_best i pre c b d f h.1 h.2 (attainable_capped top a (i + 1) x pre b f h.0 (omega arith) before m u)
      (passes_best (i + 1) x pre b f h.0 (omega arith) before m u)

-- ------------------------------------------------------------------ the theorems at one location

module _ (pre : ℕ) (f : Flow) where
  -- for any top that is large enough
  module _ (top : ℕ) (large : pre + weight f ≤ top) where
    pub best : (a : ℕ → ℕ) (i : ℕ) → Passes a i pre f → Best top a i pre top f
    best a i h =
        let under : a i ≤ top = omega (arith, post_weighs a i pre f h) in
        passes_best top a i pre pre top f h large under (omega arith) (ceiling_holds top a i pre top f h large under)

    -- the posts that the pass found, as posts by step
    pub found_passes : (ps : List ℕ) → pass top pre top f ≡ Some ps → Passes (λ i. get_or ps i 0) 0 pre f
    found_passes ps h =
        let a : ℕ → ℕ = λ i. get_or ps i 0 in
        pass_passes top a 0 pre top f h (at_along ◌≡◌ a 0 ps (λ j l. let e : 0 + j ≡ j = omega arith in ap a e))

    -- posts that pass are nowhere above those of the pass
    pub found_greatest : (ps : List ℕ) → pass top pre top f ≡ Some ps → (a : ℕ → ℕ) → Passes a 0 pre f → (i : ℕ) → i < steps f → a i ≤ get_or ps i 0
    found_greatest ps h a q i l =
        let B = best a 0 q in
        let same : B.posts ≡ ps = some_injective (sym B.found ∙ h) in
        let e : 0 + i ≡ i = omega arith in
        rw (← same) (rw e at (along_at ◌≤◌ a 0 B.posts B.below i (omega (arith, pass_length top pre top f B.found))))

    -- the pass finds posts exactly when some pass
    pub found_solvable : ((ps : List ℕ) × (pass top pre top f ≡ Some ps)) ↔ ((a : ℕ → ℕ) × Passes a 0 pre f)
    found_solvable = (λ h. (λ i. get_or h.0 i 0, found_passes h.0 h.1), λ h. let B = best h.0 0 h.1 in (B.posts, B.found))

  -- the pass is the same for all of them
  tops_agree : (t u : ℕ) → pre + weight f ≤ t → pre + weight f ≤ u → (o : Option (List ℕ)) → pass t pre t f ≡ o → pass u pre u f ≡ o
  tops_agree t u l m (Some ps) h =
      let (qs, k) = (found_solvable u m).1 ((found_solvable t l).0 (ps, h)) in
      let counted = pass_length u pre u f k in
      k ∙ ap Some (ext_get_or 0 qs ps (counted ∙ sym (pass_length t pre t f h)) (λ i n.
      omega (
        arith,
        found_greatest t l ps h _ (found_passes u m qs k) i (omega (arith, counted)),
        found_greatest u m qs k _ (found_passes t l ps h) i (omega (arith, counted)),
      )))
  tops_agree t u l m None h = go (pass u pre u f) refl
    where
      go : (o : Option (List ℕ)) → pass u pre u f ≡ o → o ≡ None
      go None k = refl
      go (Some qs) k = let (ps, found) = (found_solvable t l).1 ((found_solvable u m).0 (qs, k)) in none_is_not_some (sym h ∙ found)

  pub any_top : (top : ℕ) → pre + weight f ≤ top → pass top pre top f ≡ greatest_posts pre f
  unfolding greatest_posts
  any_top top large = tops_agree (pre + weight f) top (omega arith) large (pass (pre + weight f) pre (pre + weight f) f) refl

  -- ------------------------------------------------------------------ the greatest posts

  pub posts_counted : {ps : List ℕ} → greatest_posts pre f ≡ Some ps → length ps ≡ steps f
  unfolding greatest_posts
  posts_counted h = pass_length (pre + weight f) pre (pre + weight f) f h

  pub posts_pass : (a : ℕ → ℕ) (i : ℕ) {ps : List ℕ} → greatest_posts pre f ≡ Some ps → Along ◌≡◌ a i ps → Passes a i pre f
  unfolding greatest_posts
  posts_pass a i h w = pass_passes (pre + weight f) a i pre (pre + weight f) f h w

  pub posts_greatest : (a : ℕ → ℕ) (i : ℕ) → Passes a i pre f → (ps : List ℕ) × (greatest_posts pre f ≡ Some ps) × Along ◌≤◌ a i ps
  unfolding greatest_posts
  posts_greatest a i h = let B = best (pre + weight f) (omega arith) a i h in (B.posts, B.found, B.below)
