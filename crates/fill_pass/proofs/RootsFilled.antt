-- Filling the roots that are shown: the root of the program behind all bodies; a body, and then those behind it.
use Rattle.std.proofs.Common.{Option, None, Some}
use Rattle.std.specs.Option.{is_some}
use mathlib.Core.Path.{◌≡◌, refl, ap, sym, ◌∙◌, subst}
use mathlib.Core.Logic.{inl}
use mathlib.Core.Bool.{Bool, true, false}
use mathlib.Core.List.{List, [], ◌∷◌, ◌++◌, append-nil}
use Prim.Native.Nat.{ℕ, ◌+◌, ◌≤◌, ◌<◌}
use native.Mathlib.Omega.{arith}
use lib.ListN.{length}
use borrow.Author.Tests.{le-leb, lt-leb}
use Rattle.workspace.specs.Layout.{map_cell}
use Rattle.workspace.specs.Region.{Region, ChangedWithin}
use Rattle.workspace.proofs.Region.{region_append, region_kept, region_moved, changed_then, changed_wider}
use Rattle.fill_theory.specs.Found.{◌>>=◌, require}
use Rattle.fill_theory.specs.Flow.{Flow, steps, Root, steps_of}
use Rattle.fill_theory.specs.Pass.{own_post, greatest_posts, posts_of_roots}
use Rattle.fill_theory.proofs.Found.{finds_bind}
use Rattle.fill_theory.proofs.Greatest.{posts_counted}
use Rattle.fill_transfer.specs.declared.Column.{Column}
use Rattle.fill_transfer.specs.Transfers.{cell_in, before_in, after_in}
use Rattle.fill_transfer.specs.Shows.{Shows}
use Rattle.fill_pass.specs.declared.Given.{Given}
use Rattle.fill_pass.specs.Passed.{RootReady, RootPassed}
use Rattle.fill_pass.specs.Roots.{first_in, RootsShown, root_shown, body_shown, Stored, RootsReady, RootsFilled}
use Rattle.fill_pass.proofs.Answers.{found_some, found_none}
use Rattle.fill_pass.proofs.Parts.{nothing_bind}

-- ------------------------------------------------------------------ what is found of a root and of those behind it

module _ (pre due : ℕ) (g : Flow) (rs : List Root) where
  abbrev here : List Root
  here = record { pre = pre; due = due; flow = g } ∷ rs

  root_missed : greatest_posts pre g ≡ None → posts_of_roots here ≡ None
  unfolding posts_of_roots
  root_missed e = nothing_bind _ _ e

  module _ {ps : List ℕ} (found : greatest_posts pre g ≡ Some ps) where
    root_short : own_post ps < due → posts_of_roots here ≡ None
    unfolding posts_of_roots require ◌>>=◌
    root_short l = finds_bind _ _ found (rw (lt-leb due (own_post ps) l))

    others_missed : due ≤ own_post ps → posts_of_roots rs ≡ None → posts_of_roots here ≡ None
    unfolding posts_of_roots require ◌>>=◌
    others_missed l e = finds_bind _ _ found (rw (le-leb due (own_post ps) l, e))

    both_found : {qs : List ℕ} → due ≤ own_post ps → posts_of_roots rs ≡ Some qs → posts_of_roots here ≡ Some (ps ++ qs)
    unfolding posts_of_roots require ◌>>=◌
    both_found l e = finds_bind _ _ found (rw (le-leb due (own_post ps) l, e))

-- ------------------------------------------------------------------ the parts that are shown

record LastShown (w : List ℕ) (column : Column) (given : Given) (f : ℕ) (rs : List Root) : Type 0 where
  flow : Flow
  is : rs ≡ record { pre = cell_in w column given.start; due = 0; flow = flow } ∷ []
  shown : Shows w column (first_in w f) flow

record BodyShown (w : List ℕ) (column : Column) (given : Given) (f : ℕ) (rs : List Root) : Type 0 where
  flow : Flow
  others : List Root
  is : rs ≡ record { pre = before_in w column f; due = after_in w column f; flow = flow } ∷ others
  shown : Shows w column (first_in w f) flow
  next : first_in w (f + 1) ≡ first_in w f + steps flow
  behind : RootsShown w column given (f + 1) others

module _ (w : List ℕ) (column : Column) (given : Given) (f : ℕ) where
  last_shown : (rs : List Root) → f ≡ given.procedures → RootsShown w column given f rs → LastShown w column given f rs
  last_shown rs e (root_shown {g = g} last s) = record { flow = g; is = refl; shown = s }
  last_shown rs e (body_shown l s n t) = absurd (omega arith)

  body_shown_lem : (rs : List Root) → (f ≡ given.procedures → ⊥) → RootsShown w column given f rs → BodyShown w column given f rs
  body_shown_lem rs e (root_shown last s) = absurd (e last)
  body_shown_lem rs e (body_shown {g = g} {rs = others} l s n t) = record {
    flow = g;
    others = others;
    is = refl;
    shown = s;
    next = n;
    behind = t;
  }

  module _ (R : RootsReady w column given f) where
    others_ready : (f ≡ given.procedures → ⊥) → RootsReady w column given (f + 1)
    unfolding steps_of
    others_ready e =
        let B = body_shown_lem R.shown_roots e R.shown in
        let counted : steps_of R.shown_roots ≡ steps B.flow + steps_of B.others = ap steps_of B.is in
        record {
          shown_roots = B.others;
          shown = B.behind;
          inside = omega (arith, R.inside, B.next);
          fits = R.fits;
          few = R.few;
        }

  -- ------------------------------------------------------------------ the root of the program

  module _ {first pre : ℕ} (at : first ≡ first_in w f) where
    module _ (R : RootsReady w column given f) where
      last_ready : f ≡ given.procedures → pre ≡ cell_in w column given.start → RootReady w column first pre
      unfolding steps_of cell_in map_cell
      last_ready e begins =
          let L = last_shown R.shown_roots e R.shown in
          let counted : steps_of R.shown_roots ≡ steps L.flow + 0 = ap steps_of L.is in
          record { flow = L.flow; shown = rw at L.shown; inside = omega (arith, R.inside); fits = R.fits; small = rw begins (R.fits _) }

      body_ready : (f ≡ given.procedures → ⊥) → pre ≡ before_in w column f → RootReady w column first pre
      unfolding steps_of before_in cell_in map_cell
      body_ready e begins =
          let B = body_shown_lem R.shown_roots e R.shown in
          let counted : steps_of R.shown_roots ≡ steps B.flow + steps_of B.others = ap steps_of B.is in
          record { flow = B.flow; shown = rw at B.shown; inside = omega (arith, R.inside); fits = R.fits; small = rw begins (R.fits _) }

    module _ {q q₁ : List ℕ} where
      module _ (e : f ≡ given.procedures) (begins : pre ≡ cell_in w column given.start) where
        last_changed : {r : Option ℕ} → RootPassed w column (first_in w f) pre q q₁ r → (rs : List Root) → RootsShown w column given f rs
            → ChangedWithin (first_in w f) (first_in w f + steps_of rs) q q₁
        unfolding steps_of
        last_changed A rs s =
            let L = last_shown rs e s in
            let counted : steps_of rs ≡ steps L.flow + 0 = ap steps_of L.is in
            changed_wider _ _ (omega arith) (omega arith) (A.changed L.flow L.shown)

        last_filled : (r : Option ℕ) → RootPassed w column (first_in w f) pre q q₁ r → RootsFilled w column given f q q₁ (is_some r)
        unfolding posts_of_roots
        last_filled None A = record {
          answers = λ rs s.
              let L = last_shown rs e s in
              let missed = found_none (greatest_posts pre L.flow) _ q₁ (A.answers L.flow L.shown) in
              let whole : posts_of_roots rs ≡ None = ap posts_of_roots L.is ∙ root_missed _ 0 L.flow [] (sym (ap (λ (x : ℕ). greatest_posts x L.flow) begins) ∙ missed) in
              subst (λ o. Stored o (first_in w f) q₁ false) (sym whole) refl;
          changed = last_changed A;
        }
        last_filled (Some x) A = record {
          answers = λ rs s.
              let L = last_shown rs e s in
              let (ps, found, own, stand) = found_some (greatest_posts pre L.flow) _ q₁ (A.answers L.flow L.shown) in
              let whole : posts_of_roots rs ≡ Some ps =
              ap posts_of_roots L.is ∙ both_found _ 0 L.flow [] (sym (ap (λ (x : ℕ). greatest_posts x L.flow) begins) ∙ found) (omega arith) refl ∙ ap Some (append-nil ps) in
              subst (λ o. Stored o (first_in w f) q₁ true) (sym whole) (refl, stand);
          changed = last_changed A;
        }

      -- ------------------------------------------------------------------ a body

      module _ (e : f ≡ given.procedures → ⊥) (begins : pre ≡ before_in w column f) where
        body_changed : {r : Option ℕ} → RootPassed w column (first_in w f) pre q q₁ r → (rs : List Root) → RootsShown w column given f rs
            → ChangedWithin (first_in w f) (first_in w f + steps_of rs) q q₁
        unfolding steps_of
        body_changed A rs s =
            let B = body_shown_lem rs e s in
            let counted : steps_of rs ≡ steps B.flow + steps_of B.others = ap steps_of B.is in
            changed_wider _ _ (omega arith) (omega arith) (A.changed B.flow B.shown)

        body_missed : RootPassed w column (first_in w f) pre q q₁ None → RootsFilled w column given f q q₁ false
        body_missed A = record {
          answers = λ rs s.
              let B = body_shown_lem rs e s in
              let missed = found_none (greatest_posts pre B.flow) _ q₁ (A.answers B.flow B.shown) in
              let whole : posts_of_roots rs ≡ None = ap posts_of_roots B.is ∙ root_missed _ _ B.flow B.others (sym (ap (λ (x : ℕ). greatest_posts x B.flow) begins) ∙ missed) in
              subst (λ o. Stored o (first_in w f) q₁ false) (sym whole) refl;
          changed = body_changed A;
        }

        module _ {left due : ℕ} (A : RootPassed w column (first_in w f) pre q q₁ (Some left)) (owed : due ≡ after_in w column f) where
          body_short : left < due → RootsFilled w column given f q q₁ false
          body_short l = record {
            answers = λ rs s.
                let B = body_shown_lem rs e s in
                let (ps, found, own, _) = found_some (greatest_posts pre B.flow) _ q₁ (A.answers B.flow B.shown) in
                let whole : posts_of_roots rs ≡ None =
                ap posts_of_roots B.is ∙ root_short _ _ B.flow B.others (sym (ap (λ (x : ℕ). greatest_posts x B.flow) begins) ∙ found) (omega (arith, own, owed)) in
                subst (λ o. Stored o (first_in w f) q₁ false) (sym whole) refl;
            changed = body_changed A;
          }

          body_filled : {q₂ : List ℕ} {t : Bool} → due ≤ left → RootsFilled w column given (f + 1) q₁ q₂ t → RootsFilled w column given f q q₂ t
          unfolding steps_of
          body_filled {q₂} {t} l D = record { answers = answers; changed = changed }
            where
              changed : (rs : List Root) → RootsShown w column given f rs → ChangedWithin (first_in w f) (first_in w f + steps_of rs) q q₂
              changed rs s =
                  let B = body_shown_lem rs e s in
                  let counted : steps_of rs ≡ steps B.flow + steps_of B.others = ap steps_of B.is in
                  changed_then _ _ (body_changed A rs s) (changed_wider _ _ (omega (arith, B.next)) (omega (arith, B.next)) (D.changed B.others B.behind))

              answers : (rs : List Root) → RootsShown w column given f rs → Stored (posts_of_roots rs) (first_in w f) q₂ t
              answers rs s =
                  let B = body_shown_lem rs e s in
                  let (ps, found, own, stand) = found_some (greatest_posts pre B.flow) _ q₁ (A.answers B.flow B.shown) in
                  subst (λ o. Stored o (first_in w f) q₂ t) (sym (ap posts_of_roots B.is))
                  (by_others B.flow B.others ps (sym (ap (λ (x : ℕ). greatest_posts x B.flow) begins) ∙ found) (omega (arith, own, owed)) stand B.next (D.changed B.others B.behind)
                  (posts_of_roots B.others) refl (D.answers B.others B.behind))
                where
                  by_others : (g : Flow) (others : List Root) (ps : List ℕ) → greatest_posts (before_in w column f) g ≡ Some ps → after_in w column f ≤ own_post ps
                      → Region q₁ (first_in w f) ps → first_in w (f + 1) ≡ first_in w f + steps g
                      → ChangedWithin (first_in w (f + 1)) (first_in w (f + 1) + steps_of others) q₁ q₂
                      → (o : Option (List ℕ)) → posts_of_roots others ≡ o → Stored o (first_in w (f + 1)) q₂ t
                      → Stored (posts_of_roots (record { pre = before_in w column f; due = after_in w column f; flow = g } ∷ others)) (first_in w f) q₂ t
                  by_others g others ps found enough stand next kept None missed told =
                      subst (λ o. Stored o (first_in w f) q₂ t) (sym (others_missed _ _ g others found enough missed)) told
                  by_others g others ps found enough stand next kept (Some qs) behind told =
                      let counted : length ps ≡ steps g = posts_counted _ g found in
                      subst (λ o. Stored o (first_in w f) q₂ t) (sym (both_found _ _ g others found enough behind))
                      (told.0, region_append ps qs (region_kept kept (inl (omega arith)) stand) (region_moved _ _ (omega arith) told.1))

-- ------------------------------------------------------------------ the bodies so far

-- once the bodies before procedure f have their posts, those of all roots are left to the others
pub record SoFar (w : List ℕ) (column : Column) (given : Given) (q₀ : List ℕ) (f : ℕ) (q : List ℕ) : Type 0 where
  pub ready : RootsReady w column given f
  pub rest : (q' : List ℕ) (r : Bool) → RootsFilled w column given f q q' r → RootsFilled w column given 0 q₀ q' r

module _ {w : List ℕ} {column : Column} {given : Given} where
  pub none_so_far : RootsReady w column given 0 → (q : List ℕ) → SoFar w column given q 0 q
  none_so_far R q = record { ready = R; rest = λ q' r F. F }

  module _ {q₀ q : List ℕ} {f first pre : ℕ} (Z : SoFar w column given q₀ f q) (at : first ≡ first_in w f) where
    module _ (l : f < given.procedures) (begins : pre ≡ before_in w column f) where
      is_body : f ≡ given.procedures → ⊥
      is_body e = omega arith

      pub body_asks : RootReady w column first pre
      body_asks = body_ready w column given f at Z.ready is_body begins

      module _ {q₁ : List ℕ} where
        here_at : {r : Option ℕ} → RootPassed w column first pre q q₁ r → RootPassed w column (first_in w f) pre q q₁ r
        here_at A = rw at at A

        pub body_ends : RootPassed w column first pre q q₁ None → RootsFilled w column given 0 q₀ q₁ false
        body_ends A = Z.rest _ _ (body_missed w column given f at is_body begins (here_at A))

        module _ {left due : ℕ} (A : RootPassed w column first pre q q₁ (Some left)) (owed : due ≡ after_in w column f) where
          pub body_owes : left < due → RootsFilled w column given 0 q₀ q₁ false
          body_owes s = Z.rest _ _ (body_short w column given f at is_body begins (here_at A) owed s)

          pub body_again : due ≤ left → SoFar w column given q₀ (f + 1) q₁
          body_again s = record {
            ready = others_ready w column given f Z.ready is_body;
            rest = λ q' r F. Z.rest _ _ (body_filled w column given f at is_body begins (here_at A) owed s F);
          }

    module _ (e : f ≡ given.procedures) (begins : pre ≡ cell_in w column given.start) where
      pub last_asks : RootReady w column first pre
      last_asks = last_ready w column given f at Z.ready e begins

      pub last_ends : {q₁ : List ℕ} (r : Option ℕ) → RootPassed w column first pre q q₁ r → RootsFilled w column given 0 q₀ q₁ (is_some r)
      last_ends r A = Z.rest _ _ (last_filled w column given f at e begins r (rw at at A))
