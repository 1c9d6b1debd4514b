-- Flows one beside the other, at one location: posts are found exactly when some pass, and they are the greatest.
use Rattle.std.proofs.Common.{Some}
use mathlib.Core.Path.{◌≡◌, refl, ap, sym, ◌∙◌}
use mathlib.Core.List.{List, [], ◌∷◌, ◌++◌}
use mathlib.Core.Logic.{◌↔◌}
use Prim.Native.Nat.{ℕ, ◌+◌, ◌≤◌, ◌<◌}
use native.Mathlib.Omega.{arith}
use lib.ListN.{length, get_or, length-append}
use Rattle.fill_theory.specs.Flow.{steps, Root, steps_of, RootsPass}
use Rattle.fill_theory.specs.Pass.{own_post, posts_of_roots}
use Rattle.fill_theory.proofs.Found.{some_injective, bind_through, finds_bind, demand_met, met_demand}
use Rattle.fill_theory.proofs.Along.{Along, along_shift, along_append, along_parts, along_own, along_at, at_along}
use Rattle.fill_theory.proofs.Pass.{steps_positive}
use Rattle.fill_theory.proofs.Greatest.{posts_counted, posts_pass, posts_greatest}

pub roots_counted : (rs : List Root) {ps : List ℕ} → posts_of_roots rs ≡ Some ps → length ps ≡ steps_of rs
unfolding posts_of_roots steps_of
roots_counted [] h = ap length (sym (some_injective h))
roots_counted (r ∷ rs) h =
    bind_through _ _ h λ ps h₁ h'.
    bind_through _ _ h' λ _ _ h''.
    bind_through _ _ h'' λ qs h₂ e.
    ap length (sym (some_injective e)) ∙ omega (arith, length-append ps qs, posts_counted r.pre r.flow h₁, roots_counted rs h₂)

-- the own post of a flow is the first of its posts
own_post_lem : (R : ℕ → ℕ → Type 0) (a : ℕ → ℕ) (i : ℕ) (r : Root) (ps : List ℕ) → length ps ≡ steps r.flow → Along R a i ps → R (a i) (own_post ps)
own_post_lem R a i r ps counted h = along_own R a i ps (omega (arith, steps_positive r.flow)) h

-- what is found passes
pub roots_pass : (a : ℕ → ℕ) (i : ℕ) (rs : List Root) {ps : List ℕ} → posts_of_roots rs ≡ Some ps → Along ◌≡◌ a i ps → RootsPass a i rs
unfolding posts_of_roots RootsPass
roots_pass a i [] h w = tt
roots_pass a i (r ∷ rs) h w =
    bind_through _ _ h λ ps h₁ h'.
    bind_through _ _ h' λ _ d h''.
    bind_through _ _ h'' λ qs h₂ e.
    let counted = posts_counted r.pre r.flow h₁ in
    let (first, others) = along_parts ◌≡◌ a i ps qs (rw (← some_injective e) at w) in
    let own = own_post_lem ◌≡◌ a i r ps counted first in
    let left = demand_met r.due (own_post ps) d in
    (posts_pass r.pre r.flow a i h₁ first, omega arith, roots_pass a (i + steps r.flow) rs h₂ (along_shift ◌≡◌ a qs (ap (i +◌) counted) others))

-- posts that pass are nowhere above what is found
pub roots_best : (a : ℕ → ℕ) (i : ℕ) (rs : List Root) → RootsPass a i rs → (ps : List ℕ) × (posts_of_roots rs ≡ Some ps) × Along ◌≤◌ a i ps
unfolding posts_of_roots RootsPass Along
roots_best a i [] h = ([], refl, tt)
roots_best a i (r ∷ rs) h =
    let (ps, found, below) = posts_greatest r.pre r.flow a i h.0 in
    let (qs, others, behind) = roots_best a (i + steps r.flow) rs h.2 in
    let counted = posts_counted r.pre r.flow found in
    let left = met_demand r.due (own_post ps) (omega (arith, h.1, own_post_lem ◌≤◌ a i r ps counted below)) in (
      ps ++ qs,
      finds_bind _ _ found (finds_bind _ _ left (finds_bind _ _ others refl)),
      along_append ◌≤◌ a i ps qs below (along_shift ◌≤◌ a qs (ap (i +◌) (sym counted)) behind),
    )

module _ (rs : List Root) where
  pub roots_greatest : (ps : List ℕ) → posts_of_roots rs ≡ Some ps → (a : ℕ → ℕ) → RootsPass a 0 rs → (i : ℕ) → i < steps_of rs → a i ≤ get_or ps i 0
  roots_greatest ps h a q i l =
      let (qs, found, below) = roots_best a 0 rs q in
      let same : qs ≡ ps = some_injective (sym found ∙ h) in
      let e : 0 + i ≡ i = omega arith in
      rw (← same) (rw e at (along_at ◌≤◌ a 0 qs below i (omega (arith, roots_counted rs found))))

  pub roots_solvable : ((ps : List ℕ) × (posts_of_roots rs ≡ Some ps)) ↔ ((a : ℕ → ℕ) × RootsPass a 0 rs)
  roots_solvable = (
    λ h.
        let a : ℕ → ℕ = λ i. get_or h.0 i 0 in
        (a, roots_pass a 0 rs h.1 (at_along ◌≡◌ a 0 h.0 (λ j l. let e : 0 + j ≡ j = omega arith in ap a e))),
    λ h. let (ps, found, _) = roots_best h.0 0 rs h.1 in (ps, found),
  )
