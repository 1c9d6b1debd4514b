-- 14, 15 and 49 are met by no line exactly when no variable is bound twice, each is used only inside its let's e2, and calls are to
-- procedures that are there.
-- The walk in line order carries the variables bound so far; what it asks of them comes to `Distinct` in the end.
use Rattle.std.proofs.Common.{Result, Ok, Err}
use mathlib.Core.Path.{◌≡◌, refl, sym, ◌∙◌, subst}
use mathlib.Core.List.{List, [], ◌∷◌, ◌++◌, append_assoc, append-nil}
use mathlib.Core.Bool.{Bool, true, false, ◌||◌}
use mathlib.Core.Logic.{◌↔◌}
use Prim.Native.Nat.{ℕ}
use lib.Dec.{eqb}
use borrow.Author.Tests.{ltb-true, lt-ltb}
use Rattle.spec.specs.Choice.{when◌then◌else◌}
use Rattle.spec.specs.Words.{role, binding}
use Rattle.spec.specs.Expression.{Expr, leaf, unary, binary, Procedure, among, scope_step, scope, scopes}
use Rattle.spec.specs.WellFormed.{binders, all_binders, Distinct, StepInside, UsedInside, AllUsedInside}
use Rattle.spec.specs.declared.Refusal.{Refusal}
use Rattle.spec.specs.declared.Word.TheVariants.{Leaf, Unary, Binary}
use Rattle.spec.specs.declared.Role.{Role}
use Rattle.spec.specs.declared.Role.TheVariants.{Binds, Uses, Calls, Neither}
use Rattle.spec.proofs.Clashes.{true_is_not_false}
use Rattle.spec.proofs.Tests.{eqb_sym}
use Rattle.spec.proofs.Outcomes.{stop_is_not_on, bind_through, goes_on_bind, on_injective}

-- ------------------------------------------------------------------ variables bound one after the other

-- each of vs is not bound yet when its let comes
unfoldable EachNew : (vs bound : List ℕ) → Type 0
EachNew [] bound = Unit {0}
EachNew (v ∷ vs) bound = (among v bound ≡ false) × EachNew vs (v ∷ bound)

-- ------------------------------------------------------------------ bound one after the other: distinct

unfoldable NoneAmong : (vs bound : List ℕ) → Type 0
NoneAmong [] bound = Unit {0}
NoneAmong (v ∷ vs) bound = (among v bound ≡ false) × NoneAmong vs bound

or_false : (a b : Bool) → (a || b) ≡ false ↔ ((a ≡ false) × (b ≡ false))
or_false true b = (λ h. true_is_not_false h, λ h. true_is_not_false h.0)
or_false false b = (λ h. (refl, h), λ h. h.1)

none_among_more : (x : ℕ) (vs bound : List ℕ) → NoneAmong vs (x ∷ bound) ↔ ((among x vs ≡ false) × NoneAmong vs bound)
unfolding NoneAmong among
none_among_more x [] bound = (λ h. (refl, tt), λ h. tt)
none_among_more x (v ∷ vs) bound =
    let r = none_among_more x vs bound in (
      λ h. (let p = (or_false (eqb v x) (among v bound)).0 h.0 in
          let q = r.0 h.1 in
          ((or_false (eqb x v) (among x vs)).1 (eqb_sym x v ∙ p.0, q.0), (p.1, q.1))),
      λ h. (let p = (or_false (eqb x v) (among x vs)).0 h.0 in
          ((or_false (eqb v x) (among v bound)).1 (eqb_sym v x ∙ p.0, h.1.0), r.1 (p.1, h.1.1))),
    )

new_distinct : (vs bound : List ℕ) → EachNew vs bound ↔ (Distinct vs × NoneAmong vs bound)
unfolding EachNew Distinct NoneAmong
new_distinct [] bound = (λ h. (tt, tt), λ h. tt)
new_distinct (v ∷ vs) bound =
    let r = new_distinct vs (v ∷ bound) in
    let m = none_among_more v vs bound in (
      λ h. (let q = r.0 h.1 in let p = m.0 q.1 in ((p.0, q.0), (h.0, p.1))),
      λ h. (h.1.0, r.1 (h.0.1, m.1 (h.0.0, h.1.1))),
    )

none_among_nothing : (vs : List ℕ) → NoneAmong vs []
unfolding NoneAmong among
none_among_nothing [] = tt
none_among_nothing (v ∷ vs) = (refl, none_among_nothing vs)

-- ------------------------------------------------------------------ the walk

used_goes_on : {A : Type 0} {a : A} (b : Bool) (o : Result A Refusal) (r : Refusal) → (when b then o else Err r) ≡ Ok a → (b ≡ true) × (o ≡ Ok a)
used_goes_on true o r h = (refl, h)
used_goes_on false o r h = stop_is_not_on h

bound_goes_on : {A : Type 0} {a : A} (b : Bool) (o : Result A Refusal) (r : Refusal) → (when b then Err r else o) ≡ Ok a → (b ≡ false) × (o ≡ Ok a)
bound_goes_on true o r h = stop_is_not_on h
bound_goes_on false o r h = (refl, h)

binding_append : (r : Role) (v : ℕ) (xs ys : List ℕ) → binding r v xs ++ ys ≡ binding r v (xs ++ ys)
unfolding binding
binding_append Binds v xs ys = refl
binding_append Uses v xs ys = refl
binding_append Calls v xs ys = refl
binding_append Neither v xs ys = refl

-- of a sheet with `count` procedures
module _ (count : ℕ) where
  -- when the walk over a step goes on, and when that over an expression does: what is bound behind it, vs, is new after all that it binds
  step_walk_lem : (r : Role) (k v : ℕ) (inside bound b : List ℕ) → scope_step count r k v inside bound ≡ Ok b
      → StepInside count inside r v × ((vs : List ℕ) → EachNew vs b → EachNew (binding r v vs) bound)
  unfolding scope_step StepInside binding EachNew
  step_walk_lem Binds k v inside bound b h =
      let (new, same) = bound_goes_on _ _ _ h in
      (tt, λ vs news. (new, subst (EachNew vs) (sym (on_injective same)) news))
  step_walk_lem Uses k v inside bound b h =
      let (used, same) = used_goes_on _ _ _ h in
      (used, λ vs news. subst (EachNew vs) (sym (on_injective same)) news)
  step_walk_lem Calls k f inside bound b h =
      let (there, same) = used_goes_on _ _ _ h in
      (ltb-true f count there, λ vs news. subst (EachNew vs) (sym (on_injective same)) news)
  step_walk_lem Neither k v inside bound b h = (tt, λ vs news. subst (EachNew vs) (sym (on_injective h)) news)

  walk : (e : Expr) (inside bound b : List ℕ) → scope count e inside bound ≡ Ok b
      → UsedInside count inside e × ((vs : List ℕ) → EachNew vs b → EachNew (binders e ++ vs) bound)
  unfolding scope binders UsedInside
  walk (leaf w k v) inside bound b h =
      let (used, new) = step_walk_lem _ k.line v inside bound b h in
      (used, λ vs news. rw (binding_append (role (Leaf w)) v [] vs) (new vs news))
  walk (unary w k v e) inside bound b h =
      bind_through _ _ h λ c h₁ h₂.
      let (used, new) = step_walk_lem _ k.line v inside bound c h₁ in
      let (used₁, new₁) = walk e inside c b h₂ in
      ((used, used₁), λ vs news. rw (binding_append (role (Unary w)) v (binders e) vs) (new _ (new₁ vs news)))
  walk (binary w k v e₁ e₂) inside bound b h =
      bind_through _ _ h λ c h₁ h'.
      bind_through _ _ h' λ d h₂ h₃.
      let (used, new) = step_walk_lem _ k.line v inside bound c h₁ in
      let (used₁, new₁) = walk e₁ inside c d h₂ in
      let (used₂, new₂) = walk e₂ (binding (role (Binary w)) v inside) d b h₃ in (
        (used, used₁, used₂),
        λ vs news. rw (binding_append (role (Binary w)) v (binders e₁ ++ binders e₂) vs, append_assoc (binders e₁) (binders e₂) vs)
            (new _ (new₁ _ (new₂ vs news))),
      )

  -- and back
  step_walked : (r : Role) (k v : ℕ) (inside bound vs : List ℕ) → StepInside count inside r v → EachNew (binding r v vs) bound
      → (b : List ℕ) × (scope_step count r k v inside bound ≡ Ok b) × EachNew vs b
  unfolding scope_step StepInside binding EachNew
  step_walked Binds k v inside bound vs used new = (v ∷ bound, rw new.0, new.1)
  step_walked Uses k v inside bound vs used new = (bound, rw used, new)
  step_walked Calls k f inside bound vs used new = (bound, rw (lt-ltb f count used), new)
  step_walked Neither k v inside bound vs used new = (bound, refl, new)

  walked : (e : Expr) (inside bound vs : List ℕ) → UsedInside count inside e → EachNew (binders e ++ vs) bound
      → (b : List ℕ) × (scope count e inside bound ≡ Ok b) × EachNew vs b
  unfolding scope binders UsedInside
  walked (leaf w k v) inside bound vs used new =
      step_walked _ k.line v inside bound vs used (rw (binding_append (role (Leaf w)) v [] vs) at new)
  walked (unary w k v e) inside bound vs used new =
      let (c, h₁, new₁) = step_walked _ k.line v inside bound (binders e ++ vs) used.0 (rw (binding_append (role (Unary w)) v (binders e) vs) at new) in
      let (b, h₂, news) = walked e inside c vs used.1 new₁ in
      (b, goes_on_bind _ _ h₁ h₂, news)
  walked (binary w k v e₁ e₂) inside bound vs used new =
      let (c, h₁, new₁) = step_walked _ k.line v inside bound (binders e₁ ++ (binders e₂ ++ vs)) used.0
      (rw (binding_append (role (Binary w)) v (binders e₁ ++ binders e₂) vs, append_assoc (binders e₁) (binders e₂) vs) at new) in
      let (d, h₂, new₂) = walked e₁ inside c (binders e₂ ++ vs) used.1 new₁ in
      let (b, h₃, news) = walked e₂ (binding (role (Binary w)) v inside) d vs used.2 new₂ in
      (b, goes_on_bind _ _ h₁ (goes_on_bind _ _ h₂ h₃), news)

  -- ---------------------------------------------------------------- procedures and the root

  walk_all : (ps : List Procedure) (root : Expr) (bound b : List ℕ) → scopes count ps root bound ≡ Ok b
      → AllUsedInside count ps root × ((vs : List ℕ) → EachNew vs b → EachNew (all_binders ps root ++ vs) bound)
  unfolding scopes all_binders AllUsedInside StepInside binding
  walk_all [] root bound b h = walk root [] bound b h
  walk_all (p ∷ ps) root bound b h =
      bind_through _ _ h λ c h₁ h'.
      bind_through _ _ h' λ d h₂ h₃.
      let (_, new) = step_walk_lem Binds p.line p.parameter [] bound c h₁ in
      let (used₁, new₁) = walk p.body (p.parameter ∷ []) c d h₂ in
      let (used₂, new₂) = walk_all ps root d b h₃ in (
        (used₁, used₂),
        λ vs news. rw (append_assoc (binders p.body) (all_binders ps root) vs) (new _ (new₁ _ (new₂ vs news))),
      )

  walked_all : (ps : List Procedure) (root : Expr) (bound vs : List ℕ) → AllUsedInside count ps root → EachNew (all_binders ps root ++ vs) bound
      → (b : List ℕ) × (scopes count ps root bound ≡ Ok b) × EachNew vs b
  unfolding scopes all_binders AllUsedInside StepInside binding
  walked_all [] root bound vs used new = walked root [] bound vs used new
  walked_all (p ∷ ps) root bound vs used new =
      let (c, h₁, new₁) = step_walked Binds p.line p.parameter [] bound (binders p.body ++ (all_binders ps root ++ vs)) tt
      (rw (append_assoc (binders p.body) (all_binders ps root) vs) at new) in
      let (d, h₂, new₂) = walked p.body (p.parameter ∷ []) c (all_binders ps root ++ vs) used.0 new₁ in
      let (b, h₃, news) = walked_all ps root d vs used.1 new₂ in
      (b, goes_on_bind _ _ h₁ (goes_on_bind _ _ h₂ h₃), news)

  pub scoped_once_inside : {b : List ℕ} (ps : List Procedure) (root : Expr) → scopes count ps root [] ≡ Ok b
      → Distinct (all_binders ps root) × AllUsedInside count ps root
  unfolding EachNew
  scoped_once_inside {b} ps root h =
      let (used, new) = walk_all ps root [] b h in
      (((new_distinct (all_binders ps root) []).0 (subst (λ vs. EachNew vs []) (append-nil (all_binders ps root)) (new [] tt))).0, used)

  pub once_inside_scoped : (ps : List Procedure) (root : Expr) → Distinct (all_binders ps root) → AllUsedInside count ps root
      → (b : List ℕ) × (scopes count ps root [] ≡ Ok b)
  once_inside_scoped ps root once used =
      let new = (new_distinct (all_binders ps root) []).1 (once, none_among_nothing (all_binders ps root)) in
      let (b, scoped, _) = walked_all ps root [] [] used (subst (λ vs. EachNew vs []) (sym (append-nil (all_binders ps root))) new) in
      (b, scoped)
