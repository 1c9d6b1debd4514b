-- The laws of looking for something, and of one step's effect.
use Rattle.std.proofs.Common.{Option, None, Some}
use mathlib.Core.Path.{◌≡◌, refl}
use mathlib.Core.Bool.{Bool, true, false}
use Prim.Native.Nat.{ℕ, ◌+◌, ◌-◌, ◌≤◌}
use native.Mathlib.Omega.{arith}
use lib.Dec.{leb, eqb}
use borrow.Author.Tests.{leb-true, le-leb, eqb-true, eq-eqb}
use Rattle.spec.proofs.Clashes.{none_is_not_some}
use Rattle.spec.proofs.Tests.{both_true}
use Rattle.spec.specs.Choice.{when◌then◌else◌}
use Rattle.fill_theory.specs.Found.{◌>>=◌, require}
use Rattle.fill_theory.specs.Flow.{Applies}
use Rattle.fill_theory.specs.Pass.{apply, forth}
use Rattle.fill_theory.specs.declared.Effect.{Effect}

pub some_injective : {A : Type 0} {a b : A} → ◌≡◌ {A = Option A} (Some a) (Some b) → a ≡ b
some_injective h = cc

-- the two find something together exactly when the first does and the second does from there; what follows of it is said of whatever
-- the first found
pub bind_through : {A B C : Type 0} {b : B} (m : Option A) (f : A → Option B) → (m >>= f) ≡ Some b → ((a : A) → m ≡ Some a → f a ≡ Some b → C) → C
unfolding ◌>>=◌
bind_through None f h go = none_is_not_some h
bind_through (Some a) f h go = go a refl h

pub finds_bind : {A B : Type 0} {a : A} {o : Option B} (m : Option A) (f : A → Option B) → m ≡ Some a → f a ≡ o → (m >>= f) ≡ o
unfolding ◌>>=◌
finds_bind m f e h = rw e h

pub demand_met : {t : Unit {0}} (m n : ℕ) → require (leb m n) ≡ Some t → m ≤ n
unfolding require
demand_met m n h = go (leb m n) refl h
  where
    go : {t : Unit {0}} (b : Bool) → leb m n ≡ b → require b ≡ Some t → m ≤ n
    go true e h = leb-true m n e
    go false e h = none_is_not_some h

pub met_demand : (m n : ℕ) → m ≤ n → require (leb m n) ≡ Some tt
unfolding require
met_demand m n h = rw (le-leb m n h)

pub exact_met : {t : Unit {0}} (m n : ℕ) → require (eqb m n) ≡ Some t → m ≡ n
unfolding require
exact_met m n h = go (eqb m n) refl h
  where
    go : {t : Unit {0}} (b : Bool) → eqb m n ≡ b → require b ≡ Some t → m ≡ n
    go true e h = eqb-true m n e
    go false e h = none_is_not_some h

pub met_exact : (m n : ℕ) → m ≡ n → require (eqb m n) ≡ Some tt
unfolding require
met_exact m n h = rw (eq-eqb m n h)

chosen : {A : Type 0} {a : A} (b : Bool) (x : A) → (when b then Some x else None) ≡ Some a → (b ≡ true) × (x ≡ a)
chosen true x h = (refl, some_injective h)
chosen false x h = none_is_not_some h

-- a step's effect: the number after is found exactly when there is one, and then it is the one
pub apply_applies : {after : ℕ} (E : Effect) (before : ℕ) → apply E before ≡ Some after → Applies E before after
unfolding forth apply
apply_applies E before h =
    let (passes, same) = chosen _ _ h in
    let (fits, lends) = both_true _ (leb E.lends E.takes) passes in
    let enough = leb-true (E.takes + E.needs) (before + E.gives) fits in
    record { balance = omega (arith, same, enough); enough = omega (arith, same, enough); lent = leb-true _ _ lends }

pub applies_apply : {after : ℕ} (E : Effect) (before : ℕ) → Applies E before after → apply E before ≡ Some after
unfolding forth apply
applies_apply {after} E before t =
    let fits : E.takes + E.needs ≤ before + E.gives = omega (arith, t.balance, t.enough) in
    let same : before + E.gives - E.takes ≡ after = omega (arith, t.balance) in
    rw (le-leb _ _ fits, le-leb _ _ t.lent, same)

pub apply_forth : {after : ℕ} (E : Effect) (before : ℕ) → apply E before ≡ Some after → after ≡ forth E before
unfolding forth
apply_forth E before h = omega (arith, (apply_applies E before h).balance)
