-- Different cases are never equal.
use Rattle.std.proofs.Common.{None, Some}
use mathlib.Core.Path.{◌≡◌, refl}
use mathlib.Core.Bool.{Bool, true, false}
use Prim.Native.Nat.{ℕ}
use native.Mathlib.Omega.{arith}

pub true_is_not_false {ℓ} : {C : Type ℓ} → true ≡ false → C
true_is_not_false h = let clash : ◌≡◌ {A = ℕ} 0 1 = cc in absurd (omega arith)

pub none_is_not_some {ℓ} : {A : Type 0} {C : Type ℓ} {a : A} → None ≡ Some a → C
none_is_not_some h = let clash : ◌≡◌ {A = ℕ} 0 1 = cc in absurd (omega arith)

pub not_true_false : (t : Bool) → (t ≡ true → ⊥) → t ≡ false
not_true_false true h = absurd (h refl)
not_true_false false h = refl
