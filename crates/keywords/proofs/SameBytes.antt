-- The equality of byte strings, in the code and in the definitions.
use Rattle.std.specs.List.{list_all, zip}
use mathlib.Core.Path.{◌≡◌, refl, ap}
use mathlib.Core.List.{List, [], ◌∷◌}
use mathlib.Core.Bool.{Bool, true, false, ◌&&◌}
use Prim.Native.Nat.{ℕ, suc}
use lib.Dec.{eqb}
use lib.ListN.{length}
use native.Mathlib.Omega.{arith}
use Rattle.spec.specs.Text.{same}
use Rattle.spec.proofs.Tests.{eqb_sym}

-- in either order
pub same_turned : (a b : List ℕ) → same a b ≡ same b a
unfolding same
same_turned [] [] = refl
same_turned [] (y ∷ b) = refl
same_turned (x ∷ a) [] = refl
same_turned (x ∷ a) (y ∷ b) = rw (eqb_sym x y, same_turned a b)

both_false : (t x : Bool) → x ≡ false → (t && x) ≡ false
both_false true x e = e
both_false false x e = refl

-- lists of two lengths differ
pub uneven : (a b : List ℕ) → (length a ≡ length b → ⊥) → same a b ≡ false
unfolding same
uneven [] [] h = absurd (h refl)
uneven [] (y ∷ b) h = refl
uneven (x ∷ a) [] h = refl
uneven (x ∷ a) (y ∷ b) h = both_false (eqb x y) _ (uneven a b (λ e. h (ap suc e)))

-- lists of one length are the same if each pair is
pub pair_by_pair : (a b : List ℕ) → length a ≡ length b → list_all (λ p. eqb p.0 p.1) (zip a b) ≡ same a b
unfolding same
pair_by_pair [] [] h = refl
pair_by_pair [] (y ∷ b) h = absurd (omega arith)
pair_by_pair (x ∷ a) [] h = absurd (omega arith)
pair_by_pair (x ∷ a) (y ∷ b) h = ap (λ (t : Bool). eqb x y && t) (pair_by_pair a b (omega arith))
