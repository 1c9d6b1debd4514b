-- Laws of Boolean tests.
use mathlib.Core.Path.{◌≡◌, refl, sym}
use mathlib.Core.List.{List, [], ◌∷◌}
use mathlib.Core.Bool.{Bool, true, false, ◌&&◌}
use Prim.Native.Nat.{ℕ}
use lib.Dec.{eqb}
use borrow.Author.Tests.{eqb-true, eqb-false, eq-eqb, ne_eqb}
use Rattle.spec.specs.Text.{same}
use Rattle.spec.proofs.Clashes.{true_is_not_false}

pub both_true : (a b : Bool) → (a && b) ≡ true → (a ≡ true) × (b ≡ true)
both_true true b h = (refl, h)
both_true false b h = true_is_not_false (sym h)

pub and_true : (a : Bool) → (a && true) ≡ a
and_true true = refl
and_true false = refl

pub same_equal : (a b : List ℕ) → same a b ≡ true → a ≡ b
unfolding same
same_equal [] [] h = refl
same_equal [] (y ∷ b) h = true_is_not_false (sym h)
same_equal (x ∷ a) [] h = true_is_not_false (sym h)
same_equal (x ∷ a) (y ∷ b) h =
    let both = both_true (eqb x y) (same a b) h in
    let first = eqb-true x y both.0 in
    let rest = same_equal a b both.1 in
    cc

pub eqb_sym : (a b : ℕ) → eqb a b ≡ eqb b a
eqb_sym a b = sym (either (eqb a b) refl)
  where
    either : (t : Bool) → eqb a b ≡ t → eqb b a ≡ t
    either true e = eq-eqb b a (sym (eqb-true a b e))
    either false e = ne_eqb b a (λ p. eqb-false a b e (sym p))
