-- A line with one field more, a `0`: its numerals, and that it is one line.
use Rattle.std.proofs.Common.{Option, None, Some}
use mathlib.Core.Path.{◌≡◌, refl, ap, ◌∙◌}
use mathlib.Core.List.{List, [], ◌∷◌, ◌++◌}
use Prim.Native.Nat.{ℕ, ◌<◌}
use native.Mathlib.Omega.{arith}
use Rattle.spec.specs.Text.{Field, digit_limit, digits, leading_zero, value, numeral}
use Rattle.spec.specs.Reading.{with_numeral, numerals}
use Rattle.compatibility.specs.Texts.{OneLine}

unfoldable pub with_zero : Option (List ℕ) → Option (List ℕ)
with_zero None = None
with_zero (Some ns) = Some (ns ++ 0 ∷ [])

zero_behind : (n : Option ℕ) (o : Option (List ℕ)) → with_numeral n (with_zero o) ≡ with_zero (with_numeral n o)
unfolding with_numeral with_zero
zero_behind None o = refl
zero_behind (Some n) None = refl
zero_behind (Some n) (Some ns) = refl

zero_numeral : numeral (48 ∷ []) ≡ Some 0
unfolding numeral digit_limit digits leading_zero value
zero_numeral = refl

pub numerals_zero : (fs : List Field) → numerals (fs ++ (48 ∷ []) ∷ []) ≡ with_zero (numerals fs)
unfolding numerals
numerals_zero [] = unfold with_numeral with_zero in rw zero_numeral
numerals_zero (f ∷ fs) = ap (with_numeral (numeral f)) (numerals_zero fs) ∙ zero_behind (numeral f) (numerals fs)

pub one_line_append : (l k : List ℕ) → OneLine l → OneLine k → OneLine (l ++ k)
one_line_append [] k h h' = h'
one_line_append (b ∷ l) k h h' = (h.0, one_line_append l k h.1 h')

pub not_ten : (b : ℕ) → 10 < b → b ≡ 10 → ⊥
not_ten b h e = omega (arith, h, e)
