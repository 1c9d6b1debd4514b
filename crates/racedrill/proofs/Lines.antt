-- The line that tells of a pair: its parts, and its length.
use mathlib.Core.Path.{◌≡◌, refl}
use mathlib.Core.List.{[], ◌∷◌, ◌++◌, map}
use Prim.Native.Nat.{ℕ, ◌+◌, ◌≤◌, ◌<◌}
use native.Mathlib.Omega.{arith}
use lib.ListN.{length, length-append}
use Rattle.spec.specs.Text.{bytes}
use Rattle.text_theory.specs.Text.{decimal, line}
use Rattle.text_theory.proofs.Decimal.{decimal_length}
use Rattle.racedrill.specs.Line.{drill_line}

module _ (x p s : ℕ) where
  pub line_parts : drill_line x p s ≡ bytes "DRILL," ++ line (map decimal (x ∷ p ∷ s ∷ [])) []
  unfolding bytes line drill_line
  line_parts = refl

  numbers_long : length (line (map decimal (x ∷ p ∷ s ∷ [])) []) ≡ length (decimal x) + length (decimal p) + length (decimal s) + 3
  unfolding line
  numbers_long = rw (length-append (decimal x), length-append (decimal p), length-append (decimal s)) (omega arith)

  -- a number of 32 bits has at most ten digits
  pub line_short : x < 4294967296 → p < 4294967296 → s < 4294967296 → length (drill_line x p s) ≤ 39
  unfolding bytes
  line_short hx hp hs =
      let lx = decimal_length 10 x (omega arith) (omega arith) in
      let lp = decimal_length 10 p (omega arith) (omega arith) in
      let ls = decimal_length 10 s (omega arith) (omega arith) in
      rw line_parts (omega (arith, numbers_long))
