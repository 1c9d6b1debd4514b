-- The line of an outcome: its parts, and its length.
use mathlib.Core.Path.{◌≡◌, refl}
use mathlib.Core.List.{[], ◌∷◌, ◌++◌, map}
use Prim.Native.Nat.{◌+◌, ◌≤◌, ◌<◌}
use native.Mathlib.Omega.{arith}
use lib.ListN.{length, length-append}
use Rattle.spec.specs.Text.{bytes}
use Rattle.spec.specs.declared.Returned.{Returned}
use Rattle.text_theory.specs.Text.{decimal, line}
use Rattle.text_theory.proofs.Decimal.{decimal_length}
use Rattle.answers.specs.Line.{refusal_line}

-- ------------------------------------------------------------------ a refusal

module _ (x : Returned) where
  pub refusal_parts : refusal_line x ≡ bytes "REFUSE," ++ line (map decimal (x.number ∷ x.line ∷ x.condition ∷ x.location ∷ [])) []
  unfolding bytes line refusal_line
  refusal_parts = refl

  numbers_long : length (line (map decimal (x.number ∷ x.line ∷ x.condition ∷ x.location ∷ [])) [])
      ≡ length (decimal x.number) + length (decimal x.line) + length (decimal x.condition) + length (decimal x.location) + 4
  unfolding line
  numbers_long =
      rw (length-append (decimal x.number), length-append (decimal x.line), length-append (decimal x.condition), length-append (decimal x.location))
      (omega arith)

  -- a number of 32 bits has at most ten digits
  pub refusal_short : x.number < 4294967296 → x.line < 4294967296 → x.condition < 4294967296 → x.location < 4294967296 → length (refusal_line x) ≤ 51
  unfolding bytes
  refusal_short hn hk hc hl =
      let ln = decimal_length 10 x.number (omega arith) (omega arith) in
      let lk = decimal_length 10 x.line (omega arith) (omega arith) in
      let lc = decimal_length 10 x.condition (omega arith) (omega arith) in
      let ll = decimal_length 10 x.location (omega arith) (omega arith) in
      rw refusal_parts (omega (arith, numbers_long))
