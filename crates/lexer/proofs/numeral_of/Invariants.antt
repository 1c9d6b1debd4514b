-- The loop's invariant: the digits read so far come to `value`, and what they come to with the rest is the whole.
use mathlib.Core.Path.{◌≡◌}
use Prim.Native.Nat.{◌<◌, ◌^◌}
use lib.ListN.{drop}
use Rattle.spec.specs.Text.{digits, value as value_of}
use Rattle.lexer.proofs.numeral_of.Given as goal

abbrev pub invariant-loop-b : goal.invariant-loop-b
invariant-loop-b l =
    (l.value < 10 ^ l.b-index) × (digits (drop l.b-index l.field) ≡ digits l.field) × (value_of l.value (drop l.b-index l.field) ≡ value_of 0 l.field)
