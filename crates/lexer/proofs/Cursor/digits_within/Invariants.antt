-- The loop's invariant: the digits taken so far, with what is left of the field from the byte reached, are the field.
use Prim.Native.Nat.{◌<◌, ◌-◌, ◌^◌}
use Rattle.lexer.proofs.FirstDigits.{Reached}
use Rattle.lexer.proofs.Cursor.digits_within.Given as goal

abbrev pub invariant-loop-to : goal.invariant-loop-to
invariant-loop-to l = (l.value < 10 ^ (l.to - l.from)) × Reached l.text l.from l.to l.value
