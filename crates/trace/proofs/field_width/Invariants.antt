-- The loop's invariant: the field ends at the same byte, seen from the front and from the byte reached.
use Rattle.std.proofs.Common.{◌≡◌, ◌+◌, drop}
use Rattle.lexer.specs.Views.{width}
use Rattle.trace.proofs.field_width.Given as goal

abbrev pub invariant-loop-i : goal.invariant-loop-i
invariant-loop-i l = width l.rest ≡ l.i + width (drop l.i l.rest)
