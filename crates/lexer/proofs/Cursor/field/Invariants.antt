-- The loop's invariant: from the cursor and from the byte reached, the field ends at the same byte and in the same way.
use mathlib.Core.Path.{◌≡◌}
use Prim.Native.Nat.{◌+◌}
use lib.ListN.{drop}
use Rattle.lexer.specs.Views.{width, end_of}
use Rattle.lexer.proofs.Cursor.field.Given as goal

abbrev pub invariant-loop-to : goal.invariant-loop-to
invariant-loop-to l =
    (l.self.at + width (drop l.self.at l.text) ≡ l.to + width (drop l.to l.text)) × (end_of (drop l.self.at l.text) ≡ end_of (drop l.to l.text))
