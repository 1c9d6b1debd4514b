-- The loop's invariant: the numbers of the line are those stored so far, and then those of the line from the byte reached.
use mathlib.Core.Path.{◌≡◌}
use lib.ListN.{length, take}
use Rattle.lexer.specs.Views.{line_at}
use Rattle.lexer.specs.Cursors.{Placed, rest}
use Rattle.lexer.specs.Numbers.{numbers_in}
use Rattle.lexer.proofs.LineNumbers.{ahead}
use Rattle.lexer.proofs.Cursor.numbers.Given as goal

abbrev pub invariant-loop-i : goal.invariant-loop-i
invariant-loop-i l =
    (length l.into ≡ length l.initial.into) × Placed l.text l.cursor × (l.cursor.line ≡ l.initial.cursor.line)
    × (numbers_in (line_at (rest l.text l.initial.cursor)) ≡ ahead (take l.i l.into) (numbers_in (line_at (rest l.text l.cursor))))
