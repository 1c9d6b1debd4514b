-- Nothing is left where the cursor is at the text's end.
use mathlib.Core.Path.{sym}
use Rattle.lexer.proofs.Places.{nothing_left}
use Rattle.lexer.proofs.Cursor.at_end.Goals as goal

pub returns : goal.returns
returns c = sym (nothing_left _ _)
