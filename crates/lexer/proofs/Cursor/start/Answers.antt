-- The cursor in front of a text.
use mathlib.Core.Path.{refl}
use Rattle.lexer.specs.Cursors.{start}
use Rattle.lexer.proofs.Cursor.start.Goals as goal

pub returns : goal.returns
unfolding start
returns c = refl
