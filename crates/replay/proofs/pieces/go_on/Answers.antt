-- One that goes on goes on with the lines of the piece.
use mathlib.Core.Path.{sym, ◌∙◌}
use Rattle.replay.proofs.Joined.{goes_on}
use Rattle.replay.proofs.pieces.go_on.Goals as goal

pub returns : goal.returns
returns c = λ whole C room. c.play.ensures _ (goes_on whole _ _ _ c.args.run _ (sym c.is_some.ensures ∙ c.if-is_some.false) C)
