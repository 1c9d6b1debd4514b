-- A line that lists no move stops the run.
use mathlib.Core.Path.{refl, sym, ◌∙◌}
use Rattle.replay_loop.specs.Play.{line_done}
use Rattle.replay_loop.proofs.next_line.Goals as goal

pub returns-in-None : goal.returns-in-None
unfolding line_done
returns-in-None c = rw (sym c.line_at.ensures ∙ c.in-None.is, c.stopped.ensures) refl
