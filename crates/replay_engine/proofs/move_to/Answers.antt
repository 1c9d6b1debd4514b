-- Past the limit of open calls the threads are those after the move.
use mathlib.Core.Path.{refl}
use Rattle.replay_engine.specs.Steps.{outcome_of, moved_to}
use Rattle.replay_engine.proofs.move_to.Goals as goal

pub returns-then-past_calls : goal.returns-then-past_calls
unfolding outcome_of moved_to
returns-then-past_calls c = rw (c.proceed-after.ensures, ← c.past_calls.ensures, c.if-past_calls.true, c.of.ensures) refl
