-- Where the word cannot step the threads are as they were.
use mathlib.Core.Path.{refl}
use Rattle.replay_engine.specs.Steps.{act_step}
use Rattle.replay_engine.proofs.finish_step.Goals as goal

pub returns-in-Err : goal.returns-in-Err
unfolding act_step
returns-in-Err c = rw (c.in-Err.is, c.of.ensures) refl
