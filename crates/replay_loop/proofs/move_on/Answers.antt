-- There is room for the threads after a step; and a step past a limit stops the run as such.
use mathlib.Core.Path.{refl}
use native.Mathlib.Omega.{arith}
use Rattle.replay_engine.proofs.Counting.{stepped_few_on_ok}
use Rattle.replay_loop.specs.Play.{ending_of, by_outcome, after_step}
use Rattle.replay_loop.proofs.move_on.Goals as goal

pub overflow_cast-threads : goal.overflow_cast-threads
overflow_cast-threads c =
    let few = rw (c.step.ensures, c.in-Ok.is) at (stepped_few_on_ok c.args.program.now c.args.space.now c.args.p.threads c.args.m.thread c.args.m.choice c.requires.1) in
    omega (arith, few)

pub returns-in-Past : goal.returns-in-Past
unfolding ending_of by_outcome after_step
returns-in-Past c = rw (c.step.ensures, c.in-Err.is, c.in-Past.is, c.stopped-in-Past.ensures) refl
