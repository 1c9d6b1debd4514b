-- The loop's invariant: the steps and the `proc` lines passed are stored, and reading the lines from the cursor on comes to what
-- reading all of them does.
use Rattle.program.proofs.StepLoop.{StepsSoFar}
use Rattle.program.proofs.lines.step_lines.Given as goal

abbrev pub invariant-loop : goal.invariant-loop
invariant-loop l = StepsSoFar l.text l.heading l.n l.initial.cursor l.initial.work l.work l.cursor l.steps l.procs l.counter
