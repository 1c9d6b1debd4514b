use Rattle.std.proofs.lemmas.Result.{err_from_is_err_and}
use Rattle.program.proofs.StepLoop.{start, finish, refuses, step_on, proc_on}
use mathlib.Core.Path.{refl}
use Rattle.program.proofs.lines.step_lines.Goals as goal
use Rattle.program.proofs.lines.step_lines.Goals.{in-Step, in-Proc}

pub loop-init : goal.loop-init
loop-init c = start _ _ _ _ _ c.told-work c.requires.1

pub returns-in_err-line : goal.returns-in_err-line
returns-in_err-line c =
    let p = err_from_is_err_and c.from_residual.result c.from_residual.ensures.1 in
    rw (p.1, p.2) (refuses c.loop.invariant c.loop-test.true c.in_err-line.ensures)

pub loop-preserved : goal.loop-preserved
loop-preserved c = elim c.match-line.branch [
  | in-Step w ↦
      step_on c.loop.invariant c.loop-test.true c.told-work c.requires.0 _ _ _ _ (rw w.in-Step.is at c.in_ok-line.ensures)
      w.code_of.ensures _ _ _ _ w.work-is w.cursor-is w.steps-is w.procs-is
  | in-Proc w ↦
      proc_on c.loop.invariant c.loop-test.true c.told-work c.requires.0 _ _ _ (rw w.in-Proc.is at c.in_ok-line.ensures)
      refl _ _ _ _ w.work-is w.cursor-is w.steps-is w.procs-is
]

pub returns : goal.returns
returns c = finish c.loop.invariant c.loop-test.false _
