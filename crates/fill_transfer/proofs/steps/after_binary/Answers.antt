-- A fork tests what is due before it takes.
use Prim.Native.Nat.{◌<◌, ◌≤◌}
use native.Mathlib.Omega.{arith}
use borrow.Author.Tests.{le-leb, lt-leb}
use Rattle.fill_theory.specs.Found.{◌>>=◌, require}
use Rattle.fill_transfer.specs.AfterSteps.{after_binary}
use Rattle.fill_transfer.proofs.steps.after_binary.Goals as goal

pub returns-then-from-last : goal.returns-then-from-last
unfolding after_binary ◌>>=◌ require
returns-then-from-last c =
    let paid : c.in-Fork.due ≤ c.args.last = omega arith in
    rw (c.in-Fork.is, le-leb, ← c.taking.ensures) c.apply-then-from-last.ensures

pub returns-else-from-last : goal.returns-else-from-last
unfolding after_binary ◌>>=◌ require
returns-else-from-last c =
    let unpaid : c.args.last < c.in-Fork.due = omega arith in
    rw (c.in-Fork.is, lt-leb)
