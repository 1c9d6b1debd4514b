use Rattle.std.proofs.Common.{◌≡◌, ◌-◌, arith}
use Rattle.replay_step.specs.Calls.{row_cleared_from, row_cleared}
use Rattle.replay_step.proofs.calls.clear_row.Goals as goal

pub returns : goal.returns
unfolding row_cleared row_cleared_from
returns c = let all : 256 - c.loop-x.x ≡ 0 = omega arith in rw all at c.loop-x.invariant
