-- Clearing what is left gives what clearing all of it gives.
use Rattle.std.proofs.Common.{◌≡◌, ◌-◌}
use Rattle.replay_step.specs.Calls.{row_cleared_from}
use Rattle.replay_step.proofs.calls.clear_row.Given as goal

abbrev pub invariant-loop-x : goal.invariant-loop-x
invariant-loop-x l = row_cleared_from l.space l.row l.x (256 - l.x) ≡ row_cleared_from l.initial.space l.row 0 256
