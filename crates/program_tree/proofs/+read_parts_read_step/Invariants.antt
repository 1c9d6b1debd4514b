-- Reading a step calls reading of its parts, which calls reading of a step. The measure is twice the lines left, and one
-- more for the parts: a step passes its own line, and a first part at least one before the second is read.
use Rattle.std.proofs.Common.{◌+◌, ◌-◌, ◌*◌}
use Rattle.program_tree.proofs.+read_parts_read_step.Given as goal

abbrev pub decreases-read_parts : goal.decreases-read_parts
decreases-read_parts l = 2 * (l.n - l.k) + 1

abbrev pub decreases-read_step : goal.decreases-read_step
decreases-read_step l = 2 * (l.n - l.k)
