-- What the lines from type t on come to is what all come to.
use Rattle.std.proofs.Common.{◌≡◌, ◌-◌}
use Rattle.conditions.specs.SheetOutcomes.{locks_outcome}
use Rattle.conditions.proofs.locks.check_locks.Given as goal

abbrev pub invariant-loop-t : goal.invariant-loop-t
invariant-loop-t l = locks_outcome l.work l.locations 0 l.types ≡ locks_outcome l.work l.locations l.t (l.types - l.t)
