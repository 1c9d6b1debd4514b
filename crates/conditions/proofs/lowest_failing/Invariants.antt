-- The lowest location from l on at which the relation fails is the lowest of all.
use Rattle.std.proofs.Common.{◌≡◌, ◌-◌}
use Rattle.conditions.specs.Relation.{fails_from, fails}
use Rattle.conditions.proofs.lowest_failing.Given as goal

abbrev pub invariant-loop-l : goal.invariant-loop-l
invariant-loop-l l = fails l.work l.locations l.relation ≡ fails_from l.work l.relation l.l (l.l-end - l.l)
