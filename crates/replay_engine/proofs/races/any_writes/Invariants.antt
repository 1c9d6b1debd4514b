-- The threads from here on say what all of them say.
use Rattle.std.proofs.Common.{◌≡◌, ◌-◌}
use Rattle.replay_engine.specs.Races.{any_writes}
use Rattle.replay_engine.proofs.races.any_writes.Given as goal

abbrev pub invariant-loop-i : goal.invariant-loop-i
invariant-loop-i l = any_writes l.program l.space l.i (l.count - l.i) ≡ any_writes l.program l.space 0 l.count
