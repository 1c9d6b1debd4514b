-- The search from here finds what the whole search finds.
use Rattle.std.proofs.Common.{◌≡◌, ◌-◌}
use Rattle.replay_engine.specs.Races.{pair_of}
use Rattle.replay_engine.proofs.races.pair_among.Given as goal

abbrev pub invariant-loop-i : goal.invariant-loop-i
invariant-loop-i l = pair_of l.program l.space l.count l.i (l.count - l.i) ≡ pair_of l.program l.space l.count 0 l.count
