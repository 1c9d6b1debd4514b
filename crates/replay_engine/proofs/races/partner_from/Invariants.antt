-- The search from here finds what the search from the start finds.
use Rattle.std.proofs.Common.{◌≡◌, ◌-◌}
use Rattle.replay_engine.specs.Races.{partner_of}
use Rattle.replay_engine.proofs.races.partner_from.Given as goal

abbrev pub invariant-loop-j : goal.invariant-loop-j
invariant-loop-j l = partner_of l.program l.space l.a l.j (l.count - l.j) ≡ partner_of l.program l.space l.a l.i (l.count - l.i)
