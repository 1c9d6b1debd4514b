-- What is left to clear here comes to what there was to clear at first.
use Rattle.std.proofs.Common.{◌≡◌, ◌-◌}
use Rattle.replay_engine.specs.Steps.{zeroed}
use Rattle.replay_engine.proofs.clear_part.Given as goal

abbrev pub invariant-loop-i : goal.invariant-loop-i
invariant-loop-i l = zeroed l.space l.i (l.to - l.i) ≡ zeroed l.initial.space l.from (l.to - l.from)
