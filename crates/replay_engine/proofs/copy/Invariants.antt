-- Copying what is left gives what copying all of it gives.
use Rattle.std.proofs.Common.{◌≡◌, ◌-◌}
use Rattle.replay_engine.specs.Steps.{copied_from}
use Rattle.replay_engine.proofs.copy.Given as goal

abbrev pub invariant-loop-x : goal.invariant-loop-x
invariant-loop-x l = copied_from l.space l.from l.to l.x (256 - l.x) ≡ copied_from l.initial.space l.from l.to 0 256
