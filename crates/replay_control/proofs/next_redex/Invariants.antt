-- What is found from here is what is found from the start.
use Rattle.std.proofs.Common.{◌≡◌, ◌-◌}
use Rattle.replay_control.specs.Control.{found}
use Rattle.replay_control.proofs.next_redex.Given as goal

abbrev pub invariant-loop : goal.invariant-loop
invariant-loop l = found 2048 l.program l.initial.space l.initial.g ≡ found (2048 - l.counter) l.program l.space l.g
