-- Joining what is left gives what joining all of it gives.
use Rattle.std.proofs.Common.{◌≡◌, ◌-◌}
use Rattle.replay_control.specs.Continuations.{bodies_joined}
use Rattle.replay_control.proofs.continuations.link_bodies.Given as goal

abbrev pub invariant-loop-f : goal.invariant-loop-f
invariant-loop-f l = bodies_joined l.program l.f (l.procedures - l.f) ≡ bodies_joined l.initial.program 0 l.procedures
