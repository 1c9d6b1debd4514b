-- Linking what is left gives what linking all of it gives.
use Rattle.std.proofs.Common.{◌≡◌, ◌-◌}
use Rattle.replay_control.specs.Continuations.{linked_from}
use Rattle.replay_control.proofs.continuations.link_steps.Given as goal

abbrev pub invariant-loop-k : goal.invariant-loop-k
invariant-loop-k l = linked_from l.program l.k (l.n - l.k) ≡ linked_from l.initial.program 0 l.n
