-- What is held is a part of the buffer; the lengths stay.
use Rattle.std.proofs.Common.{length, ◌≤◌}
use Rattle.racereplay.proofs.replay_through.Given as goal

abbrev pub invariant-loop : goal.invariant-loop
invariant-loop g l = l.held ≤ length l.buffer
