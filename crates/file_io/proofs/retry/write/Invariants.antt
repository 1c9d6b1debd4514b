-- A call that failed has written nothing.
use Rattle.std.specs.Io.KnownBytes.{Keeps}
use Rattle.file_io.proofs.retry.write.Given as goal

abbrev pub invariant-loop : goal.invariant-loop
invariant-loop g l = Keeps (g.W.Write.contents l.initial.out) (g.W.Write.contents l.out)
