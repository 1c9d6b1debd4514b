-- The loop's invariant: from here on the walk comes to what it comes to from the top.
use Rattle.program_tree.proofs.TreeLoop.{Walked}
use Rattle.program_tree.proofs.Stored.structure.Given as goal

abbrev pub invariant-loop-f : goal.invariant-loop-f
invariant-loop-f l = Walked l.self l.count l.initial.work l.work l.i l.f
