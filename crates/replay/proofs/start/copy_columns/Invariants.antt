-- The loop's invariant: the places below i are copied.
use Rattle.replay.proofs.Copying.{CopiedTo}
use Rattle.replay.proofs.start.copy_columns.Given as goal

abbrev pub invariant-loop-i : goal.invariant-loop-i
invariant-loop-i l = CopiedTo l.i l.space l.columns
