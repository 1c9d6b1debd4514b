-- The posts of the steps below i are stored, and nothing else is changed.
use Rattle.fill.specs.Columns.{OneColumn}
use Rattle.fill.proofs.Stores.{StoredTo}
use Rattle.fill.proofs.maps.store_column.Given as goal

abbrev pub invariant-loop-i : goal.invariant-loop-i
invariant-loop-i l = OneColumn l.maps l.l l.initial.work l.work × StoredTo l.i l.work l.posts l.maps l.l
