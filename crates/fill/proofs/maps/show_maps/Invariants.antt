-- The steps below i show their maps.
use Rattle.fill.specs.Columns.{PostsShown}
use Rattle.fill.proofs.maps.show_maps.Given as goal

abbrev pub invariant-loop-i : goal.invariant-loop-i
invariant-loop-i l = PostsShown l.i l.maps l.initial.work l.work
