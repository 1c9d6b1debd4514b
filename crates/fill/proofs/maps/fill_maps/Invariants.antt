-- The columns so far.
use Rattle.fill.proofs.SoFar.{SoFar}
use Rattle.fill.proofs.maps.fill_maps.Given as goal

abbrev pub invariant-loop-l : goal.invariant-loop-l
invariant-loop-l l = SoFar l.initial.work l.work l.header l.steps l.procedures l.l l.large
