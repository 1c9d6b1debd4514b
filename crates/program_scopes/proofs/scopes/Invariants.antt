-- The loop's invariant: judging the bodies and the root from here on, with the table as it is, comes to what judging all of them
-- does; what is stored for the bodies passed stands in the work space.
use Rattle.program_scopes.proofs.ScopeLoop.{BodiesSoFar}
use Rattle.program_scopes.proofs.scopes.Given as goal

abbrev pub invariant-loop-f : goal.invariant-loop-f
invariant-loop-f l = BodiesSoFar l.n l.count l.initial.work l.work l.table l.f
