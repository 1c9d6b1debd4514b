-- The loop's invariant: judging the steps from here on, with the table as it is, comes to what judging all of them does;
-- what is stored for the steps passed stands in the work space.
use Rattle.program_scopes.proofs.ScopeLaws.{ScopesSoFar}
use Rattle.program_scopes.proofs.scope_steps.Given as goal

abbrev pub invariant-loop-k : goal.invariant-loop-k
invariant-loop-k l = ScopesSoFar l.count l.from l.to l.initial.work l.work l.initial.table l.table l.k
