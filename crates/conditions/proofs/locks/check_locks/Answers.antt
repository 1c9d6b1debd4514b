use Rattle.std.proofs.Common.{sym, ◌∙◌, arith}
use Rattle.conditions.proofs.LockLines.{locks_refused, locks_later, locks_done}
use Rattle.conditions.proofs.locks.check_locks.Goals as goal

pub returns-then-not-takes_enough : goal.returns-then-not-takes_enough
returns-then-not-takes_enough c =
    sym (c.loop-t.invariant ∙ locks_refused _ _ _ _ (omega arith) (sym c.takes_enough.ensures ∙ c.if-not-takes_enough.true))

pub loop-t-preserved : goal.loop-t-preserved
loop-t-preserved c =
    c.loop-t.invariant ∙ locks_later _ _ _ _ (omega arith) (sym c.takes_enough.ensures ∙ c.if-not-takes_enough.false)

pub returns : goal.returns
returns c = sym (c.loop-t.invariant ∙ locks_done _ _ _ _ (omega arith))
