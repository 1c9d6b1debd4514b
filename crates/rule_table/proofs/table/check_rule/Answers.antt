-- A rule a line: what its function answers, of what its row looks at, is the row of the table.
use mathlib.Core.Path.{◌∙◌}
use Rattle.rule_rows.specs.Table.{rule_row}
use Rattle.rule_table.specs.Outcome.{rule_outcome}
use Rattle.rule_table.proofs.table.check_rule.Goals as goal

pub returns-in-VAR : goal.returns-in-VAR
unfolding rule_row rule_outcome
returns-in-VAR c = c.check_var.ensures ∙ rw (c.leaf_view.ensures, c.in-VAR.is)

pub returns-in-INT : goal.returns-in-INT
unfolding rule_row rule_outcome
returns-in-INT c = c.check_int.ensures ∙ rw (c.leaf_view-in-INT.ensures, c.in-INT.is)

pub returns-in-LET : goal.returns-in-LET
unfolding rule_row rule_outcome
returns-in-LET c = c.check_let.ensures ∙ rw (c.binary_view.ensures, c.in-LET.is)

pub returns-in-IF : goal.returns-in-IF
unfolding rule_row rule_outcome
returns-in-IF c = c.check_if.ensures ∙ rw (c.binary_view-in-IF.ensures, c.in-IF.is)

pub returns-in-WHILE : goal.returns-in-WHILE
unfolding rule_row rule_outcome
returns-in-WHILE c = c.check_while.ensures ∙ rw (c.unary_view.ensures, c.in-WHILE.is)

pub returns-in-NEWT : goal.returns-in-NEWT
unfolding rule_row rule_outcome
returns-in-NEWT c = c.check_newt.ensures ∙ rw (c.leaf_view-in-NEWT.ensures, c.in-NEWT.is)

pub returns-in-SPAWN : goal.returns-in-SPAWN
unfolding rule_row rule_outcome
returns-in-SPAWN c = c.check_spawn.ensures ∙ rw (c.binary_view-in-SPAWN.ensures, c.in-SPAWN.is)

pub returns-in-JOIN : goal.returns-in-JOIN
unfolding rule_row rule_outcome
returns-in-JOIN c = c.check_join.ensures ∙ rw (c.unary_view-in-JOIN.ensures, c.in-JOIN.is)

pub returns-in-REF : goal.returns-in-REF
unfolding rule_row rule_outcome
returns-in-REF c = c.check_ref.ensures ∙ rw (c.unary_view-in-REF.ensures, c.in-REF.is)

pub returns-in-WRITE : goal.returns-in-WRITE
unfolding rule_row rule_outcome
returns-in-WRITE c = c.check_write.ensures ∙ rw (c.binary_view-in-WRITE.ensures, c.in-WRITE.is)

pub returns-in-READ : goal.returns-in-READ
unfolding rule_row rule_outcome
returns-in-READ c = c.check_read.ensures ∙ rw (c.unary_view-in-READ.ensures, c.in-READ.is)

pub returns-in-NEWL : goal.returns-in-NEWL
unfolding rule_row rule_outcome
returns-in-NEWL c = c.check_newl.ensures ∙ rw (c.leaf_view-in-NEWL.ensures, c.in-NEWL.is)

pub returns-in-LCK : goal.returns-in-LCK
unfolding rule_row rule_outcome
returns-in-LCK c = c.check_lock.ensures ∙ rw (c.unary_view-in-LCK.ensures, c.in-LCK.is)

pub returns-in-ULCK : goal.returns-in-ULCK
unfolding rule_row rule_outcome
returns-in-ULCK c = c.check_unlock.ensures ∙ rw (c.unary_view-in-ULCK.ensures, c.in-ULCK.is)

pub returns-in-NEWSEM : goal.returns-in-NEWSEM
unfolding rule_row rule_outcome
returns-in-NEWSEM c = c.check_newsem.ensures ∙ rw (c.leaf_view-in-NEWSEM.ensures, c.in-NEWSEM.is)

pub returns-in-POST : goal.returns-in-POST
unfolding rule_row rule_outcome
returns-in-POST c = c.check_post.ensures ∙ rw (c.unary_view-in-POST.ensures, c.in-POST.is)

pub returns-in-WAIT : goal.returns-in-WAIT
unfolding rule_row rule_outcome
returns-in-WAIT c = c.check_wait.ensures ∙ rw (c.unary_view-in-WAIT.ensures, c.in-WAIT.is)

pub returns-in-NEWRWLOCK : goal.returns-in-NEWRWLOCK
unfolding rule_row rule_outcome
returns-in-NEWRWLOCK c = c.check_newrwlock.ensures ∙ rw (c.leaf_view-in-NEWRWLOCK.ensures, c.in-NEWRWLOCK.is)

pub returns-in-RDLOCK : goal.returns-in-RDLOCK
unfolding rule_row rule_outcome
returns-in-RDLOCK c = c.check_rdlock.ensures ∙ rw (c.unary_view-in-RDLOCK.ensures, c.in-RDLOCK.is)

pub returns-in-RDUNLOCK : goal.returns-in-RDUNLOCK
unfolding rule_row rule_outcome
returns-in-RDUNLOCK c = c.check_rdunlock.ensures ∙ rw (c.unary_view-in-RDUNLOCK.ensures, c.in-RDUNLOCK.is)

pub returns-in-WRLOCK : goal.returns-in-WRLOCK
unfolding rule_row rule_outcome
returns-in-WRLOCK c = c.check_wrlock.ensures ∙ rw (c.unary_view-in-WRLOCK.ensures, c.in-WRLOCK.is)

pub returns-in-WRUNLOCK : goal.returns-in-WRUNLOCK
unfolding rule_row rule_outcome
returns-in-WRUNLOCK c = c.check_wrunlock.ensures ∙ rw (c.unary_view-in-WRUNLOCK.ensures, c.in-WRUNLOCK.is)

pub returns-in-CALL : goal.returns-in-CALL
unfolding rule_row rule_outcome
returns-in-CALL c = c.check_call.ensures ∙ rw (c.unary_view-in-CALL.ensures, c.in-CALL.is)
