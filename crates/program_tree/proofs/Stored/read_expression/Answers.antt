-- The expression that is due is the first that the steps in front of the next `proc` line list.
use Rattle.program_tree.proofs.StructureLaws.{expression_found}
use Rattle.program_tree.proofs.Stored.read_expression.Goals as goal

pub returns : goal.returns
returns c = expression_found c.limit_at-limit.ensures c.break_line-line.ensures c.read_step.ensures.ended c.ok_or.ensures.value
