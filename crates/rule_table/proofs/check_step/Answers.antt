use mathlib.Core.Path.{◌∙◌}
use Rattle.rule_table.specs.Outcome.{step_outcome}
use Rattle.rule_table.proofs.check_step.Goals as goal

pub returns : goal.returns
unfolding step_outcome
returns c =
    c.check_rule.ensures ∙ rw (c.rule_of-r.ensures, c.cell.ensures)
