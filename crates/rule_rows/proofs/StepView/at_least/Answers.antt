use Rattle.rule_rows.proofs.StepView.at_least.Goals as goal

pub returns : goal.returns
returns c = c.flow.ensures
