-- A loop and a call test what their part leaves.
use Rattle.fill_transfer.specs.AfterSteps.{after_unary}
use Rattle.fill_transfer.proofs.AfterParts.{if_met}
use Rattle.fill_transfer.proofs.steps.after_unary.Goals as goal

pub returns-in-Loop : goal.returns-in-Loop
unfolding after_unary
returns-in-Loop c = rw (c.in-Loop.is, c.then_some.ensures) (if_met _ _)

pub returns-in-Call : goal.returns-in-Call
unfolding after_unary
returns-in-Call c = rw (c.in-Call.is, c.then_some-in-Call.ensures) (if_met _ _)
