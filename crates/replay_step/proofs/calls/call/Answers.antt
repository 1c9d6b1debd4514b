use Rattle.replay_step.specs.Calls.{callee_of, call_entered, argument_put, called_space}
use Rattle.replay_step.proofs.calls.call.Goals as goal

pub returns : goal.returns
unfolding call_entered called_space argument_put callee_of
returns c = (
  rw (c.entering.ensures, c.first.ensures, c.at-procedure.ensures, c.index.ensures.0, c.above-row.ensures),
  rw (c.put-2.ensures, c.index-5.ensures.0, c.put.ensures, c.index-4.ensures.0, c.index-3.ensures.0, c.clear_row.ensures, c.at-x.ensures, c.index-2.ensures.0, c.at-procedure.ensures, c.index.ensures.0, c.above-row.ensures),
)
