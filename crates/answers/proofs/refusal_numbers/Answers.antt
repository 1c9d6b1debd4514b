-- The search proves the other arms. This one is told by hand, so that what is wrong shows where its numbers are swapped.
use Rattle.spec.specs.Verdict.{returned}
use Rattle.answers.proofs.refusal_numbers.Goals as goal

pub returns-in-TypeFalse : goal.returns-in-TypeFalse
unfolding returned
returns-in-TypeFalse c = rw c.in-TypeFalse.is c.four_numbers-in-TypeFalse.ensures
