-- Each arm stores the numbers of its answer, so every promise of `drill` is one of the entry.
use Rattle.drill.specs.Answer.{drilled_numbers, returned_by}
use Rattle.entries.proofs.racecheck_drill.Goals as goal

pub returns-in-Some : goal.returns-in-Some
unfolding drilled_numbers returned_by
returns-in-Some c = rw c.in-Some.is at c.drill.ensures

pub returns-in-None : goal.returns-in-None
unfolding drilled_numbers returned_by
returns-in-None c = rw c.in-None.is at c.drill.ensures
