-- The numbers stored are those of the answer, so every promise of `check` is one of the entry.
use mathlib.Core.Path.{sym, ◌∙◌}
use Rattle.spec.specs.Verdict.{numbers4}
use Rattle.entries.proofs.racecheck_check.Goals as goal

pub returns : goal.returns
unfolding numbers4
returns c = rw (sym (c.store_answer.ensures ∙ c.numbers_of-four.ensures)) at c.check.ensures
