-- Each arm stores the numbers of its answer, so every promise of `fill` is one of the entry.
use mathlib.Core.Path.{refl, sym, ◌∙◌}
use Rattle.spec.specs.Verdict.{numbers4}
use Rattle.fill.specs.Numbers.{returned_by}
use Rattle.entries.proofs.racecheck_fill.Goals as goal

pub returns-in-Ok : goal.returns-in-Ok
unfolding returned_by numbers4
returns-in-Ok c =
    let told = rw c.in-Ok.is at c.fill.ensures in
    record {
      answer = told.answer;
      written = told.written;
      cleared = told.cleared;
      unchanged = (refl, refl);
      solvable = told.solvable;
      too_large = told.too_large;
      greatest = told.greatest;
      accepted = told.accepted;
    }

pub returns-in-Err : goal.returns-in-Err
unfolding returned_by numbers4
returns-in-Err c =
    let told = rw c.in-Err.is at c.fill.ensures in
    rw (sym (c.store_answer.ensures ∙ c.numbers_of-four.ensures)) at told
