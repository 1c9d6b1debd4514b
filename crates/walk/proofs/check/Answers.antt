-- The lock lines, the start, then the procedures and the root; proofs/Procedures.antt says what they come to for the sheets.
use Rattle.std.proofs.Common.{◌+◌, sym, ◌∙◌}
use Rattle.workspace.specs.Layout.{pres_at}
use Rattle.workspace.proofs.Region.{changed_nothing}
use Rattle.conditions.specs.Outcome.{both}
use Rattle.conditions.proofs.FirstFalse.{both_stops, both_goes_on, refused_by}
use Rattle.conditions.proofs.LockLines.{locks_shown}
use Rattle.walk.proofs.Procedures.{start_judged}
use Rattle.walk.proofs.check.Goals as goal

pub returns-in_err-check_locks : goal.returns-in_err-check_locks
unfolding both
returns-in_err-check_locks c =
    record {
      answers = λ P S H counted.
          refused_by _ c.from_residual.ensures.1
          ∙ rw (← locks_shown _ S _ H.split H.in_range _ H.locations_given _ counted) (sym (both_stops _ _ (sym c.in_err-check_locks.ensures)));
      changed = changed_nothing pres_at (pres_at + 256) _;
    }

pub returns-in_err-check_start : goal.returns-in_err-check_start
unfolding both
returns-in_err-check_start c =
    record {
      answers = λ P S H counted.
          refused_by _ c.from_residual-in_err-check_start.ensures.1
          ∙ rw (← locks_shown _ S _ H.split H.in_range _ H.locations_given _ counted)
          (sym (both_goes_on _ _ (sym c.in_ok-check_locks.ensures)
          ∙ both_stops _ _ (sym (start_judged _ _ _ _ _ _ P S H c.cell-root.ensures c.cell-line.ensures c.in_err-check_start.ensures))));
      changed = changed_nothing pres_at (pres_at + 256) _;
    }

pub returns : goal.returns
unfolding both
returns c =
    record {
      answers = λ P S H counted.
          c.check_program.ensures.answers P S H
          ∙ sym (both_goes_on _ _ (sym (start_judged _ _ _ _ _ _ P S H c.cell-root.ensures c.cell-line.ensures c.in_ok-check_start.ensures)))
          ∙ sym (both_goes_on _ _ (sym c.in_ok-check_locks.ensures))
          ∙ rw (locks_shown _ S _ H.split H.in_range _ H.locations_given _ counted);
      changed = c.check_program.ensures.changed;
    }
