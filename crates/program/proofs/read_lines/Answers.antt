-- The lines that line 1 counts, then no line behind them, then what they list.
use Rattle.std.proofs.lemmas.Result.{err_from_is_err_and}
use native.Mathlib.Omega.{arith}
use mathlib.Core.Path.{sym, ◌∙◌}
use Rattle.program_lines.proofs.TailLaws.{line_fits}
use Rattle.program.proofs.Sheets.{lines_refused, lines_spare, lines_read, lines_unresolved}
use Rattle.program.proofs.read_lines.Goals as goal

pub returns-in_err-stored : goal.returns-in_err-stored
returns-in_err-stored c =
    let p = err_from_is_err_and c.from_residual.result c.from_residual.ensures.1 in
    rw (p.1, p.2) (lines_refused _ _ c.index-steps.ensures.0 c.index-procedures.ensures.0 c.in_err-stored.ensures)

pub overflow_add-spare : goal.overflow_add-spare
overflow_add-spare c =
    omega (arith, line_fits _ _ c.in_ok-stored.ensures.found.placed (sym c.at_end.ensures ∙ c.if-not-at_end.true))

pub returns-then-not-at_end : goal.returns-then-not-at_end
returns-then-not-at_end c =
    lines_spare _ _ c.index-steps.ensures.0 c.index-procedures.ensures.0 c.in_ok-stored.ensures
    (sym c.at_end.ensures ∙ c.if-not-at_end.true)

pub returns-in_err-resolve : goal.returns-in_err-resolve
returns-in_err-resolve c =
    let p = err_from_is_err_and c.from_residual-in_err-resolve.result c.from_residual-in_err-resolve.ensures.1 in
    rw (p.1, p.2) (lines_unresolved _ _ c.index-steps.ensures.0 c.index-procedures.ensures.0 c.in_ok-stored.ensures
    (sym c.at_end.ensures ∙ c.if-not-at_end.false)
    c.in_err-resolve.ensures)

pub returns : goal.returns
returns c =
    lines_read _ _ c.index-steps.ensures.0 c.index-procedures.ensures.0 c.in_ok-stored.ensures
    (sym c.at_end.ensures ∙ c.if-not-at_end.false)
    c.requires.few_steps
    c.requires.few_procedures
    c.in_ok-resolve.ensures
