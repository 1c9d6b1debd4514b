-- By what was read: a refusal is told, else the rules decide.
use Rattle.std.proofs.Common.{ap, ◌∙◌}
use Rattle.std.proofs.lemmas.Result.{err_from_is_err_and}
use Rattle.checker.proofs.Stages.{sheet_refused, sheets_ruled}
use Rattle.checker.proofs.check_texts.Goals as goal

pub returns-in_err-held : goal.returns-in_err-held
returns-in_err-held c =
    let p = err_from_is_err_and c.from_residual.result c.from_residual.ensures.1 in
    rw (p.1, p.2) (sheet_refused _ _ _ c.in_err-held.ensures)

pub returns : goal.returns
returns c = sheets_ruled _ _ _ _ _ _ c.in_ok-held.ensures c.check.ensures
