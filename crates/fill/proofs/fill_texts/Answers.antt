-- By what was read: a refusal is told, else the sheets are filled.
use Rattle.std.proofs.lemmas.Result.{err_from_is_err_and}
use Rattle.fill.proofs.Stages.{sheet_refused, sheets_given, sheets_filled}
use Rattle.fill.proofs.fill_texts.Goals as goal

pub returns-in_err-held : goal.returns-in_err-held
returns-in_err-held c =
    let p = err_from_is_err_and c.from_residual.result c.from_residual.ensures.1 in
    rw (p.1, p.2) (sheet_refused _ _ _ _ c.in_err-held.ensures)

pub fill_sheets-requires : goal.fill_sheets-requires
fill_sheets-requires c = sheets_given _ _ c.in_ok-held.ensures

pub returns : goal.returns
returns c = sheets_filled _ _ c.in_ok-held.ensures c.fill_sheets.ensures
