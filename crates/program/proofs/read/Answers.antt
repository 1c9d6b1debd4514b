-- Line 1, and then what stands behind it.
use Rattle.std.proofs.lemmas.Result.{err_from_is_err_and}
use native.Mathlib.Omega.{arith}
use Rattle.program.proofs.Sheets.{sheet_refused, sheet_read}
use Rattle.program.proofs.read.Goals as goal

pub returns-in_err-line_one : goal.returns-in_err-line_one
returns-in_err-line_one c =
    let p = err_from_is_err_and c.from_residual.result c.from_residual.ensures.1 in
    rw (p.1, p.2) (sheet_refused _ _ c.in_err-line_one.ensures)

pub returns : goal.returns
returns c = sheet_read _ c.in_ok-line_one.ensures (omega arith) c.read_lines.ensures
