-- The program first; its reader leaves what the split's reader asks for.
use mathlib.Core.Path.{◌∙◌}
use native.Mathlib.Omega.{arith}
use Rattle.std.proofs.lemmas.Result.{err_from_is_err_and}
use Rattle.spec.specs.Program.{program}
use Rattle.spec.proofs.Sheets.{long_program, program_refused}
use Rattle.program.proofs.Found.{program_refused_by, program_read_by, good_program}
use Rattle.sheets.proofs.read.Goals as goal

pub returns-then-program-gt-PROGRAM_LIMIT : goal.returns-then-program-gt-PROGRAM_LIMIT
returns-then-program-gt-PROGRAM_LIMIT c = long_program _ _ _ c.if-program-gt-PROGRAM_LIMIT.true

pub returns-in_err-counts : goal.returns-in_err-counts
returns-in_err-counts c =
    let exit = err_from_is_err_and c.from_residual.result c.from_residual.ensures.1 in
    rw (exit.1, exit.2) (program_refused _ _ _ c.if-program-gt-PROGRAM_LIMIT.false _ (program_refused_by _ _ c.in_err-counts.ensures.answer))

pub read_split-requires : goal.read_split-requires
read_split-requires c =
    let found = program_read_by _ (program c.args.program.now) c.in_ok-counts.ensures.answer in
    record {
      long = c.in_ok-counts.ensures.long ∙ c.requires;
      few = omega (arith, found.steps_counted, found.few);
      few_procedures = omega (arith, found.procedures_counted, found.few_procedures);
      P = found.P;
      holds = found.holds;
      steps_counted = found.steps_counted;
      procedures_counted = found.procedures_counted;
    }

pub returns : goal.returns
returns c =
    let text = c.args.program.now in
    let found = program_read_by _ (program text) c.in_ok-counts.ensures.answer in
    c.read_split.ensures text found.P (good_program text c.if-program-gt-PROGRAM_LIMIT.false found.reads) found.holds
    found.steps_counted found.procedures_counted
