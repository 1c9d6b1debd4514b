-- A sheet is what filling wrote; a refusal is its line.
use Rattle.std.proofs.Common.{refl, rules}
use Rattle.spec.specs.Split.{split_limit}
use Rattle.spec.specs.Workspace.{workspace_size}
use Rattle.racefill.proofs.Outputs.{same_fill, sheet_in_front, refusal_in_front}
use Rattle.racefill.proofs.fill_texts.Goals as goal

pub returns-in-Ok : goal.returns-in-Ok
unfolding workspace_size
returns-in-Ok c =
    sheet_in_front _ c.args.program.now c.args.split.now c.args.out.now _ _ (same_fill _ _ refl c.requires) c.fill.ensures.answer c.fill.ensures.written c.in-Ok.is

pub returns-in-Err : goal.returns-in-Err
unfolding workspace_size split_limit
returns-in-Err c =
    refusal_in_front _ _ _ _ (same_fill _ _ refl c.requires) c.fill.ensures.answer c.in-Err.is c.write_line.ensures.line c.write_line.ensures.short (search rules)
