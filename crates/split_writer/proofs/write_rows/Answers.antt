use Rattle.std.proofs.Common.{◌≡◌, arith}
use Rattle.text_theory.specs.Text.{text}
use Rattle.writer.proofs.Buffer.{said, ◌then◌, nothing}
use Rattle.split_writer.specs.Stored.{in_order}
use Rattle.split_writer.proofs.Parts.{lines_more}
use Rattle.split_writer.proofs.write_rows.Goals as goal

pub loop-step-init : goal.loop-step-init
unfolding in_order text
loop-step-init c = nothing

pub loop-step-preserved : goal.loop-step-preserved
loop-step-preserved c = said (lines_more _ _ _) (c.loop-step.invariant then c.write_row.ensures)

pub returns : goal.returns
returns c = let all : c.loop-step.step ≡ c.args.steps = omega arith in rw all at c.loop-step.invariant
