use Rattle.std.proofs.Common.{◌≡◌, arith}
use Rattle.text_theory.specs.Text.{text}
use Rattle.writer.proofs.Buffer.{said, ◌then◌, nothing}
use Rattle.split_writer.specs.Stored.{in_order}
use Rattle.split_writer.proofs.Parts.{lines_more}
use Rattle.split_writer.proofs.write_signatures.Goals as goal

pub loop-f-init : goal.loop-f-init
unfolding in_order text
loop-f-init c = nothing

pub loop-f-preserved : goal.loop-f-preserved
loop-f-preserved c = said (lines_more _ _ _) (c.loop-f.invariant then c.write_signature.ensures)

pub returns : goal.returns
returns c = let all : c.loop-f.f ≡ c.args.procedures = omega arith in rw all at c.loop-f.invariant
