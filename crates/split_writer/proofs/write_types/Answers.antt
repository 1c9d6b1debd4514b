use Rattle.std.proofs.Common.{◌≡◌, arith}
use Rattle.text_theory.specs.Text.{text}
use Rattle.writer.proofs.Buffer.{said, ◌then◌, nothing}
use Rattle.split_writer.specs.Stored.{in_order, type_stored}
use Rattle.split_writer.proofs.Parts.{lines_more}
use Rattle.split_writer.proofs.write_types.Goals as goal

pub loop-t-init : goal.loop-t-init
unfolding in_order text
loop-t-init c = nothing

pub loop-t-preserved : goal.loop-t-preserved
unfolding type_stored
loop-t-preserved c = said (lines_more _ _ _) (c.loop-t.invariant then rw c.type_at.ensures at c.write_type.ensures)

pub returns : goal.returns
returns c = let all : c.loop-t.t ≡ c.args.types = omega arith in rw all at c.loop-t.invariant
