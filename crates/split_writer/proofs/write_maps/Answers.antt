use Rattle.std.proofs.Common.{◌≡◌, arith}
use Rattle.text_theory.specs.Text.{text}
use Rattle.writer.proofs.Buffer.{said, ◌then◌, nothing}
use Rattle.split_writer.specs.Stored.{in_order}
use Rattle.split_writer.proofs.Parts.{lines_more, map_parts}
use Rattle.split_writer.proofs.write_maps.Goals as goal

pub loop-m-init : goal.loop-m-init
unfolding in_order text
loop-m-init c = nothing

pub loop-m-preserved : goal.loop-m-preserved
loop-m-preserved c = said (lines_more _ _ _) (c.loop-m.invariant then said (map_parts _ _ _) c.numbers.ensures)

pub returns : goal.returns
returns c = let all : c.loop-m.m ≡ c.args.maps = omega arith in rw all at c.loop-m.invariant
