-- The head, the maps, and the rows in step order.
use Rattle.std.proofs.Common.{rules, arith}
use Rattle.spec.specs.Text.{bytes}
use Rattle.writer.proofs.Buffer.{said, ◌then◌, at_front}
use Rattle.drill.proofs.Parts.{split_parts}
use Rattle.drill.proofs.split_sheet.write_split.Goals as goal

pub returns : goal.returns
unfolding bytes
returns c =
    at_front c.new-writer.ensures.held c.new-writer.ensures.front (omega arith)
    (said
    (split_parts _)
    (c.write_head.ensures then c.write_maps.ensures then c.bytes.ensures then c.write_all_spawn_rows.ensures then c.write_all_join_rows.ensures then c.bytes-2.ensures))
    (search rules) c.position.ensures
