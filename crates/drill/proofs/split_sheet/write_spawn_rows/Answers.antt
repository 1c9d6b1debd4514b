-- The rows of the let, the spawn and its parts.
use Rattle.writer.proofs.Buffer.{said, ◌then◌}
use Rattle.drill.proofs.Parts.{spawn_rows_parts}
use Rattle.drill.proofs.split_sheet.write_spawn_rows.Goals as goal

pub returns : goal.returns
returns c =
    said (spawn_rows_parts _ _)
    (c.write_row.ensures then c.write_start_row.ensures then c.write_row-2.ensures then c.write_row-3.ensures then c.write_row-4.ensures)
