-- The type, the post and the start.
use Rattle.writer.proofs.Buffer.{said, ◌then◌}
use Rattle.drill.proofs.Parts.{start_row_parts}
use Rattle.drill.proofs.split_sheet.write_start_row.Goals as goal

pub returns : goal.returns
returns c =
    said (rw (c.from.ensures, c.from-2.ensures, c.from-3.ensures) (start_row_parts _ _ _))
    (c.field.ensures then c.field-2.ensures then c.field-3.ensures)
