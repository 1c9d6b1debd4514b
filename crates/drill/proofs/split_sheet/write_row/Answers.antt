-- The type, the post, and nothing.
use Rattle.writer.proofs.Buffer.{said, ◌then◌}
use Rattle.drill.proofs.Parts.{row_parts}
use Rattle.drill.proofs.split_sheet.write_row.Goals as goal

pub returns : goal.returns
returns c = said (rw (c.from.ensures, c.from-2.ensures) (row_parts _ _)) (c.field.ensures then c.field-2.ensures then c.byte.ensures)
