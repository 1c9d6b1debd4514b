-- The header, field by field, and the types.
use Rattle.spec.specs.Text.{bytes}
use Rattle.writer.proofs.Buffer.{said, ◌then◌}
use Rattle.drill.proofs.Parts.{head_parts}
use Rattle.drill.proofs.split_sheet.write_head.Goals as goal

pub returns : goal.returns
unfolding bytes
returns c =
    said (head_parts _)
    (c.bytes.ensures then c.field.ensures then c.bytes-2.ensures then c.field-2.ensures then c.bytes-3.ensures then c.field-3.ensures then c.bytes-4.ensures)
