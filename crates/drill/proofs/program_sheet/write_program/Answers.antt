-- The header and the lets of cell and identifier, the readers, the joins, the write.
use Rattle.std.proofs.Common.{rules, arith}
use Rattle.spec.specs.Text.{bytes}
use Rattle.writer.proofs.Buffer.{said, ◌then◌, at_front}
use Rattle.drill.proofs.Parts.{program_parts}
use Rattle.drill.proofs.program_sheet.write_program.Goals as goal

pub returns : goal.returns
unfolding bytes
returns c =
    at_front c.new-writer.ensures.held c.new-writer.ensures.front (omega arith)
    (said
    (program_parts _)
    (c.bytes.ensures then c.field.ensures then c.bytes-2.ensures then c.write_lets.ensures then c.write_lets-2.ensures then c.bytes-3.ensures))
    (search rules) c.position.ensures
