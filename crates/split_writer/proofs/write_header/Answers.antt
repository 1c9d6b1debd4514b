-- The heading's name, then its numbers.
use Rattle.spec.specs.Text.{bytes}
use Rattle.writer.proofs.Buffer.{said, ◌then◌}
use Rattle.split_writer.proofs.Parts.{plain_header_parts, started_header_parts, in_out_header_parts}
use Rattle.split_writer.proofs.write_header.Goals as goal

pub returns-in-C : goal.returns-in-C
unfolding bytes
returns-in-C c = said (plain_header_parts _ c.in-C.is) (c.bytes.ensures then c.numbers.ensures)

pub returns-in-C2 : goal.returns-in-C2
unfolding bytes
returns-in-C2 c = said (started_header_parts _ c.in-C2.is) (c.bytes-in-C2.ensures then c.numbers-in-C2.ensures)

pub returns-in-C3 : goal.returns-in-C3
unfolding bytes
returns-in-C3 c = said (in_out_header_parts _ c.in-C3.is) (c.bytes-in-C3.ensures then c.numbers-in-C3.ensures)
