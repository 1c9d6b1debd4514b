-- The rows of the let, the join and its part.
use Rattle.writer.proofs.Buffer.{said, ◌then◌}
use Rattle.drill.proofs.Parts.{join_rows_parts}
use Rattle.drill.proofs.split_sheet.write_join_rows.Goals as goal

pub returns : goal.returns
returns c = said (join_rows_parts _) (c.write_row.ensures then c.write_row-2.ensures then c.write_row-3.ensures)
