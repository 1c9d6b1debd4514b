-- `let,`, the variable, and the lines of its value.
use Rattle.spec.specs.Text.{bytes}
use Rattle.writer.proofs.Buffer.{◌then◌}
use Rattle.drill.specs.Lets.{let_text}
use Rattle.drill.proofs.program_sheet.write_let.Goals as goal

pub returns : goal.returns
unfolding bytes let_text
returns c = c.bytes.ensures then c.field.ensures then c.bytes-2.ensures
