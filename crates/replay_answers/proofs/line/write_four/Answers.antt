use Rattle.writer.proofs.Buffer.{said, ◌then◌}
use Rattle.replay_answers.proofs.Lines.{four_parts}
use Rattle.replay_answers.proofs.line.write_four.Goals as goal

pub returns : goal.returns
returns c =
    said (four_parts _) (rw (c.from.ensures, c.from-2.ensures, c.from-3.ensures) at (c.field.ensures then c.field-2.ensures then c.field-3.ensures then c.field-4.ensures))
