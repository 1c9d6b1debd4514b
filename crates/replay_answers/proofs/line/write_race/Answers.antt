use Rattle.writer.proofs.Buffer.{said, ◌then◌}
use Rattle.replay_answers.proofs.Lines.{race_parts}
use Rattle.replay_answers.proofs.line.write_race.Goals as goal

pub returns : goal.returns
returns c = said (race_parts _) (rw (c.from.ensures, c.from-2.ensures) at (c.field.ensures then c.field-2.ensures then c.field-3.ensures))
