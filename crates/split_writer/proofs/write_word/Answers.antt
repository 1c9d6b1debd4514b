use Rattle.writer.proofs.Buffer.{◌then◌}
use Rattle.split_writer.proofs.write_word.Goals as goal

pub returns : goal.returns
returns c = c.bytes.ensures then c.numbers.ensures
