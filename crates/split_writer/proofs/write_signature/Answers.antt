-- Its four numbers, as the work space has them.
use Rattle.writer.proofs.Buffer.{said}
use Rattle.split_writer.proofs.Parts.{signature_parts}
use Rattle.split_writer.proofs.write_signature.Goals as goal

pub returns : goal.returns
returns c = said (signature_parts _ _ c.at.ensures c.at-2.ensures c.at-3.ensures c.at-4.ensures) c.numbers.ensures
