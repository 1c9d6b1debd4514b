-- The numeral is written; then the byte that ends it remains.
use Rattle.std.proofs.Common.{refl}
use Rattle.writer.proofs.Parts.{parted, onward, finish}
use Rattle.writer.proofs.write_field.Goals as goal

pub returns : goal.returns
returns c = finish (onward _ _ (parted _ _ refl c.well_formed.0.0 c.ranges.at.fits) c.write_numeral-next.ensures) c.write_byte.ensures
