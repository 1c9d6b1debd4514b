use Rattle.std.proofs.Common.{arith}
use Rattle.std.proofs.lemmas.Grind.{common_steps}
use Rattle.spec.specs.Reading.{all_in_range, in_range}
use Rattle.spec.specs.Split.{header_ranges}
use Rattle.split_header.specs.Header.{header_fits}
use Rattle.split_header.proofs.header_fits.Goals as goal

pub returns-else-contains-4 : goal.returns-else-contains-4
unfolding header_fits header_ranges all_in_range in_range
returns-else-contains-4 c = grind (arith, common_steps)
