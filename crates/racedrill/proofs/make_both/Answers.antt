-- Each file is made with its own text.
use Rattle.std.proofs.Common.{refl}
use Rattle.spec.specs.Text.{bytes}
use Rattle.racedrill.specs.Made.{program_file, split_file}
use Rattle.racedrill.proofs.make_both.Goals as goal

pub make-requires : goal.make-requires
unfolding bytes
make-requires g c = program_file _ c.requires.asked refl c.requires.program_text

pub make-requires-2 : goal.make-requires-2
unfolding bytes
make-requires-2 g c = split_file _ c.requires.asked refl c.requires.split_text

pub take_back-requires : goal.take_back-requires
unfolding bytes
take_back-requires g c = refl
