use Rattle.std.proofs.Common.{refl, rules}
use Rattle.spec.specs.Text.{bytes}
use Rattle.spec.specs.Split.{split_limit}
use Rattle.file_io.specs.Files.{split}
use Rattle.file_io.proofs.read_split.Goals as goal

pub read_file-requires : goal.read_file-requires
unfolding bytes split_limit
read_file-requires g c = split refl (search rules)
