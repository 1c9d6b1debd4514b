use Rattle.std.proofs.Common.{refl, rules}
use Rattle.spec.specs.Text.{bytes}
use Rattle.spec.specs.Program.{program_limit}
use Rattle.file_io.specs.Files.{program}
use Rattle.file_io.proofs.read_program.Goals as goal

pub read_file-requires : goal.read_file-requires
unfolding bytes program_limit
read_file-requires g c = program refl (search rules)
