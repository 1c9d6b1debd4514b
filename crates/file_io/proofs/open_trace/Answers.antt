use Rattle.std.proofs.Common.{refl}
use Rattle.spec.specs.Text.{bytes}
use Rattle.file_io.proofs.open_trace.Goals as goal

pub open_file-requires : goal.open_file-requires
unfolding bytes
open_file-requires g c = refl
