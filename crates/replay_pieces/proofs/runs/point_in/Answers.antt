-- The parts of the run, each read back.
use mathlib.Core.Path.{refl}
use Rattle.replay_pieces.proofs.Resuming.{point_back}
use Rattle.replay_pieces.proofs.runs.point_in.Goals as goal

pub returns : goal.returns
returns c = λ q K m. point_back q _ K m c.threads_in.ensures refl c.race_in.ensures
