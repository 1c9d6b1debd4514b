-- The start is the machine's, so the lines come to what they come to there.
use mathlib.Core.Path.{refl}
use native.Mathlib.Omega.{arith}
use Rattle.replay.proofs.Starting.{start_count, start_goes}
use Rattle.replay.proofs.start.first_point.Goals as goal

pub overflow_cast-threads : goal.overflow_cast-threads
overflow_cast-threads c =
    let low = start_count _ _ c.told-space c.requires.listed c.requires.stands _ _ c.start-threads.ensures in
    omega (arith, low)

pub returns : goal.returns
returns c = (
  λ P A.
      start_goes _ _ c.told-space P A _ _ c.start-threads.ensures c.race_after.ensures,
  refl,
)
