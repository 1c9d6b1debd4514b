-- A run that has stopped stays as it is; one that goes on is read back, goes on with the piece, and is kept again.
use mathlib.Core.Path.{refl}
use Rattle.replay_pieces.proofs.Resuming.{run_in, stopped_told, further_of}
use Rattle.replay_pieces.proofs.Lending.{none_used}
use Rattle.replay_pieces.proofs.go_on.Goals as goal

pub returns-then-run-eq0 : goal.returns-then-run-eq0
returns-then-run-eq0 c = (
  λ program trace I ends room. stopped_told program trace _ _ _ _ I ends c.if-run-eq0.true c.told_in.ensures,
  λ l. refl,
  none_used _ _,
  c.told-run,
)

pub returns : goal.returns
returns c =
    let further = c.more-after.ensures in
    let (long, behind) = further.free in (
      λ program trace I ends room.
          run_in program _ _ _ _ _ _ _ long
          (further_of program trace _ _ _ _ I ends _ _ _ c.if-run-eq0.false c.point_in.ensures further.goes_on room)
          c.keep.ensures,
      further.kept,
      record { long = long; behind = behind },
      c.keep.array_long,
    )
