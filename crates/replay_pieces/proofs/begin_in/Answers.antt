-- The run that `begin` of the crate `replay` gives is kept.
use Rattle.replay_pieces.proofs.Resuming.{run_in}
use Rattle.replay_pieces.proofs.begin_in.Goals as goal

pub returns : goal.returns
returns c =
    let begun = c.begin-point.ensures in
    let (long, behind) = begun.free in
    let (run, number) = run_in _ _ _ _ _ _ _ _ long (begun.begun c.requires) c.keep.ensures in
    (run, number, begun.kept, record { long = long; behind = behind }, c.keep.array_long)
