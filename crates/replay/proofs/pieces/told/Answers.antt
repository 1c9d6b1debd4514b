-- What has stopped the run, or that every line is done.
use mathlib.Core.Path.{◌∙◌}
use Rattle.replay.proofs.Runs.{told_replays, tells_ending}
use Rattle.replay.proofs.pieces.told.Goals as goal

pub returns : goal.returns
returns c =
    let said = tells_ending c.args.run c.unwrap_or.ensures in
    record { said = said; answer = λ text trace job space R. said ∙ told_replays text trace job space _ R }
