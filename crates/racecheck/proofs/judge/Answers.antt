use Rattle.std.proofs.Common.{ap, Some}
use Rattle.spec.specs.Workspace.{workspace_size}
use Rattle.racecheck.specs.Told.{told, told_of}
use Rattle.racecheck.proofs.judge.Goals as goal

pub returns : goal.returns
unfolding told told_of workspace_size
returns c = ap Some c.check.ensures.answer
