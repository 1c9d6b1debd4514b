use Rattle.std.proofs.Common.{rules}
use Rattle.std.proofs.iter.runs.Made.{chains}
use Rattle.replay.specs.Pieces.{ends_line}
use Rattle.racereplay.proofs.Carrying.{ends_there}
use Rattle.racereplay.proofs.buffered.whole_lines.Goals as goal

pub returns-in-Some : goal.returns-in-Some
returns-in-Some c = (search (rules, chains), ends_there _ _ (search (rules, chains)) (search (rules, chains)))

pub returns-in-None : goal.returns-in-None
unfolding ends_line
returns-in-None c = search rules
