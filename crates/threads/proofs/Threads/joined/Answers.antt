use Rattle.threads.specs.Threads.{joined}
use Rattle.threads.proofs.Threads.joined.Goals as goal

pub returns : goal.returns
unfolding joined
returns c = c.turned.ensures
