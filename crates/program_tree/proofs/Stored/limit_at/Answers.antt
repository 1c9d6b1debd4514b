-- The steps in front of a `proc` line end where that stands.
use borrow.Author.Tests.{lt-ltb}
use Rattle.program_tree.specs.Trees.{limit_at}
use Rattle.program_tree.proofs.Stored.limit_at.Goals as goal

pub returns-then-j-self : goal.returns-then-j-self
unfolding limit_at
returns-then-j-self c = rw (lt-ltb _ _ c.if-j-self.true) c.index.ensures.0
