use Rattle.keywords.proofs.Words.{one_word}
use Rattle.keywords.proofs.spelled.Goals as goal

pub returns : goal.returns
returns g c = rw (c.then_some.ensures, c.same.ensures) (one_word _ _ _)
