use Rattle.spec.specs.Text.{bytes}
use Rattle.spec.specs.Words.{words_under}
use Rattle.keywords.proofs.Words.{either}
use Rattle.keywords.proofs.word_under.Goals as goal

pub returns-in-P : goal.returns-in-P
unfolding words_under
returns-in-P c = rw c.in-P.is c.word_of.ensures

pub returns-in-P2 : goal.returns-in-P2
unfolding words_under bytes
returns-in-P2 c = rw c.in-P2.is (either _ _ _ c.or.ensures c.spelled.ensures c.word_of-in-P2.ensures)
