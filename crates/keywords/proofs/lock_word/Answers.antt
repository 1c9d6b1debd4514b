-- One word after the other.
use Rattle.spec.specs.Text.{bytes}
use Rattle.spec.specs.Words.{lock_words}
use Rattle.keywords.proofs.Words.{either}
use Rattle.keywords.proofs.lock_word.Goals as goal

pub returns : goal.returns
unfolding lock_words bytes
returns c =
    either _ _ _ c.or-3.ensures
    (either _ _ _ c.or-2.ensures
    (either _ _ _ c.or.ensures c.spelled.ensures c.spelled-2.ensures)
    c.spelled-3.ensures)
    c.spelled-4.ensures
