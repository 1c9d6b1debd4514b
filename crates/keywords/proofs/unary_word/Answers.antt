use Rattle.spec.specs.Words.{cell_words, unary_words}
use Rattle.keywords.proofs.Words.{either}
use Rattle.keywords.proofs.unary_word.Goals as goal

pub returns : goal.returns
unfolding cell_words unary_words
returns c = either _ _ _ c.or-2.ensures (either _ _ _ c.or.ensures c.cell_word.ensures c.lock_word.ensures) c.hold_word.ensures
