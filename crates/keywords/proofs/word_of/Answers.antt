use Rattle.spec.specs.Words.{leaf_words, cell_words, lock_words, hold_words, unary_words, words}
use Rattle.keywords.proofs.Words.{either}
use Rattle.keywords.proofs.word_of.Goals as goal

pub returns : goal.returns
unfolding leaf_words cell_words lock_words hold_words unary_words words
returns c = either _ _ _ c.or-2.ensures (either _ _ _ c.or.ensures c.leaf_word.ensures c.unary_word.ensures) c.binary_word.ensures
