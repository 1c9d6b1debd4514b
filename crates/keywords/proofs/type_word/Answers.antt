-- One word after the other; the definition has each test the other way round.
use mathlib.Core.Path.{◌∙◌}
use Rattle.spec.specs.Text.{bytes, look_up}
use Rattle.keywords.specs.Words.{type_word_of}
use Rattle.keywords.proofs.SameBytes.{same_turned}
use Rattle.keywords.proofs.Words.{either}
use Rattle.keywords.proofs.type_word.Goals as goal

pub returns : goal.returns
returns c =
    let f = c.args.field.now in
    either _ _ _ c.or-5.ensures
    (either _ _ _ c.or-4.ensures
    (either _ _ _ c.or-3.ensures
    (either _ _ _ c.or-2.ensures
    (either _ _ _ c.or.ensures c.spelled.ensures c.spelled-2.ensures)
    c.spelled-3.ensures)
    c.spelled-4.ensures)
    c.spelled-5.ensures)
    c.spelled-6.ensures
    ∙ (unfold look_up bytes type_word_of in
    rw (
      same_turned (bytes "int") f,
      same_turned (bytes "ref") f,
      same_turned (bytes "lock") f,
      same_turned (bytes "tid") f,
      same_turned (bytes "sem") f,
      same_turned (bytes "rwlock") f,
    ))
