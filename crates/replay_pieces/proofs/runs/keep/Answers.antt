-- The records first, then the numbers in front of them.
use mathlib.Core.Path.{◌∙◌, ap}
use Rattle.std.specs.Int.{from_bool}
use Rattle.replay_kept.specs.declared.numbers.Told.{Told}
use Rattle.replay_kept.specs.Kept.{told_numbers}
use Rattle.replay_pieces.proofs.Resuming.{going, keeps}
use Rattle.replay_pieces.proofs.runs.keep.Goals as goal

pub returns : goal.returns
returns c =
    let told = c.from-told.ensures ∙ ap told_numbers c.told.ensures.said in (
      keeps c.args.p _ _ (c.from.ensures ∙ going _ _ c.is_none.ensures) told (c.from-2.ensures ∙ ap from_bool c.is_some.ensures) c.keep_records.ensures.0 c.keep_front.ensures,
      ap (λ (t : Told). t.ending.number) told,
    )
