-- What the short replays of specs/Examples come to; the crate replays has the long ones. A table is one equation that computes; `Replays`
-- unfolds every definition on the way.
use Rattle.std.proofs.Common.{None, Some}
use mathlib.Core.Path.{◌≡◌, refl}
use mathlib.Core.List.{[], ◌∷◌}
use Rattle.spec.specs.Pairs.KnownPairs.{P}
use Rattle.spec.specs.Pairs.EdgeSheets.{times}
use Rattle.replay_theory.specs.declared.Status.TheVariants.{Running, Finished, Joined}
use Rattle.replay_theory.specs.Examples.{◌along◌is◌after◌and◌, Replays, whole, rows_of_p, unjoined, two_readers, race_rows, choice_rows, twice, wait_rows, line_rows, two_finished, records_along, join_records}

-- The tables; and that of two finished threads a join takes the lower.
pub replays : Replays rows_of_p × Replays race_rows × Replays choice_rows × Replays wait_rows × Replays line_rows
    × (join_records ≡ (Some Running ∷ Some Finished ∷ Some Finished ∷ None ∷ []) ∷ (Some Finished ∷ Some Joined ∷ Some Finished ∷ None ∷ []) ∷ [])
unfolding Replays times ◌along◌is◌after◌and◌ whole P rows_of_p unjoined two_readers race_rows choice_rows twice wait_rows line_rows two_finished records_along join_records
replays = (refl, refl, refl, refl, refl, refl)
