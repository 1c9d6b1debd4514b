-- What the replays of replay_theory's examples come to that go to a limit and past it. A table is one equation that computes; `Replays` unfolds
-- every definition on the way.
use mathlib.Core.Path.{refl}
use Rattle.spec.specs.Pairs.EdgeSheets.{times}
use Rattle.replay_theory.specs.Examples.{◌along◌is◌after◌and◌, Replays, whole, spawning, joining, limit_rows, thing_rows, two_kinds, kind_rows, endless, ending, opening, before, spawned, inner, two_writers, open_rows, again_rows, at_once_rows, called_rows}

-- Threads and things.
pub things_replay : Replays limit_rows × Replays thing_rows × Replays kind_rows
unfolding Replays times ◌along◌is◌after◌and◌ whole spawning joining limit_rows thing_rows two_kinds kind_rows
things_replay = (refl, refl, refl)

-- Calls.
pub calls_replay : Replays open_rows × Replays again_rows × Replays at_once_rows × Replays called_rows
unfolding Replays times ◌along◌is◌after◌and◌ whole endless ending opening before spawned inner two_writers open_rows again_rows at_once_rows called_rows
calls_replay = (refl, refl, refl, refl)
