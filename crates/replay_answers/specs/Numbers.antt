-- What a caller in C is handed: the four numbers of an answer, and a race in three.
use Rattle.std.specs.Prelude.{ℕ, ◌≡◌, Option, None, Some}
use Rattle.replay_theory.specs.declared.Numbers.{Numbers}
use Rattle.replay_theory.specs.declared.Race.{Race}
use Rattle.replay_answers.specs.declared.RaceNumbers.{RaceNumbers}

abbrev pub answer_told : (number line condition location : ℕ) → Numbers
answer_told n l c p = record { number = n; line = l; condition = c; location = p }

abbrev pub race_told : (state first second : ℕ) → RaceNumbers
race_told n i j = record { state = n; first = i; second = j }

-- "the largest number of each kind", without a race
unfoldable pub race_numbers : Option Race → RaceNumbers
race_numbers None = race_told 18446744073709551615 4294967295 4294967295
race_numbers (Some race) = race_told race.state race.lower race.other

-- Three stored numbers stand for a race of which P holds.
pub record Stored (P : Option Race → Type 0) (state first second : ℕ) : Type 0 where
  pub race : Option Race
  pub told : race_told state first second ≡ race_numbers race
  pub holds : P race
