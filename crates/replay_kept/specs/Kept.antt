-- A run as numbers: what they say of it, and what it is for them to keep the parts of one.
use Rattle.std.specs.Prelude.{ℕ, ◌+◌, ◌<◌, ◌≡◌, List, eqb, get_or, drop, Option, is_some}
use Rattle.std.specs.Int.{from_bool}
use Rattle.spec.specs.Choice.{when◌then◌else◌}
use Rattle.lexer.specs.Numbers.{stored}
use Rattle.threads.specs.declared.Record.{Record}
use Rattle.threads.specs.Records.{no_record}
use Rattle.replay_theory.specs.declared.Status.{Status}
use Rattle.replay_theory.specs.declared.Status.TheVariants.{Running, Finished, Joined}
use Rattle.replay_theory.specs.declared.Race.{Race}
use Rattle.replay_theory.specs.declared.Replayed.{Replayed}
use Rattle.replay_theory.specs.Replay.{returned_for}
use Rattle.replay_answers.specs.declared.RaceNumbers.{RaceNumbers}
use Rattle.replay_answers.specs.Numbers.{answer_told, race_told, race_numbers}
use Rattle.replay_kept.specs.declared.numbers.Told.{Told}

-- how many numbers keep a run
abbrev pub kept_size : ℕ
kept_size = 43

-- ------------------------------------------------------------------ what a run says in numbers

unfoldable pub told_numbers : Replayed → Told
told_numbers r = record { ending = returned_for r.ending; steps = r.report.steps; race = race_numbers r.report.race }

unfoldable pub status_number : Status → ℕ
status_number Running = 0
status_number Finished = 1
status_number Joined = 2

-- ------------------------------------------------------------------ what the numbers say

unfoldable pub status_of : ℕ → Status
status_of n = when eqb n 0 then Running else when eqb n 1 then Finished else Joined

unfoldable pub record_in : List ℕ → (t : ℕ) → Record
record_in w t = record { state = status_of (get_or w (11 + t) 0); tid = stored (get_or w (27 + t) 0) }

unfoldable pub race_in : List ℕ → RaceNumbers
race_in w = race_told (get_or w 7 0) (stored (get_or w 8 0)) (stored (get_or w 9 0))

unfoldable pub told_in : List ℕ → Told
told_in w = record { ending = answer_told (stored (get_or w 1 0)) (get_or w 2 0) (stored (get_or w 3 0)) (stored (get_or w 4 0)); steps = get_or w 5 0; race = race_in w }

-- ------------------------------------------------------------------ parts that are kept

abbrev pub RecordsKept : List Record → List ℕ → Type 0
RecordsKept rs w = (t : ℕ) → t < 16 → record_in w t ≡ get_or rs t no_record

pub record RaceKept (race : Option Race) (w : List ℕ) : Type 0 where
  pub raced : get_or w 6 0 ≡ from_bool (is_some race)
  pub told : race_in w ≡ race_numbers race

-- the numbers in front of the records, and that the records are as they were
pub record FrontKept (goes : ℕ) (t : Told) (raced count : ℕ) (w w' : List ℕ) : Type 0 where
  pub is_going : get_or w' 0 0 ≡ goes
  pub told : told_in w' ≡ t
  pub is_raced : get_or w' 6 0 ≡ raced
  pub counted : get_or w' 10 0 ≡ count
  pub behind : drop 11 w' ≡ drop 11 w
