-- The line of `racereplay` for each outcome of a run.
use Rattle.std.specs.Prelude.{List, [], ◌∷◌, ◌++◌, map, Bool, true, false, ℕ, Option, None, Some}
use Rattle.spec.specs.Choice.{when◌then◌else◌}
use Rattle.spec.specs.Text.{bytes, Field}
use Rattle.text_theory.specs.Text.{decimal, line}
use Rattle.replay_theory.specs.Replay.{returned_for}
use Rattle.replay_theory.specs.declared.Ending.{Ending}
use Rattle.replay_theory.specs.declared.Ending.TheVariants.{Done, Refused, TraceForm, NoStep, PastLimit}
use Rattle.replay_theory.specs.declared.Race.{Race}
use Rattle.replay_theory.specs.declared.Numbers.{Numbers}
use Rattle.replay_theory.specs.declared.Replayed.{Replayed}
use Rattle.replay_theory.specs.declared.Report.{Report}

-- the state of a race, and its two threads
unfoldable pub race_fields : Race → List Field
race_fields race = map decimal (race.state ∷ race.lower ∷ race.other ∷ [])

unfoldable pub number_fields : Numbers → List Field
number_fields x = map decimal (x.number ∷ x.line ∷ x.condition ∷ x.location ∷ [])

-- `RAN,` steps; or `RACE,` steps, and the race
unfoldable pub ran_with : (steps : ℕ) → Option Race → List Field
ran_with steps None = bytes "RAN" ∷ decimal steps ∷ []
ran_with steps (Some race) = bytes "RACE" ∷ decimal steps ∷ race_fields race

unfoldable pub ran_fields : Report → List Field
ran_fields r = ran_with r.steps r.race

-- `REFUSE,` four numbers, steps, and `RACE,` and the race, if there was one
unfoldable pub race_after : Option Race → List Field
race_after None = []
race_after (Some race) = bytes "RACE" ∷ race_fields race

unfoldable pub refused_fields : Numbers → Report → List Field
refused_fields x r = bytes "REFUSE" ∷ (number_fields x ++ (decimal r.steps ∷ race_after r.race))

-- whether every line of the trace is done
unfoldable pub is_done : Ending → Bool
is_done Done = true
is_done (Refused r) = false
is_done (TraceForm k) = false
is_done (NoStep k) = false
is_done (PastLimit k) = false

unfoldable pub replayed_fields : Replayed → List Field
replayed_fields r = when is_done r.ending then ran_fields r.report else refused_fields (returned_for r.ending) r.report

-- of a replay, or of a program and a trace that can't be read
unfoldable pub output_line : Option Replayed → List ℕ
output_line (Some r) = line (replayed_fields r) []
output_line None = line (bytes "UNREAD" ∷ []) []

-- ------------------------------------------------------------------ a part of a line

-- fields with a comma behind each
unfoldable pub opened : List Field → List ℕ
opened [] = []
opened (f ∷ fs) = (f ++ (44 ∷ [])) ++ opened fs
