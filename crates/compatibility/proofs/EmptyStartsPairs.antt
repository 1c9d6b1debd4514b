-- Pairs with an empty start on a spawn: what they used to get, what they get, and that they get with 0 written what they used to get.
use Rattle.std.proofs.Common.{Result, Ok}
use mathlib.Core.Path.{◌≡◌, refl}
use mathlib.Core.List.{List, [], ◌∷◌, map}
use Prim.Native.String.{String, ◌++◌}
use Rattle.spec.specs.declared.Refusal.{Refusal}
use Rattle.spec.specs.Text.{Line, lines}
use Rattle.spec.specs.Reading.{◌>>=◌}
use Rattle.spec.specs.Program.{program}
use Rattle.spec.specs.Workspace.{workspace_size}
use Rattle.spec.specs.Verdict.{numbers4, returned}
use Rattle.spec.specs.Pairs.KnownPairs.{Pair, barred, ◌with◌is◌, found, Answered, P, S}
use Rattle.spec.specs.Pairs.EdgeConditions.{rows}
use Rattle.spec.specs.Pairs.EdgeSpawns.{spawning, naming}
use Rattle.spec.specs.declared.Returned.{Returned}
use Rattle.compatibility.specs.Texts.{on_closed}
use Rattle.compatibility.specs.Judging.{split_by, sheets_by, checked_by, verdict_by}
use Rattle.compatibility.specs.EmptyStarts.{start_left, row_line_with_map_zero, verdict_with_map_zero, write_zero, as_it_was, changed_in_turn, zeros_behind, zeros_written}

-- pairs with one spawn, by what its row has for s; with nothing there, each used to get the answer listed
unfoldable pub spawns : String → List Pair
spawns s =
    (spawning with ("C,2,1,2,2|int,0,0|tid,1,0|0|0|0,0," ++ s ++ "|1,0,|0,0,|") is numbers4 0 0 0 0) ∷
    (spawning with (rows ("0,2," ++ s ++ "|2,0,|0,0,|")) is numbers4 0 0 0 0) ∷
    (P with (S "2" ("0,1," ++ s)) is numbers4 32 8 4 0) ∷
    (spawning with (naming "0" ("0,2," ++ s ++ "|1,0,|0,0,|")) is numbers4 0 0 0 0) ∷
    []

unfoldable pub answered_v1 : Pair → Returned
answered_v1 r = returned (verdict_with_map_zero workspace_size (barred r.program) (barred r.split))

-- the lines of a pair's split, with 0 written
unfoldable pub lines_written : Pair → Result (List Line) Refusal
lines_written r = program (barred r.program) >>= λ Q. Ok (zeros_written Q (lines (barred r.split)))

pub record SpawnsAnswered : Type 0 where
  pub formerly : map answered_v1 (spawns "") ≡ map (λ (r : Pair). r.expected) (spawns "")
  pub now : map found (spawns "") ≡ numbers4 40 6 0 0 ∷ numbers4 40 10 0 0 ∷ numbers4 40 13 0 0 ∷ numbers4 32 2 4 0 ∷ []
  pub with_zero : Answered (spawns "0")
  pub written : map lines_written (spawns "") ≡ map (λ (r : Pair). Ok (lines (barred r.split))) (spawns "0")

pub spawns_answered : SpawnsAnswered
unfolding start_left row_line_with_map_zero split_by sheets_by checked_by verdict_by verdict_with_map_zero ◌with◌is◌ found Answered P S rows spawning naming spawns answered_v1 write_zero as_it_was on_closed changed_in_turn zeros_behind zeros_written lines_written
spawns_answered = record { formerly = refl; now = refl; with_zero = refl; written = refl }
