-- Request (vii), "A spawn with no start given". Before it an empty start meant map 0.
use Rattle.std.specs.Prelude.{◌≡◌, List, [], ◌∷◌, ◌++◌, map, Bool, false, ◌&&◌, not, ℕ, ◌≤◌, length, replicate, take, Some, Ok}
use Rattle.spec.specs.Choice.{when◌then◌else◌}
use Rattle.spec.specs.Text.{bytes, Line, closed, unclosed, lines, Field, fields}
use Rattle.spec.specs.Reading.{LineResult, good, bad, seen, below, numbers}
use Rattle.spec.specs.Words.{takes_start, keeps_back}
use Rattle.spec.specs.Expression.{Step}
use Rattle.spec.specs.Program.{Program, program}
use Rattle.spec.specs.Split.{split_limit, header_line, type_lines, map_line, signature_line, Row, row_of, row_line}
use Rattle.spec.specs.declared.Header.{Header}
use Rattle.spec.specs.Verdict.{conditions_hold, verdict}
use Rattle.spec.specs.declared.Answer.{Answer}
use Rattle.spec.specs.declared.Purpose.TheVariants.{Check}
use Rattle.compatibility.specs.Texts.{on_closed}
use Rattle.compatibility.specs.Judging.{SplitLines, split_by, verdict_by}

-- ------------------------------------------------------------------ the reading before

-- whether the line of a step is a spawn's and leaves its start empty, as `t,m,` does; a call's s was never left empty
unfoldable pub start_left : Step → List Field → Bool
start_left s [] = false
start_left s (t ∷ []) = false
start_left s (t ∷ m ∷ []) = false
start_left s (t ∷ m ∷ [] ∷ []) = takes_start s.word && not (keeps_back s.word)
start_left s (t ∷ m ∷ (b ∷ f) ∷ []) = false
start_left s (t ∷ m ∷ f ∷ g ∷ fs) = false

-- "On a spawn, an empty s means map 0", under each heading; other lines are read as they are now
unfoldable pub row_line_with_map_zero : Header → Step → List Field → LineResult Row
row_line_with_map_zero H s fs =
    when start_left s fs
    then seen (row_of (Some (record { 0 = 0 }))) (numbers (below H.types ∷ below H.maps ∷ []) (take 2 fs))
    else row_line Check H s fs

abbrev pub lines_with_map_zero : SplitLines
lines_with_map_zero = record {
  header = header_line Check;
  types = λ H. type_lines H 0 H.types;
  map = map_line;
  signature = signature_line;
  row = row_line_with_map_zero;
}

unfoldable pub verdict_with_map_zero : (room : ℕ) → (program_text split_text : List ℕ) → Answer
verdict_with_map_zero = verdict_by program (split_by lines_with_map_zero) conditions_hold

-- ------------------------------------------------------------------ the owner's change

-- on the line of a step: `t,m,` of a spawn becomes `t,m,0`
unfoldable pub write_zero : Step → List ℕ → List ℕ
write_zero s l = when start_left s (fields l) then l ++ bytes "0" else l

unfoldable pub as_it_was : List ℕ → List ℕ
as_it_was l = l

-- lines changed in turn, each in its own way; those behind them stay
unfoldable pub changed_in_turn : List (List ℕ → List ℕ) → List Line → List Line
changed_in_turn [] ls = ls
changed_in_turn (f ∷ fs) [] = []
changed_in_turn (f ∷ fs) (l ∷ ls) = on_closed f l ∷ changed_in_turn fs ls

-- the lines behind a header: types, maps and signatures are kept, and 0 is written on the lines of the steps; behind what is no header
-- all stays
unfoldable pub zeros_behind : LineResult Header → Program → List Line → List Line
zeros_behind (bad w) P ls = ls
zeros_behind (good H) P ls =
    changed_in_turn
    (replicate H.types as_it_was ++ (replicate H.maps as_it_was ++ (replicate (length P.procedures) as_it_was ++ map write_zero P.steps))) ls

-- the lines of a sheet, for a program
unfoldable pub zeros_written : Program → List Line → List Line
zeros_written P [] = []
zeros_written P (unclosed l ∷ ls) = unclosed l ∷ ls
zeros_written P (closed l ∷ ls) = closed l ∷ zeros_behind (header_line Check (fields l)) P ls

-- t' is t with 0 written, for the program p
abbrev pub ZeroWritten : (p t t' : List ℕ) → Type 0
ZeroWritten p t t' = (P : Program) → program p ≡ Ok P → lines t' ≡ zeros_written P (lines t)

-- "A `C` sheet that leaned on the old meaning is turned away; its owner writes 0": then it gets what it got, refused or accepted, under
-- each heading
abbrev pub ZeroKeepsTheAnswer : Type 0
ZeroKeepsTheAnswer =
    (room : ℕ) (p t t' : List ℕ) → length t ≤ split_limit → length t' ≤ split_limit → ZeroWritten p t t'
    → verdict room p t' ≡ verdict_with_map_zero room p t
