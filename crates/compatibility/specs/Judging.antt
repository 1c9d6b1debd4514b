-- The check of document 01 with its readers and its conditions handed in, so that a former check is said by what was otherwise.
use Rattle.std.specs.Prelude.{List, [], map, ℕ, ◌+◌, leb, length, replicate, Result, Ok}
use Rattle.spec.specs.declared.Refusal.{Refusal}
use Rattle.spec.specs.Text.{lines, Field}
use Rattle.spec.specs.Reading.{program_sheet, split_sheet, ◌>>=◌, require, LineResult, read_line, read_lines, begin, end}
use Rattle.spec.specs.Expression.{Step, Item, steps_among, structure, scopes}
use Rattle.spec.specs.Program.{Counts, Program, program_limit}
use Rattle.spec.specs.Split.{Map, header_line, type_lines, map_line, signature_line, Row, row_line, Split, split_limit}
use Rattle.spec.specs.declared.Signature.{Signature}
use Rattle.spec.specs.declared.Header.{Header}
use Rattle.spec.specs.Workspace.{workspace_size}
use Rattle.spec.specs.Verdict.{locks_take_enough, start_at_most_one, answer}
use Rattle.spec.specs.declared.Answer.{Answer}
use Rattle.spec.specs.declared.ProgramHeading.{ProgramHeading}
use Rattle.spec.specs.declared.Purpose.TheVariants.{Check}
use Rattle.spec.specs.declared.Refusal.TheVariants.{ShortWorkspace, LongProgram, LongSplit}
use Rattle.spec.specs.declared.TypeLine.{TypeLine}

-- `program` of crates/spec, with the reader of line 1 and those of the lines behind it
unfoldable pub program_by : (List Field → LineResult Counts) → (ProgramHeading → (line n : ℕ) → List (List Field → LineResult Item)) → List ℕ → Result Program Refusal
program_by count items text = do
  top ← begin program_sheet (lines text)
  (N, first) ← read_line program_sheet count top
  (read, last) ← read_lines program_sheet (items N.heading (first.last + 1) (N.steps + N.procedures)) first
  done ← end program_sheet last
  (ps, e) ← structure last.last N.procedures 0 read
  bound ← scopes N.procedures ps e []
  Ok (record { steps = steps_among read; procedures = ps; root = e })

-- the readers of the lines of a split sheet
pub record SplitLines : Type 0 where
  pub header : List Field → LineResult Header
  pub types : Header → List (List Field → LineResult TypeLine)
  pub map : Header → List Field → LineResult Map
  pub signature : Header → List Field → LineResult Signature
  pub row : Header → Step → List Field → LineResult Row

-- those of a check
abbrev pub lines_to_check : SplitLines
lines_to_check = record {
  header = header_line Check;
  types = λ H. type_lines H 0 H.types;
  map = map_line;
  signature = signature_line;
  row = row_line Check;
}

-- `split` of crates/spec, with these
unfoldable pub split_by : SplitLines → Program → List ℕ → Result Split Refusal
split_by L P text = do
  top ← begin split_sheet (lines text)
  (H, p₁) ← read_line split_sheet L.header top
  (types, p₂) ← read_lines split_sheet (L.types H) p₁
  (maps, p₃) ← read_lines split_sheet (replicate H.maps (L.map H)) p₂
  (signatures, p₄) ← read_lines split_sheet (replicate (length P.procedures) (L.signature H)) p₃
  (rows, p₅) ← read_lines split_sheet (map (L.row H) P.steps) p₄
  done ← end split_sheet p₅
  Ok (record { header = H; types = types; maps = maps; signatures = signatures; rows = rows })

-- `verdict` of crates/spec, with the readers of the two sheets and with 31 to 33
module _ (program : List ℕ → Result Program Refusal) (split : Program → List ℕ → Result Split Refusal) (ruled : Program → Split → Result (Unit {0}) Refusal) where
  unfoldable pub sheets_by : (program_text split_text : List ℕ) → Result (Program × Split) Refusal
  sheets_by program_text split_text = do
    fits ← require (leb (length program_text) program_limit) LongProgram
    P ← program program_text
    fits' ← require (leb (length split_text) split_limit) LongSplit
    S ← split P split_text
    Ok (P, S)

  unfoldable pub checked_by : (room : ℕ) → (program_text split_text : List ℕ) → Result (Unit {0}) Refusal
  checked_by room program_text split_text = do
    enough ← require (leb workspace_size room) ShortWorkspace
    (P, S) ← sheets_by program_text split_text
    locks ← locks_take_enough S
    whole ← start_at_most_one P S
    ruled P S

  unfoldable pub verdict_by : (room : ℕ) → (program_text split_text : List ℕ) → Answer
  verdict_by room program_text split_text = answer (checked_by room program_text split_text)
