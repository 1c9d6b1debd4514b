-- The line of a procedure and the row of a step, as their readers see them.
use Rattle.std.specs.Prelude.{List, [], ◌∷◌, ℕ, Option, None, Some, Result, Err}
use Rattle.spec.specs.Choice.{when◌then◌else◌}
use Rattle.spec.specs.Text.{Field}
use Rattle.spec.specs.Reading.{LineResult, Range, require, below, in_range, all_in_range}
use Rattle.spec.specs.Split.{Row, start_range, may_be_empty, row_line}
use Rattle.spec.specs.declared.Header.{Header}
use Rattle.spec.specs.declared.MapNumber.{MapNumber}
use Rattle.spec.specs.declared.Purpose.{Purpose}
use Rattle.spec.specs.declared.Refusal.{Refusal}
use Rattle.spec.specs.declared.Refusal.TheVariants.{SplitRange}
use Rattle.spec.specs.declared.Word.{Word}
use Rattle.split_fields.specs.Starts.{empty_refusal}
use Rattle.split_lines.specs.declared.rows.Row.{Row as RowNumbers}

-- the ranges of the numbers of a signature
unfoldable pub signature_ranges : Header → List Range
signature_ranges H = below H.maps ∷ below H.types ∷ below H.maps ∷ below H.types ∷ []

-- what the code reads, as document 01 has it
abbrev pub row_decoded : RowNumbers → Row
row_decoded r = record { type = r.typed; post = r.post; start = r.start }

-- the row of a step with this word
unfoldable pub word_line : Purpose → Header → Word → List Field → LineResult Row
word_line purpose H w fs = row_line purpose H (record { word = w; value = 0; line = 0 }) fs

-- whether a row is to be refused: for its type and its post, then for its start
unfoldable pub start_judged : (line : ℕ) → Option MapNumber → Word → Header → Result (Unit {0}) Refusal
start_judged line (Some m) w H = require (in_range (start_range w H) m.0) (SplitRange line)
start_judged line None w H = require (may_be_empty H.heading w) (empty_refusal w line)

unfoldable pub row_judged : (line : ℕ) → RowNumbers → Word → Header → Result (Unit {0}) Refusal
row_judged line row w H =
    when all_in_range (below H.types ∷ below H.maps ∷ []) (row.typed.0 ∷ row.post.0 ∷ [])
    then start_judged line row.start w H
    else Err (SplitRange line)
