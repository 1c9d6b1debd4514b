-- A program sheet, read stage by stage: its header, the lines counted, what they list.
use Rattle.std.proofs.Common.{Result, Ok}
use mathlib.Core.Path.{◌≡◌}
use mathlib.Core.List.{List, []}
use Prim.Native.Nat.{ℕ, ◌+◌}
use Rattle.spec.specs.declared.Refusal.{Refusal}
use Rattle.spec.specs.Text.{lines, Field, fields}
use Rattle.spec.specs.Reading.{◌>>=◌, program_sheet, LineResult, Place, passed, next_line, read_line, read_lines, begin, end}
use Rattle.spec.specs.Expression.{Item, steps_among, structure, scopes}
use Rattle.spec.specs.Program.{Counts, count_line, item_lines, Program, program}
use Rattle.spec.specs.declared.ProgramHeading.{ProgramHeading}
use Rattle.compatibility.specs.Texts.{OneLine, ◌above◌}
use Rattle.compatibility.proofs.Texts.{above_lines}

-- behind the lines counted, and behind the header
unfoldable pub after_items : (k : ℕ) → List Item × Place → Result Program Refusal
after_items k (items, last) = do
  done ← end program_sheet last
  (ps, e) ← structure last.last k 0 items
  bound ← scopes k ps e []
  Ok (record { steps = steps_among items; procedures = ps; root = e })

unfoldable pub after_count : (ProgramHeading → (line n : ℕ) → List (List Field → LineResult Item)) → Counts × Place → Result Program Refusal
after_count reads (N, first) = read_lines program_sheet (reads N.heading (first.last + 1) (N.steps + N.procedures)) first >>= after_items N.procedures

pub program_stages : (l t : List ℕ) → OneLine l
    → program (l above t) ≡ (passed program_sheet 1 (lines t) (count_line (fields l)) >>= after_count item_lines)
unfolding program begin read_line next_line ◌>>=◌ after_count after_items
program_stages l t one = rw (above_lines l t one)
