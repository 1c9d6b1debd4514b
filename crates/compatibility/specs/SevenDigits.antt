-- Request (iii), "Finer fractions". Before it a numeral had up to 7 digits, and D and the numbers of map lines went to 1,000,000.
use Rattle.std.specs.Prelude.{◌≡◌, List, [], ◌∷◌, map, Bool, true, false, ◌&&◌, ◌||◌, ℕ, leb, ltb, length, Result}
use Rattle.spec.specs.declared.Refusal.{Refusal}
use Rattle.spec.specs.Choice.{when◌then◌else◌}
use Rattle.spec.specs.Text.{Field, digits}
use Rattle.spec.specs.Reading.{LineResult, good, bad, bad_form, bad_range}
use Rattle.spec.specs.Program.{count_line, item_lines, Program}
use Rattle.spec.specs.Split.{Map, header_line, type_lines, map_line, signature_line, row_line}
use Rattle.spec.specs.declared.Header.{Header}
use Rattle.spec.specs.Verdict.{conditions_hold, verdict}
use Rattle.spec.specs.declared.Answer.{Answer}
use Rattle.spec.specs.declared.Answer.TheVariants.{Refuse}
use Rattle.spec.specs.declared.Purpose.TheVariants.{Check}
use Rattle.spec.specs.declared.Refusal.TheVariants.{ProgramForm, ProgramRange, SplitForm, SplitRange}
use Rattle.compatibility.specs.Judging.{SplitLines, program_by, split_by, verdict_by}

-- digits alone, and over 7 of them
unfoldable pub over_seven : List Field → Bool
over_seven [] = false
over_seven (f ∷ fs) = (digits f && ltb 7 (length f)) || over_seven fs

-- such a field was no numeral, so its line was of the wrong form; other lines are read as they are now
unfoldable pub by_seven : {A : Type 0} → (List Field → LineResult A) → List Field → LineResult A
by_seven read fs = when over_seven fs then bad bad_form else read fs

-- a range that ended earlier
unfoldable pub narrowed : {A : Type 0} → (A → Bool) → LineResult A → LineResult A
narrowed test (bad w) = bad w
narrowed test (good a) = when test a then good a else bad bad_range

unfoldable pub million_at_most : Map → Bool
million_at_most [] = true
million_at_most (n ∷ ns) = leb n 1000000 && million_at_most ns

abbrev pub lines_by_seven : SplitLines
lines_by_seven = record {
  header = λ fs. narrowed (λ (H : Header). leb H.denominator 1000000) (by_seven (header_line Check) fs);
  types = λ H. map by_seven (type_lines H 0 H.types);
  map = λ H fs. narrowed million_at_most (by_seven (map_line H) fs);
  signature = λ H. by_seven (signature_line H);
  row = λ H s. by_seven (row_line Check H s);
}

unfoldable pub program_by_seven : List ℕ → Result Program Refusal
program_by_seven = program_by (by_seven count_line) (λ h k n. map by_seven (item_lines h k n))

unfoldable pub verdict_by_seven : (room : ℕ) → (program_text split_text : List ℕ) → Answer
verdict_by_seven = verdict_by program_by_seven (split_by lines_by_seven) conditions_hold

-- 11, 12, 21 and 22
pub data OnFormOrRange : Answer → Type 0 where
  program_form : {k : ℕ} → OnFormOrRange (Refuse (ProgramForm k))
  program_range : {k : ℕ} → OnFormOrRange (Refuse (ProgramRange k))
  split_form : {k : ℕ} → OnFormOrRange (Refuse (SplitForm k))
  split_range : {k : ℕ} → OnFormOrRange (Refuse (SplitRange k))

-- "Other ranges stay": what was not refused on form or on range gets what it got
abbrev pub OtherRangesStay : Type 0
OtherRangesStay = (room : ℕ) (p s : List ℕ) → (OnFormOrRange (verdict_by_seven room p s) → ⊥) → verdict room p s ≡ verdict_by_seven room p s
