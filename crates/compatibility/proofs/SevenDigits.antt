-- Request (iii): a line that was not refused on form or on range is read as it was, and so the sheets.
use Rattle.std.proofs.Common.{Result}
use mathlib.Core.Path.{◌≡◌, refl}
use mathlib.Core.List.{List}
use mathlib.Core.Bool.{Bool, true, false}
use Prim.Native.Nat.{ℕ}
use lib.ListN.{length}
use Rattle.spec.specs.Choice.{when◌then◌else◌}
use Rattle.spec.specs.Text.{Field}
use Rattle.spec.specs.Reading.{Fault, bad_form, bad_range, LineResult, good, bad, program_sheet, split_sheet, SheetName, form, outside, faulty}
use Rattle.spec.specs.Program.{Program, program, count_line, item_lines}
use Rattle.spec.specs.Split.{header_line, type_lines, map_line, signature_line, row_line, split}
use Rattle.spec.specs.Verdict.{sheets, conditions_hold, checked, answer, verdict}
use Rattle.spec.specs.declared.Answer.TheVariants.{Refuse}
use Rattle.spec.specs.declared.Purpose.TheVariants.{Check}
use Rattle.spec.specs.declared.Refusal.{Refusal}
use Rattle.compatibility.specs.Judging.{program_by, split_by, sheets_by, checked_by, verdict_by}
use Rattle.compatibility.specs.SevenDigits.{over_seven, by_seven, narrowed, million_at_most, lines_by_seven, program_by_seven, verdict_by_seven, OnFormOrRange, program_form, program_range, split_form, split_range, OtherRangesStay}
use Rattle.compatibility.proofs.Unless.{Unless, same, gone, then_unless, SeenUnless, same_seen, lost, line_unless, lines_unless, replicated, mapped, changed}

-- ------------------------------------------------------------------ one line

abbrev Gone : Refusal → Type 0
Gone r = OnFormOrRange (Refuse r)

data Lost : Fault → Type 0 where
  lost_form : Lost bad_form
  lost_range : Lost bad_range

gone_by : {w : Fault} (sheet : SheetName) → Lost w → (k : ℕ) → Gone (faulty sheet w k)
unfolding faulty form outside
gone_by program_sheet lost_form k = program_form
gone_by program_sheet lost_range k = program_range
gone_by split_sheet lost_form k = split_form
gone_by split_sheet lost_range k = split_range

lost_gone : (sheet : SheetName) (w : Fault) → Lost w → (k : ℕ) → Gone (faulty sheet w k)
lost_gone sheet w = gone_by sheet

module _ (sheet : SheetName) {A : Type 0} where
  abbrev Alike : (x y : LineResult A) → Type 0
  Alike x y = SeenUnless Gone sheet Lost (lost_gone sheet) x y

  by_seven_alike : (read : List Field → LineResult A) (fs : List Field) → Alike (by_seven read fs) (read fs)
  unfolding by_seven
  by_seven_alike read fs = by_length (over_seven fs)
    where
      by_length : (b : Bool) → Alike (when b then bad bad_form else read fs) (read fs)
      by_length true = lost lost_form
      by_length false = same_seen

  narrowed_alike : (test : A → Bool) {x y : LineResult A} → Alike x y → Alike (narrowed test x) y
  unfolding narrowed
  narrowed_alike test (lost w) = lost w
  narrowed_alike test (same_seen {x = bad w}) = same_seen
  narrowed_alike test (same_seen {x = good a}) = by_test (test a)
    where
      by_test : (b : Bool) → Alike (when b then good a else bad bad_range) (good a)
      by_test true = same_seen
      by_test false = lost lost_range

-- ------------------------------------------------------------------ the sheets

program_alike : (text : List ℕ) → Unless Gone (program_by_seven text) (program text)
unfolding program_by_seven program_by program
program_alike text =
    then_unless Gone _ _ same λ top.
    then_unless Gone _ _ (line_unless Gone program_sheet Lost (lost_gone program_sheet) _ _ (by_seven_alike program_sheet count_line) top) λ (N, first).
    then_unless Gone _ _ (lines_unless Gone program_sheet Lost (lost_gone program_sheet)
    (changed Gone program_sheet Lost (lost_gone program_sheet) by_seven (by_seven_alike program_sheet) (item_lines N.heading _ _)) first) λ _.
    same

module _ (P : Program) where
  abbrev on_split : (w : Fault) → Lost w → (k : ℕ) → Gone (faulty split_sheet w k)
  on_split = lost_gone split_sheet

  split_alike : (text : List ℕ) → Unless Gone (split_by lines_by_seven P text) (split Check P text)
  unfolding split_by split
  split_alike text =
      then_unless Gone _ _ same λ top.
      then_unless Gone _ _ (line_unless Gone split_sheet Lost on_split _ _
      (λ fs. narrowed_alike split_sheet _ (by_seven_alike split_sheet (header_line Check) fs)) top) λ (H, p₁).
      then_unless Gone _ _ (lines_unless Gone split_sheet Lost on_split
      (changed Gone split_sheet Lost on_split by_seven (by_seven_alike split_sheet) (type_lines H 0 H.types)) p₁) λ (types, p₂).
      then_unless Gone _ _ (lines_unless Gone split_sheet Lost on_split
      (replicated Gone split_sheet Lost on_split H.maps (λ fs. narrowed_alike split_sheet million_at_most (by_seven_alike split_sheet (map_line H) fs))) p₂) λ (maps, p₃).
      then_unless Gone _ _ (lines_unless Gone split_sheet Lost on_split
      (replicated Gone split_sheet Lost on_split (length P.procedures) (by_seven_alike split_sheet (signature_line H))) p₃) λ (signatures, p₄).
      then_unless Gone _ _ (lines_unless Gone split_sheet Lost on_split
      (mapped Gone split_sheet Lost on_split _ _ (λ s. by_seven_alike split_sheet (row_line Check H s)) P.steps) p₄) λ _.
      same

-- ------------------------------------------------------------------ the answer

checked_alike : (room : ℕ) (p s : List ℕ) → Unless Gone (checked_by program_by_seven (split_by lines_by_seven) conditions_hold room p s) (checked room p s)
unfolding checked_by sheets_by checked sheets
checked_alike room p s =
    then_unless Gone _ _ same λ enough.
    then_unless Gone _ _ (then_unless Gone _ _ same λ fits.
    then_unless Gone _ _ (program_alike p) λ P.
    then_unless Gone _ _ same λ fits'.
    then_unless Gone _ _ (split_alike P s) λ S. same) λ _.
    same

pub other_ranges_stay : OtherRangesStay
unfolding verdict_by_seven verdict_by verdict
other_ranges_stay room p s = by_cases (checked_alike room p s)
  where
    by_cases : {o o' : Result (Unit {0}) Refusal} → Unless Gone o o' → (OnFormOrRange (answer o) → ⊥) → answer o' ≡ answer o
    by_cases same h = refl
    by_cases (gone w) h = unfold answer in absurd (h w)
