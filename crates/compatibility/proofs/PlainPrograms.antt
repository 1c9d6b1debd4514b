-- Request (xiv): behind a line 1 headed `P` each line of a program is read as it was; another line 1 was of the wrong form.
use Rattle.std.proofs.Common.{Option, Some, Result}
use mathlib.Core.Path.{◌≡◌, refl, ap, sym}
use mathlib.Core.List.{List, [], ◌∷◌}
use mathlib.Core.Bool.{Bool, true, false}
use Prim.Native.Nat.{ℕ, zero, suc, ◌+◌}
use Rattle.spec.specs.Choice.{when◌then◌else◌}
use Rattle.spec.specs.Text.{bytes, same as same_bytes, Line, closed, unclosed, lines, Field, fields, look_up}
use Rattle.spec.specs.Reading.{◌>>=◌, Fault, bad_form, LineResult, good, bad, freelock, refuse_after, ◌to◌, numbers, program_sheet, form, faulty, passed, next_line, read_line, begin, or_bad_form, seen}
use Rattle.spec.specs.Words.{leaf_words, unary_words, cell_words, lock_words, hold_words, binary_words, words, words_under}
use Rattle.spec.specs.Expression.{Item}
use Rattle.spec.specs.Program.{Counts, program_headings, counts_of, count_line, word_line, proc_line, item_line, item_lines, program, count_ranges}
use Rattle.spec.specs.Split.{split}
use Rattle.spec.specs.Verdict.{sheets, conditions_hold, checked, answer, verdict}
use Rattle.spec.specs.declared.Answer.TheVariants.{Refuse}
use Rattle.spec.specs.declared.ProgramHeading.{ProgramHeading}
use Rattle.spec.specs.declared.ProgramHeading.TheVariants.{P}
use Rattle.spec.specs.declared.Purpose.TheVariants.{Check}
use Rattle.spec.specs.declared.Refusal.{Refusal}
use Rattle.spec.specs.declared.Refusal.TheVariants.{ProgramForm}
use Rattle.spec.proofs.Tests.{same_equal}
use Rattle.spec.proofs.Seen.{seen_right}
use Rattle.compatibility.specs.Judging.{program_by, sheets_by, checked_by, verdict_by}
use Rattle.compatibility.specs.PlainPrograms.{plain_count_line, plain_item_line, plain_item_lines, plain_program, verdict_of_plain, PlainProgramsStay}
use Rattle.compatibility.proofs.Unless.{Unless, same, gone, then_unless}
use Rattle.compatibility.proofs.ProgramStages.{after_count, after_items}

-- ------------------------------------------------------------------ the lines behind line 1

item_alike : (k : ℕ) (fs : List Field) → plain_item_line k fs ≡ item_line P k fs
unfolding plain_item_line item_line words_under
item_alike k [] = refl
item_alike k (f ∷ fs) = ap (λ (x : LineResult Item). when same_bytes f (bytes "freelock") then refuse_after freelock (numbers ((0 to 0) ∷ []) fs) else x)
    (by_word (same_bytes f (bytes "proc")) refl)
  where
    by_word : (b : Bool) → same_bytes f (bytes "proc") ≡ b
        → or_bad_form (look_up words f) (λ w. word_line k w fs) ≡ (when b then proc_line P k fs else or_bad_form (look_up words f) λ w. word_line k w fs)
    by_word true e =
        let is : f ≡ bytes "proc" = same_equal f (bytes "proc") e in
        rw is (unfold proc_line or_bad_form look_up words leaf_words unary_words cell_words lock_words hold_words binary_words same_bytes bytes in refl)
    by_word false e = refl

items_alike : (k n : ℕ) → plain_item_lines P k n ≡ item_lines P k n
unfolding plain_item_lines item_lines
items_alike k zero = refl
items_alike k (suc n) = λ i. (λ fs. item_alike k fs i) ∷ items_alike (k + 1) n i

-- ------------------------------------------------------------------ line 1

abbrev Gone : Refusal → Type 0
Gone r = r ≡ ProgramForm 1

-- a line headed `P` is read as it was; any other was of the wrong form
data CountAlike : (former now : LineResult Counts) → Type 0 where
  refused : (x : LineResult Counts) → CountAlike (bad bad_form) x
  too_refused : (w : Fault) → CountAlike (bad w) (bad w)
  plain_read : (N : Counts) → N.heading ≡ P → CountAlike (good N) (good N)

count_alike : (fs : List Field) → CountAlike (plain_count_line fs) (count_line fs)
unfolding plain_count_line count_line or_bad_form look_up program_headings
count_alike [] = refused _
count_alike (f ∷ fs) = by_heading (same_bytes (bytes "P") f) _
  where
    headed : (x : LineResult Counts) → seen (counts_of P) (numbers (count_ranges P) fs) ≡ x → CountAlike x x
    headed (bad w) e = too_refused w
    headed (good N) e = unfold counts_of in
        let (ns, _, is) = seen_right _ e in
        plain_read N (sym (ap (λ (x : Counts). x.heading) is))

    by_heading : (b : Bool) (other : Option ProgramHeading) → CountAlike (when b then seen (counts_of P) (numbers (count_ranges P) fs) else bad bad_form)
        (or_bad_form (when b then Some P else other) λ h. seen (counts_of h) (numbers (count_ranges h) fs))
    by_heading true other = headed _ refl
    by_heading false other = refused _

-- ------------------------------------------------------------------ the sheet

behind_alike : (ls : List Line) {x y : LineResult Counts} → CountAlike x y
    → Unless Gone (passed program_sheet 1 ls x >>= after_count plain_item_lines) (passed program_sheet 1 ls y >>= after_count item_lines)
unfolding passed ◌>>=◌ after_count faulty form
behind_alike ls (refused x) = gone refl
behind_alike ls (too_refused w) = same
behind_alike ls (plain_read N is_plain) = rw (is_plain, items_alike 2 (N.steps + N.procedures)) same

program_alike : (text : List ℕ) → Unless Gone (plain_program text) (program text)
unfolding plain_program program_by program after_count after_items
program_alike text = by_lines (lines text)
  where
    by_lines : (ls : List Line)
        → Unless Gone (begin program_sheet ls >>= λ top. read_line program_sheet plain_count_line top >>= after_count plain_item_lines)
        (begin program_sheet ls >>= λ top. read_line program_sheet count_line top >>= after_count item_lines)
    by_lines [] = unfold begin ◌>>=◌ in same
    by_lines (unclosed l ∷ ls) = unfold begin read_line next_line ◌>>=◌ in same
    by_lines (closed l ∷ ls) = unfold begin read_line next_line ◌>>=◌ in behind_alike ls (count_alike (fields l))

-- ------------------------------------------------------------------ the answer

checked_alike : (room : ℕ) (p s : List ℕ) → Unless Gone (checked_by plain_program (split Check) conditions_hold room p s) (checked room p s)
unfolding checked_by sheets_by checked sheets
checked_alike room p s =
    then_unless Gone _ _ same λ enough.
    then_unless Gone _ _ (then_unless Gone _ _ same λ fits. then_unless Gone _ _ (program_alike p) λ P. same) λ _.
    same

pub plain_programs_stay : PlainProgramsStay
unfolding verdict_of_plain verdict_by verdict
plain_programs_stay room p s = by_cases (checked_alike room p s)
  where
    by_cases : {o o' : Result (Unit {0}) Refusal} → Unless Gone o o' → (answer o ≡ Refuse (ProgramForm 1) → ⊥) → answer o' ≡ answer o
    by_cases same h = refl
    by_cases (gone e) h = unfold answer in absurd (h (ap Refuse e))
