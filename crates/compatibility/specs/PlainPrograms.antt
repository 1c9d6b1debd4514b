-- Request (xiv), "Procedures". Before it a program sheet had the heading `P`, and neither `proc` nor `call` was a word.
use Rattle.std.specs.Prelude.{◌≡◌, List, [], ◌∷◌, ◌++◌, Bool, false, ◌||◌, ℕ, zero, suc, ◌+◌, ◌≤◌, length, Result}
use Rattle.spec.specs.declared.Refusal.{Refusal}
use Rattle.spec.specs.Choice.{when◌then◌else◌}
use Rattle.spec.specs.Text.{bytes, same, Line, closed, unclosed, lines, Field, fields, look_up}
use Rattle.spec.specs.Reading.{LineResult, bad, bad_form, freelock, seen, refuse_after, ◌to◌, numbers, or_bad_form}
use Rattle.spec.specs.Words.{words}
use Rattle.spec.specs.Expression.{Item}
use Rattle.spec.specs.Program.{program_limit, Counts, count_ranges, counts_of, word_line, Program}
use Rattle.spec.specs.Split.{split}
use Rattle.spec.specs.Verdict.{conditions_hold, verdict}
use Rattle.spec.specs.declared.Answer.{Answer}
use Rattle.spec.specs.declared.Answer.TheVariants.{Refuse}
use Rattle.spec.specs.declared.ProgramHeading.{ProgramHeading}
use Rattle.spec.specs.declared.ProgramHeading.TheVariants.{P}
use Rattle.spec.specs.declared.Purpose.TheVariants.{Check}
use Rattle.spec.specs.declared.Refusal.TheVariants.{ProgramForm}
use Rattle.compatibility.specs.Texts.{OneLine, ◌above◌}
use Rattle.compatibility.specs.Judging.{program_by, verdict_by}

-- ------------------------------------------------------------------ the reading before

unfoldable pub plain_count_line : List Field → LineResult Counts
plain_count_line [] = bad bad_form
plain_count_line (f ∷ fs) = when same (bytes "P") f then seen (counts_of P) (numbers (count_ranges P) fs) else bad bad_form

unfoldable pub plain_item_line : (line : ℕ) → List Field → LineResult Item
plain_item_line k [] = bad bad_form
plain_item_line k (f ∷ fs) =
    when same f (bytes "freelock") then refuse_after freelock (numbers ((0 to 0) ∷ []) fs) else or_bad_form (look_up words f) λ w. word_line k w fs

unfoldable pub plain_item_lines : ProgramHeading → (line n : ℕ) → List (List Field → LineResult Item)
plain_item_lines h k zero = []
plain_item_lines h k (suc n) = plain_item_line k ∷ plain_item_lines h (k + 1) n

unfoldable pub plain_program : List ℕ → Result Program Refusal
plain_program = program_by plain_count_line plain_item_lines

unfoldable pub verdict_of_plain : (room : ℕ) → (program_text split_text : List ℕ) → Answer
verdict_of_plain = verdict_by plain_program (split Check) conditions_hold

-- "In a `P` sheet both new words are 11", as any unknown word: what was not refused for the form of line 1 gets what it got
abbrev pub PlainProgramsStay : Type 0
PlainProgramsStay =
    (room : ℕ) (p s : List ℕ) → (verdict_of_plain room p s ≡ Refuse (ProgramForm 1) → ⊥) → verdict room p s ≡ verdict_of_plain room p s

-- ------------------------------------------------------------------ the same sheet under the new heading

-- line 1 with the number a, and the same with no procedures counted
abbrev pub plain_header : (a : List ℕ) → List ℕ
plain_header a = bytes "P," ++ a

abbrev pub header_with_none : (a : List ℕ) → List ℕ
header_with_none a = bytes "P2," ++ a ++ bytes ",0"

unfoldable pub new_word : List Field → Bool
new_word [] = false
new_word (f ∷ fs) = same f (bytes "proc") || same (bytes "call") f

unfoldable pub NoNewWords : List Line → Type 0
NoNewWords [] = Unit {0}
NoNewWords (closed l ∷ ls) = (new_word (fields l) ≡ false) × NoNewWords ls
NoNewWords (unclosed l ∷ ls) = NoNewWords ls

-- the sheet of the same steps and no procedures gets the same answer, refused or accepted
abbrev pub NoProceduresStay : Type 0
NoProceduresStay =
    (room : ℕ) (a t s : List ℕ) → OneLine a → NoNewWords (lines t) → length (header_with_none a above t) ≤ program_limit
    → verdict room (header_with_none a above t) s ≡ verdict room (plain_header a above t) s
