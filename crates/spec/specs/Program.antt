-- The program sheet.
use Rattle.std.specs.Prelude.{List, [], ◌∷◌, ℕ, zero, suc, ◌+◌, Result, Ok}
use Rattle.spec.specs.declared.Refusal.{Refusal}
use Rattle.spec.specs.Choice.{when◌then◌else◌}
use Rattle.spec.specs.Text.{bytes, same, lines, Field, look_up}
use Rattle.spec.specs.Reading.{program_sheet, ◌>>=◌, LineResult, bad, bad_form, freelock, seen, or_bad_form, refuse_after, ◌to◌, Range, numbers, nth, read_line, read_lines, begin, end}
use Rattle.spec.specs.Words.{words_under, value_range}
use Rattle.spec.specs.Expression.{Step, Expr, Item, step, proc, steps_among, Procedure, structure, scopes}
use Rattle.spec.specs.declared.ProgramHeading.{ProgramHeading}
use Rattle.spec.specs.declared.ProgramHeading.TheVariants.{P, P2}
use Rattle.spec.specs.declared.Word.{Word}

-- the most bytes that a program sheet may have
unfoldable pub program_limit : ℕ
program_limit = 16384

-- `P,n`: n the number of steps; `P2,n,k`: and k procedures
pub record Counts : Type 0 where
  pub heading : ProgramHeading
  pub steps : ℕ
  pub procedures : ℕ

unfoldable pub program_headings : List (List ℕ × ProgramHeading)
program_headings = (bytes "P", P) ∷ (bytes "P2", P2) ∷ []

-- "Header `P2,n,k` has 0 to 16 procedures"
unfoldable pub count_ranges : ProgramHeading → List Range
count_ranges P = (1 to 256) ∷ []
count_ranges P2 = (1 to 256) ∷ (0 to 16) ∷ []

unfoldable pub procedures_of : ProgramHeading → List ℕ → ℕ
procedures_of P ns = 0
procedures_of P2 ns = nth 1 ns

unfoldable pub counts_of : ProgramHeading → List ℕ → Counts
counts_of h ns = record { heading = h; steps = nth 0 ns; procedures = procedures_of h ns }

unfoldable pub count_line : List Field → LineResult Counts
count_line [] = bad bad_form
count_line (f ∷ fs) = or_bad_form (look_up program_headings f) λ h. seen (counts_of h) (numbers (count_ranges h) fs)

-- `word,v`
unfoldable pub step_of : (line : ℕ) → Word → List ℕ → Item
step_of k w ns = step (record { word = w; value = nth 0 ns; line = k })

unfoldable pub word_line : (line : ℕ) → Word → List Field → LineResult Item
word_line k w fs = seen (step_of k w) (numbers (value_range w ∷ []) fs)

-- `proc,x`; "In a `P` sheet both new words are 11"
unfoldable pub proc_of : (line : ℕ) → List ℕ → Item
proc_of k ns = proc (nth 0 ns) k

unfoldable pub proc_line : ProgramHeading → (line : ℕ) → List Field → LineResult Item
proc_line P k fs = bad bad_form
proc_line P2 k fs = seen (proc_of k) (numbers ((0 to 255) ∷ []) fs)

-- "45 for the word `freelock`, after 12 on its line"; its v is 0
unfoldable pub item_line : ProgramHeading → (line : ℕ) → List Field → LineResult Item
item_line h k [] = bad bad_form
item_line h k (f ∷ fs) =
    when same f (bytes "freelock") then refuse_after freelock (numbers ((0 to 0) ∷ []) fs)
    else when same f (bytes "proc") then proc_line h k fs
    else or_bad_form (look_up (words_under h) f) λ w. word_line k w fs

-- n lines behind the header, numbered from `line` upward
unfoldable pub item_lines : ProgramHeading → (line n : ℕ) → List (List Field → LineResult Item)
item_lines h k zero = []
item_lines h k (suc n) = item_line h k ∷ item_lines h (k + 1) n

-- a program: its steps in line order, and what they list, its procedures and its root
pub record Program : Type 0 where
  pub steps : List Step
  pub procedures : List Procedure
  pub root : Expr

-- 11, 12, 45 and 13 line by line, "After the header come n + k lines"; then 13 for the procedures and the root; then 14, 15 and 49
unfoldable pub program : List ℕ → Result Program Refusal
program text = do
  top ← begin program_sheet (lines text)
  (counts, first) ← read_line program_sheet count_line top
  (items, last) ← read_lines program_sheet (item_lines counts.heading (first.last + 1) (counts.steps + counts.procedures)) first
  done ← end program_sheet last
  (ps, e) ← structure last.last counts.procedures 0 items
  bound ← scopes counts.procedures ps e []
  Ok (record { steps = steps_among items; procedures = ps; root = e })
