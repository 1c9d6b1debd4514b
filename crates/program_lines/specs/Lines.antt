-- The lines of a program sheet at the cursor, as the shapes that the code hands back.
use Rattle.std.specs.Prelude.{◌≡◌, true, false, List, [], ◌∷◌, ℕ, ◌+◌, ◌≤◌, length, Option, None, Some, Result, Ok, Err}
use Rattle.spec.specs.declared.Refusal.{Refusal}
use Rattle.spec.specs.Text.{bytes, same, lines, look_up}
use Rattle.spec.specs.Reading.{program_sheet, ◌>>=◌, Place, begin, read_line}
use Rattle.spec.specs.Expression.{Item, step, proc}
use Rattle.spec.specs.Words.{words_under, largest_value}
use Rattle.spec.specs.Program.{Counts, count_ranges, counts_of, count_line, item_line}
use Rattle.spec.specs.declared.ProgramHeading.{ProgramHeading}
use Rattle.spec.specs.declared.ProgramHeading.TheVariants.{P, P2}
use Rattle.spec.specs.declared.Word.{Word}
use Rattle.lexer.specs.Views.{first_field, text_ended}
use Rattle.lexer.specs.Cursors.{Placed, rest, place_at, span_at}
use Rattle.lexer.specs.Numbers.{numbers_at}
use Rattle.lexer.specs.declared.Cursor.{Cursor}
use Rattle.lexer.specs.declared.Span.{Span}
use Rattle.lexer.specs.declared.FieldEnd.TheVariants.{Comma}
use Rattle.program_lines.specs.declared.counts.CountLine.{CountLine}
use Rattle.program_lines.specs.declared.items.StepLine.{StepLine}
use Rattle.program_lines.specs.declared.items.StepLine.TheVariants.{Step, Proc}

-- ------------------------------------------------------------------ the numbers after a first field

-- the numbers ns end the line after the field s, and the cursor d stands after the line
pub record NumbersEnd (text : List ℕ) (s : Span) (ns : List ℕ) (d : Cursor) : Type 0 where
  pub comma : s.end ≡ Comma
  pub read : numbers_at text s.next (length ns) ≡ Some (ns, rest text d)
  pub placed : Placed text d
  pub line : d.line ≡ s.next.line + 1

-- no n numbers end it
abbrev pub NumbersLack : List ℕ → Span → ℕ → Type 0
NumbersLack text s n = s.end ≡ Comma → numbers_at text s.next n ≡ None

abbrev pub TailShown : List ℕ → Span → Option (ℕ × Cursor) → Type 0
TailShown text s None = NumbersLack text s 1
TailShown text s (Some (v, d)) = NumbersEnd text s (v ∷ []) d

abbrev pub PairShown : List ℕ → Span → Option (ℕ × ℕ × Cursor) → Type 0
PairShown text s None = NumbersLack text s 2
PairShown text s (Some (n, k, d)) = NumbersEnd text s (n ∷ k ∷ []) d

-- a line is left at the cursor, and s is its first field
pub record FieldAt (text : List ℕ) (c : Cursor) (s : Span) : Type 0 where
  pub placed : Placed text c
  pub left : text_ended (rest text c) ≡ false
  pub field : s ≡ span_at text c

-- ------------------------------------------------------------------ line 1

unfoldable pub count_at : List ℕ → Result (Counts × Place) Refusal
count_at text = begin program_sheet (lines text) >>= λ top. read_line program_sheet count_line top

-- the numbers of line 1, of steps and, in a `P2` sheet, of procedures
unfoldable pub count_numbers : ProgramHeading → (n k : ℕ) → List ℕ
count_numbers P n k = n ∷ []
count_numbers P2 n k = n ∷ k ∷ []

-- n and k after the heading h; a `P` sheet has no procedures
abbrev pub CountsAfter : List ℕ → Span → ProgramHeading → Option (ℕ × ℕ × Cursor) → Type 0
CountsAfter text s h None = NumbersLack text s (length (count_ranges h))
CountsAfter text s h (Some (n, k, d)) =
    NumbersEnd text s (count_numbers h n k) d
    × (counts_of h (count_numbers h n k) ≡ record { heading = h; steps = n; procedures = k })

abbrev pub CountShown : List ℕ → Result CountLine Refusal → Type 0
CountShown text (Ok l) =
    (count_at text ≡ Ok (record { heading = l.heading; steps = l.steps; procedures = l.procedures }, place_at text l.next))
    × (l.steps ≤ 256)
    × (l.procedures ≤ 16)
    × Placed text l.next
CountShown text (Err x) = count_at text ≡ Err x

-- ------------------------------------------------------------------ the lines after it

unfoldable pub item_at : List ℕ → ProgramHeading → Cursor → Result (Item × Place) Refusal
item_at text h c = read_line program_sheet (item_line h (c.line + 1)) (place_at text c)

-- the field is the word `freelock`
pub record FreelockAt (text : List ℕ) (c : Cursor) (s : Span) : Type 0 where
  pub here : FieldAt text c s
  pub freelock : same (first_field (rest text c)) (bytes "freelock") ≡ true

-- the field is the word `proc`
pub record ProcAt (text : List ℕ) (c : Cursor) (s : Span) : Type 0 where
  pub here : FieldAt text c s
  pub other : same (first_field (rest text c)) (bytes "freelock") ≡ false
  pub proc : same (first_field (rest text c)) (bytes "proc") ≡ true

-- the field is neither of them
pub record StepAt (text : List ℕ) (c : Cursor) (s : Span) : Type 0 where
  pub here : FieldAt text c s
  pub other : same (first_field (rest text c)) (bytes "freelock") ≡ false
  pub plain : same (first_field (rest text c)) (bytes "proc") ≡ false

-- it spells the word w of a step under the heading h
pub record WordAt (text : List ℕ) (h : ProgramHeading) (c : Cursor) (s : Span) (w : Word) : Type 0 where
  pub step : StepAt text c s
  pub spelled : look_up (words_under h) (first_field (rest text c)) ≡ Some w

abbrev pub StepShown : List ℕ → ProgramHeading → Cursor → Result StepLine Refusal → Type 0
StepShown text h c (Ok (Step w v d)) =
    (item_at text h c ≡ Ok (step (record { word = w; value = v; line = d.line }), place_at text d))
    × (v ≤ largest_value w)
    × Placed text d
    × (d.line ≡ c.line + 1)
StepShown text h c (Ok (Proc x d)) =
    (item_at text h c ≡ Ok (proc x d.line, place_at text d))
    × (x ≤ 255)
    × Placed text d
    × (d.line ≡ c.line + 1)
StepShown text h c (Err x) = item_at text h c ≡ Err x
