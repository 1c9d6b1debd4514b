-- Reading a sheet line by line, with the refusals that a line can meet: its form, a range, lines missing or spare.
use Rattle.std.specs.Prelude.{List, [], ◌∷◌, Bool, true, false, ◌&&◌, ℕ, ◌+◌, eqb, leb, ltb, length, get_or, Option, None, Some, Result, Ok, Err}
use Rattle.spec.specs.Choice.{when◌then◌else◌}
use Rattle.spec.specs.Text.{Line, closed, unclosed, Field, fields, numeral}
use Rattle.spec.specs.declared.Refusal.{Refusal}
use Rattle.spec.specs.declared.Refusal.TheVariants.{ProgramForm, ProgramRange, ProgramLines, SplitForm, SplitRange, SplitLines, NoStart, Freelock, NoKept}

-- ------------------------------------------------------------------ outcomes

-- an outcome is a `Result` with a refusal: stopped by it, or going on with what was found
infixl 1 ◌>>=◌
unfoldable pub ◌>>=◌ : {A B : Type 0} → Result A Refusal → (A → Result B Refusal) → Result B Refusal
Err r >>= f = Err r
Ok a >>= f = f a

-- go on if the test holds
unfoldable pub require : Bool → Refusal → Result (Unit {0}) Refusal
require true r = Ok tt
require false r = Err r

-- ------------------------------------------------------------------ numbers on a line

-- what can be wrong with a closed line
pub data Fault : Type 0 where
  bad_form bad_range no_start freelock no_kept : Fault

-- what a closed line shows: form is judged before range
pub data LineResult (A : Type 0) : Type 0 where
  good : A → LineResult A
  bad : Fault → LineResult A

unfoldable pub seen : {A B : Type 0} → (A → B) → LineResult A → LineResult B
seen f (good a) = good (f a)
seen f (bad w) = bad w

-- what a line shows by a word or by numbers that are there; else it is of the wrong form
unfoldable pub or_bad_form : {A B : Type 0} → Option A → (A → LineResult B) → LineResult B
or_bad_form None read = bad bad_form
or_bad_form (Some a) read = read a

-- what is judged of a line after its form and its ranges
unfoldable pub ensure : {A : Type 0} → Bool → Fault → LineResult A → LineResult A
ensure b w (bad v) = bad v
ensure true w (good a) = good a
ensure false w (good a) = bad w

-- a line that is wrong whatever it shows, once its form and its ranges are right
unfoldable pub refuse_after : {A B : Type 0} → Fault → LineResult A → LineResult B
refuse_after w (bad v) = bad v
refuse_after w (good a) = bad w

-- the range of a number: from the first to the last, both in it; or the number of one of so many things, counted from 0
infix 4 ◌to◌
pub data Range : Type 0 where
  ◌to◌ : (first last : ℕ) → Range
  below : (count : ℕ) → Range

unfoldable pub in_range : Range → ℕ → Bool
in_range (first to last) n = leb first n && leb n last
in_range (below count) n = ltb n count

-- each number in its range; numbers or ranges left over pass here, since `numbers` counts them first
unfoldable pub all_in_range : List Range → List ℕ → Bool
all_in_range [] [] = true
all_in_range [] (n ∷ ns) = true
all_in_range (r ∷ rs) [] = true
all_in_range (r ∷ rs) (n ∷ ns) = in_range r n && all_in_range rs ns

unfoldable pub with_numeral : Option ℕ → Option (List ℕ) → Option (List ℕ)
with_numeral None ns = None
with_numeral (Some n) None = None
with_numeral (Some n) (Some ns) = Some (n ∷ ns)

-- the numbers of fields that are numerals, all of them
unfoldable pub numerals : List Field → Option (List ℕ)
numerals [] = Some []
numerals (f ∷ fs) = with_numeral (numeral f) (numerals fs)

-- as many numerals as ranges, each in its range
unfoldable pub numbers : List Range → List Field → LineResult (List ℕ)
numbers rs fs =
    or_bad_form (numerals fs) λ ns.
    when eqb (length ns) (length rs)
    then (when all_in_range rs ns then good ns else bad bad_range)
    else bad bad_form

-- the number at index i of a line. A 0 for none is never seen: `numbers` lets through only as many numerals as ranges.
abbrev pub nth : (i : ℕ) → List ℕ → ℕ
nth i ns = get_or ns i 0

-- ------------------------------------------------------------------ lines in turn

-- the two sheets, and the refusals of a line of each
pub data SheetName : Type 0 where
  program_sheet split_sheet : SheetName

unfoldable pub form : SheetName → (line : ℕ) → Refusal
form program_sheet k = ProgramForm k
form split_sheet k = SplitForm k

unfoldable pub outside : SheetName → (line : ℕ) → Refusal
outside program_sheet k = ProgramRange k
outside split_sheet k = SplitRange k

unfoldable pub miscounted : SheetName → (line : ℕ) → Refusal
miscounted program_sheet k = ProgramLines k
miscounted split_sheet k = SplitLines k

unfoldable pub faulty : SheetName → Fault → (line : ℕ) → Refusal
faulty sheet bad_form k = form sheet k
faulty sheet bad_range k = outside sheet k
faulty sheet no_start k = NoStart k
faulty sheet freelock k = Freelock k
faulty sheet no_kept k = NoKept k

-- the reading place: the number of the last line read, 0 before the first, and the lines behind it
pub record Place : Type 0 where
  pub last : ℕ
  pub rest : List Line

unfoldable pub passed : {A : Type 0} → SheetName → (line : ℕ) → List Line → LineResult A → Result (A × Place) Refusal
passed sheet k rest (good a) = Ok (a, record { last = k; rest = rest })
passed sheet k rest (bad w) = Err (faulty sheet w k)

-- a counted line: missing, without its closing byte, or what its fields show
unfoldable pub next_line : {A : Type 0} → SheetName → (List Field → LineResult A) → (last : ℕ) → List Line → Result (A × Place) Refusal
next_line sheet read k [] = Err (miscounted sheet k)
next_line sheet read k (unclosed l ∷ rest) = Err (form sheet (k + 1))
next_line sheet read k (closed l ∷ rest) = passed sheet (k + 1) rest (read (fields l))

unfoldable pub read_line : {A : Type 0} → SheetName → (List Field → LineResult A) → Place → Result (A × Place) Refusal
read_line sheet read place = next_line sheet read place.last place.rest

-- counted lines in turn, each read in its own way
unfoldable pub read_lines : {A : Type 0} → SheetName → List (List Field → LineResult A) → Place → Result (List A × Place) Refusal
read_lines sheet [] place = Ok ([], place)
read_lines sheet (read ∷ reads) place = do
  (a, after) ← read_line sheet read place
  (as', end) ← read_lines sheet reads after
  Ok (a ∷ as', end)

-- an empty text is of the wrong form at line 1
unfoldable pub begin : SheetName → List Line → Result Place Refusal
begin sheet [] = Err (form sheet 1)
begin sheet (l ∷ rest) = Ok (record { last = 0; rest = l ∷ rest })

-- a line behind the last is spare, with any bytes, closed or not
unfoldable pub end : SheetName → Place → Result (Unit {0}) Refusal
end sheet place = require (eqb (length place.rest) 0) (miscounted sheet (place.last + 1))
