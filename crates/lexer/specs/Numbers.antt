-- Numerals at a cursor, as the shapes that the code hands back.
use Rattle.std.specs.Prelude.{List, [], ◌∷◌, map, Bool, false, ◌&&◌, ◌≡◌, ℕ, ◌+◌, ◌-◌, ◌≤◌, ◌<◌, eqb, leb, length, drop, Option, None, Some}
use Rattle.spec.specs.Choice.{when◌then◌else◌}
use Rattle.spec.specs.Text.{Field, digit_limit, digits, value as value_of, numeral}
use Rattle.spec.specs.Reading.{numerals}
use Rattle.lexer.specs.Views.{width, end_of, first_field, line_at}
use Rattle.lexer.specs.Cursors.{rest, behind_field}
use Rattle.lexer.specs.declared.Cursor.{Cursor}
use Rattle.lexer.specs.declared.FieldEnd.{FieldEnd}
use Rattle.lexer.specs.declared.Taken.{Taken}
use Rattle.lexer.specs.declared.Number.{Number}

-- ------------------------------------------------------------------ one numeral

unfoldable pub number_of : Option ℕ → FieldEnd → Cursor → Option Number
number_of None e c = None
number_of (Some n) e c = Some (record { value = n; end = e; next = c })

-- the numeral at a cursor, what ends it, and the cursor behind it
unfoldable pub number_at : List ℕ → Cursor → Option Number
number_at text c = number_of (numeral (first_field (rest text c))) (end_of (rest text c)) (behind_field text c)

-- ------------------------------------------------------------------ the digits in front

unfoldable pub digit_first : List ℕ → Bool
digit_first [] = false
digit_first (b ∷ t) = leb 48 b && leb b 57

-- the digits in front of the field at a cursor, all of them or as many as a numeral can have: with what is left of the field behind them, they are the field
pub record DigitsTaken (text : List ℕ) (c : Cursor) (d : Taken) : Type 0 where
  pub forward : c.at ≤ d.to
  pub in_text : d.to ≤ length text
  pub limit : d.to ≤ c.at + digit_limit
  pub ahead : c.at + width (rest text c) ≡ d.to + width (drop d.to text)
  pub end : end_of (rest text c) ≡ end_of (drop d.to text)
  pub all : digits (first_field (rest text c)) ≡ digits (first_field (drop d.to text))
  pub comes_to : value_of 0 (first_field (rest text c)) ≡ value_of d.value (first_field (drop d.to text))
  pub no_more : d.to < c.at + digit_limit → digit_first (drop d.to text) ≡ false

-- ------------------------------------------------------------------ stored numbers

-- a number as it is stored, in 32 bits: itself, or the largest that they hold
unfoldable pub stored : ℕ → ℕ
stored n = when leb n 4294967295 then n else 4294967295

-- the field is a numeral, and its number is stored as n
abbrev pub Spells : Field → ℕ → Type 0
Spells f n = (m : ℕ) × (numeral f ≡ Some m) × (n ≡ stored m)

-- ------------------------------------------------------------------ the numerals of a line

-- the numbers of a line that has numerals alone, as they are stored, and what is left behind it
unfoldable pub with_rest : Option (List ℕ) → List ℕ → Option (List ℕ × List ℕ)
with_rest None r = None
with_rest (Some ns) r = Some (map stored ns, r)

unfoldable pub numbers_in : Option (List Field × List ℕ) → Option (List ℕ × List ℕ)
numbers_in None = None
numbers_in (Some line) = with_rest (numerals line.0) line.1

-- so many of them
unfoldable pub counted : ℕ → Option (List ℕ × List ℕ) → Option (List ℕ × List ℕ)
counted n None = None
counted n (Some found) = when eqb (length found.0) n then Some found else None

-- the line at a cursor, if it is of so many numerals
unfoldable pub numbers_at : List ℕ → Cursor → ℕ → Option (List ℕ × List ℕ)
numbers_at text c n = counted n (numbers_in (line_at (rest text c)))

-- the cursor in front of what is left behind a line
unfoldable pub behind_line : List ℕ → Cursor → List ℕ → Cursor
behind_line text c r = record { at = length text - length r; line = c.line + 1 }

unfoldable pub numbers_of : List ℕ → Cursor → Option (List ℕ × List ℕ) → Option Cursor
numbers_of text c None = None
numbers_of text c (Some found) = Some (behind_line text c found.1)

-- what a lent slice holds afterwards: the numbers; of a line of another form, only its length is promised
abbrev pub Filled : Option (List ℕ × List ℕ) → (before after : List ℕ) → Type 0
Filled None before after = length after ≡ length before
Filled (Some found) before after = after ≡ found.0

-- reading the numerals of a line into a slice of as many places
pub record NumbersRead (text : List ℕ) (c : Cursor) (before after : List ℕ) (answer : Option Cursor) : Type 0 where
  pub found : answer ≡ numbers_of text c (numbers_at text c (length before))
  pub filled : Filled (numbers_at text c (length before)) before after
