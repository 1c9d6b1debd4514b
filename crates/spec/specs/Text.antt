-- Texts: lines, fields and numerals. A text is the list of its bytes.
use Rattle.std.specs.Prelude.{List, [], ◌∷◌, Bool, true, false, ◌&&◌, not, ℕ, ◌+◌, ◌-◌, ◌*◌, eqb, leb, length, Option, None, Some}
use Prim.Native.Char.{code}
use Prim.Native.String.{String, [] as []ˢ, ◌∷◌ as ◌∷ˢ◌}
use Rattle.spec.specs.Choice.{when◌then◌else◌}

-- the bytes of a text that is written out
unfoldable pub bytes : String → List ℕ
bytes []ˢ = []
bytes (c ∷ˢ s) = code c ∷ bytes s

-- whether two lists of bytes are the same
unfoldable pub same : List ℕ → List ℕ → Bool
same [] [] = true
same [] (b ∷ t) = false
same (a ∷ s) [] = false
same (a ∷ s) (b ∷ t) = eqb a b && same s t

-- ------------------------------------------------------------------ lines

-- "Every line ends with byte 10": what it closes is a line, and so is what is left behind the last byte 10
pub data Line : Type 0 where
  closed unclosed : List ℕ → Line

-- a byte in front of the first line
unfoldable pub on_line : ℕ → List Line → List Line
on_line b [] = unclosed (b ∷ []) ∷ []
on_line b (closed l ∷ r) = closed (b ∷ l) ∷ r
on_line b (unclosed l ∷ r) = unclosed (b ∷ l) ∷ r

unfoldable pub lines : List ℕ → List Line
lines [] = []
lines (b ∷ t) = when eqb b 10 then closed [] ∷ lines t else on_line b (lines t)

-- ------------------------------------------------------------------ fields

-- "Fields are parted by commas": a line has one more field than commas
abbrev pub Field : Type 0
Field = List ℕ

-- a byte in front of the first field
unfoldable pub on_field : ℕ → List Field → List Field
on_field b [] = (b ∷ []) ∷ []
on_field b (f ∷ r) = (b ∷ f) ∷ r

unfoldable pub fields : List ℕ → List Field
fields [] = [] ∷ []
fields (b ∷ t) = when eqb b 44 then [] ∷ fields t else on_field b (fields t)

-- what a table has for a field
unfoldable pub look_up : {A : Type 0} → List (List ℕ × A) → Field → Option A
look_up [] f = None
look_up (w ∷ ws) f = when same w.0 f then Some w.1 else look_up ws f

-- ------------------------------------------------------------------ numerals

-- "A numeral has 1 to 7 digits and no leading zero, except `0` itself"; request (iii): "up to 10 digits"
unfoldable pub digit_limit : ℕ
digit_limit = 10

unfoldable pub digits : List ℕ → Bool
digits [] = true
digits (b ∷ t) = leb 48 b && leb b 57 && digits t

unfoldable pub leading_zero : List ℕ → Bool
leading_zero [] = false
leading_zero (b ∷ []) = false
leading_zero (b ∷ c ∷ t) = eqb b 48

-- the number whose digits are those of a and then the bytes listed
unfoldable pub value : ℕ → List ℕ → ℕ
value a [] = a
value a (b ∷ t) = value (a * 10 + (b - 48)) t

unfoldable pub numeral : Field → Option ℕ
numeral f =
    when leb 1 (length f) && leb (length f) digit_limit && digits f && not (leading_zero f)
    then Some (value 0 f)
    else None
