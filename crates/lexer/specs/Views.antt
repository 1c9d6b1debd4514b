-- What is left of a text, seen by its first field and by its first line.
use Rattle.std.specs.Prelude.{List, [], ◌∷◌, Bool, true, false, ℕ, suc, eqb, take, drop, Option, None, Some}
use Rattle.spec.specs.Choice.{when◌then◌else◌}
use Rattle.spec.specs.Text.{Field, on_field}
use Rattle.lexer.specs.declared.FieldEnd.{FieldEnd}
use Rattle.lexer.specs.declared.FieldEnd.TheVariants.{Comma, Newline, Text}

-- ------------------------------------------------------------------ the first field

-- what a byte ends a field with, if it ends one
unfoldable pub end_byte : ℕ → Option FieldEnd
end_byte b = when eqb b 44 then Some Comma else when eqb b 10 then Some Newline else None

-- what ends a field before what is left, if anything does
unfoldable pub end_before : List ℕ → Option FieldEnd
end_before [] = Some Text
end_before (b ∷ t) = end_byte b

-- how many bytes stand in front of the first comma or byte 10
unfoldable pub width : List ℕ → ℕ
width [] = 0
width (b ∷ t) = when eqb b 44 then 0 else when eqb b 10 then 0 else suc (width t)

-- which of the two comes first; the end of the text, if none does
unfoldable pub end_of : List ℕ → FieldEnd
end_of [] = Text
end_of (b ∷ t) = when eqb b 44 then Comma else when eqb b 10 then Newline else end_of t

unfoldable pub first_field : List ℕ → Field
first_field t = take (width t) t

-- what is left behind the first field and the byte that ends it
unfoldable pub behind : List ℕ → List ℕ
behind t = drop (suc (width t)) t

-- whether nothing is left
unfoldable pub text_ended : List ℕ → Bool
text_ended [] = true
text_ended (b ∷ t) = false

-- ------------------------------------------------------------------ the first line

-- a field, or a byte of the first field, in front of a line
unfoldable pub with_field : {A : Type 0} → Field → Option (List Field × A) → Option (List Field × A)
with_field f None = None
with_field f (Some line) = Some (f ∷ line.0, line.1)

unfoldable pub with_byte : {A : Type 0} → ℕ → Option (List Field × A) → Option (List Field × A)
with_byte b None = None
with_byte b (Some line) = Some (on_field b line.0, line.1)

-- the fields of the first line and what is left behind its byte 10; none where no byte 10 closes it
unfoldable pub line_at : List ℕ → Option (List Field × List ℕ)
line_at [] = None
line_at (b ∷ t) =
    when eqb b 44 then with_field [] (line_at t)
    else when eqb b 10 then Some ([] ∷ [], t)
    else with_byte b (line_at t)
