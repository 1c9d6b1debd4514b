-- Cursors over a text, and what stands at them.
use Rattle.std.specs.Prelude.{List, ℕ, ◌+◌, ◌≤◌, ◌<◌, length, drop}
use Rattle.spec.specs.Text.{lines}
use Rattle.spec.specs.Reading.{Place}
use Rattle.lexer.specs.Views.{width, end_of}
use Rattle.lexer.specs.declared.Cursor.{Cursor}
use Rattle.lexer.specs.declared.Span.{Span}
use Rattle.lexer.specs.declared.FieldEnd.{FieldEnd}
use Rattle.lexer.specs.declared.FieldEnd.TheVariants.{Comma, Newline, Text}

-- a cursor that 32 bits hold
pub record Fits (c : Cursor) : Type 0 where
  pub at : c.at < 4294967296
  pub line : c.line < 4294967296

-- a cursor that stands in a text or at its end, with no more lines than bytes behind it; the lines of the text can be counted in 32 bits
pub record Placed (text : List ℕ) (c : Cursor) : Type 0 where
  pub line_small : c.line ≤ c.at
  pub in_text : c.at ≤ length text
  pub short : length text < 4294967296

-- in front of the first line
unfoldable pub start : Cursor
start = record { at = 0; line = 0 }

-- what is left of the text
unfoldable pub rest : List ℕ → Cursor → List ℕ
rest text c = drop c.at text

-- the cursor as a reading place of document 01: the last line read, and the lines behind it
unfoldable pub place_at : List ℕ → Cursor → Place
place_at text c = record { last = c.line; rest = lines (rest text c) }

-- behind the byte that ends a field
unfoldable pub past : FieldEnd → (to line : ℕ) → Cursor
past Comma to line = record { at = to + 1; line = line }
past Newline to line = record { at = to + 1; line = line + 1 }
past Text to line = record { at = to; line = line }

-- the cursor behind the field at a cursor
unfoldable pub behind_field : List ℕ → Cursor → Cursor
behind_field text c = past (end_of (rest text c)) (c.at + width (rest text c)) c.line

-- the field from a cursor to a byte, with its end
unfoldable pub span_to : FieldEnd → (to : ℕ) → Cursor → Span
span_to e to c = record { from = c.at; to = to; end = e; next = past e to c.line }

-- the field at a cursor
unfoldable pub span_at : List ℕ → Cursor → Span
span_at text c = span_to (end_of (rest text c)) (c.at + width (rest text c)) c
