-- Line 1 of a split sheet, as its reader sees it, and what the reader's answers mean.
use Rattle.std.specs.Prelude.{◌≡◌, List, [], ◌∷◌, Bool, false, ℕ, ◌+◌, length, Option, None, Some, Result, Ok, Err}
use Rattle.spec.specs.declared.Refusal.{Refusal}
use Rattle.spec.specs.Reading.{Place, all_in_range}
use Rattle.spec.specs.Split.{header_ranges, header_of}
use Rattle.spec.specs.declared.Header.{Header}
use Rattle.spec.specs.declared.Heading.{Heading}
use Rattle.spec.specs.declared.Heading.TheVariants.{C2}
use Rattle.lexer.specs.Views.{text_ended}
use Rattle.lexer.specs.Cursors.{Placed, rest, place_at}
use Rattle.lexer.specs.Numbers.{numbers_at}
use Rattle.lexer.specs.declared.Cursor.{Cursor}
use Rattle.workspace.specs.Sheets.{Small}
use Rattle.split_fields.specs.Answers.{SplitCursor}

-- a cursor at line 1
pub record AtHeader (text : List ℕ) (c : Cursor) : Type 0 where
  pub reading : SplitCursor text c
  pub some : text_ended (rest text c) ≡ false

-- how many numerals stand after a heading
unfoldable pub numerals_of : Heading → ℕ
numerals_of h = length (header_ranges h 0)

-- whether the numbers of a header are in their ranges: map 0, the start that a `C` header does not name, is in its range too
unfoldable pub header_fits : Header → Bool
header_fits H = all_in_range (header_ranges C2 H.maps) (H.denominator ∷ H.locations ∷ H.types ∷ H.maps ∷ H.start.0 ∷ [])

-- the numerals after a heading, as they are stored: the header that they make, in range or not
abbrev pub NumbersAnswer : List ℕ → Cursor → Heading → Option (Header × Cursor) → Type 0
NumbersAnswer text c h None = numbers_at text c (numerals_of h) ≡ None
NumbersAnswer text c h (Some (H, d)) =
    (ns : List ℕ) × (numbers_at text c (numerals_of h) ≡ Some (ns, rest text d)) × (header_of h ns ≡ H) × Placed text d × (d.line ≡ c.line + 1)

-- a refusal is that of document 01; else the header is what document 01 reads there
abbrev pub HeaderAnswer : List ℕ → Result (Header × Place) Refusal → Result (Header × Cursor) Refusal → Type 0
HeaderAnswer text out (Err r) = out ≡ Err r
HeaderAnswer text out (Ok (h, c)) = (out ≡ Ok (h, place_at text c)) × Placed text c × Small h
