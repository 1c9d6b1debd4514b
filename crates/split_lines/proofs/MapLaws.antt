-- Map lines: as many numerals as there are locations, each in its range.
use Rattle.std.proofs.Common.{Option, None, Some, Ok, Err}
use mathlib.Core.Path.{◌≡◌, refl, sym, ap, ◌∙◌}
use mathlib.Core.List.{List, [], ◌∷◌}
use mathlib.Core.Bool.{Bool, true, false, ◌&&◌}
use Prim.Native.Nat.{ℕ, zero, suc, ◌+◌}
use native.Mathlib.Omega.{arith}
use borrow.Author.Tests.{le-leb}
use lib.Dec.{leb}
use lib.ListN.{length, length-replicate}
use Rattle.spec.specs.Text.{Field}
use Rattle.spec.specs.Reading.{split_sheet, LineResult, good, bad, seen, ◌to◌, in_range, all_in_range, numbers, read_line}
use Rattle.spec.specs.declared.Refusal.TheVariants.{SplitForm, SplitRange}
use Rattle.lexer.specs.Views.{text_ended}
use Rattle.lexer.specs.Cursors.{Placed, rest, place_at}
use Rattle.lexer.specs.Numbers.{NumbersRead}
use Rattle.lexer.specs.declared.Cursor.{Cursor}
use Rattle.lexer.proofs.LineEnds.{numbers_read}
use Rattle.lexer.proofs.Stored.{AllNarrow}
use Rattle.split_fields.specs.Answers.{LineAnswer}
use Rattle.split_lines.specs.TypeLines.{cells, cells_fit, cell_line}
use Rattle.split_lines.proofs.NumeralLines.{numerals_malformed, numerals_outside, numerals_good}

cells_narrow : (n : ℕ) → AllNarrow (cells n)
unfolding cells
cells_narrow zero = tt
cells_narrow (suc n) = (omega arith, cells_narrow n)

cells_counted : (n : ℕ) → n ≡ length (cells n)
unfolding cells
cells_counted n = sym (length-replicate n (0 to 1000000000))

-- each number is in its range where none is larger than a map can have
all_fit : (m : List ℕ) → all_in_range (cells (length m)) m ≡ cells_fit m
unfolding cells cells_fit all_in_range in_range
all_fit [] = refl
all_fit (x ∷ m) = rw (le-leb 0 x (omega arith)) (ap (λ (t : Bool). leb x 1000000000 && t) (all_fit m))

cells_shown : (n : ℕ) (fs : List Field) → cell_line n fs ≡ seen (λ m. m) (numbers (cells n) fs)
unfolding cell_line seen
cells_shown n fs = go (numbers (cells n) fs)
  where
    go : (s : LineResult (List ℕ)) → s ≡ seen (λ m. m) s
    go (good m) = refl
    go (bad w) = refl

module _ {text : List ℕ} {c : Cursor} {before after : List ℕ} {answer : Option Cursor} (found : NumbersRead text c before after answer) where
  pub map_malformed : text_ended (rest text c) ≡ false → answer ≡ None → read_line split_sheet (cell_line (length before)) (place_at text c) ≡ Err (SplitForm (c.line + 1))
  map_malformed = numerals_malformed (cell_line (length before)) (cells (length before)) (λ m. m) (cells_shown (length before)) found (cells_counted (length before))

  module _ (placed : Placed text c) {d : Cursor} (e : answer ≡ Some d) where
    fit : all_in_range (cells (length before)) after ≡ cells_fit after
    fit = ap (λ (n : ℕ). all_in_range (cells n) after) (sym (numbers_read found (length before) refl placed e).long) ∙ all_fit after

    pub map_outside : cells_fit after ≡ false → read_line split_sheet (cell_line (length before)) (place_at text c) ≡ Err (SplitRange (c.line + 1))
    map_outside q =
        numerals_outside (cell_line (length before)) (cells (length before)) (λ m. m) (cells_shown (length before)) found (cells_counted (length before))
        (cells_narrow (length before)) placed e (fit ∙ q)

    pub map_good : cells_fit after ≡ true → LineAnswer text (read_line split_sheet (cell_line (length before)) (place_at text c)) (Ok (after, d))
    map_good q =
        numerals_good (cell_line (length before)) (cells (length before)) (λ m. m) (cells_shown (length before)) found (cells_counted (length before))
        (cells_narrow (length before)) placed e (fit ∙ q)
