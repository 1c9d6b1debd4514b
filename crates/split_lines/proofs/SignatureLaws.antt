-- Signature lines: four numerals, two of maps and two of types.
use Rattle.std.proofs.Common.{Option, None, Some, Ok, Err}
use mathlib.Core.Path.{◌≡◌, refl, ap, ◌∙◌}
use mathlib.Core.List.{List, [], ◌∷◌}
use mathlib.Core.Bool.{true, false}
use Prim.Native.Nat.{ℕ, ◌+◌}
use native.Mathlib.Omega.{arith}
use lib.ListN.{length, get_or}
use Rattle.spec.specs.Text.{Field}
use Rattle.spec.specs.Reading.{split_sheet, seen, all_in_range, numbers, read_line}
use Rattle.spec.specs.Split.{signature_of, signature_line}
use Rattle.spec.specs.declared.Header.{Header}
use Rattle.spec.specs.declared.Refusal.TheVariants.{SplitForm, SplitRange}
use Rattle.lexer.specs.Views.{text_ended}
use Rattle.lexer.specs.Cursors.{Placed, rest, place_at}
use Rattle.lexer.specs.Numbers.{NumbersRead}
use Rattle.lexer.specs.declared.Cursor.{Cursor}
use Rattle.lexer.proofs.LineEnds.{numbers_read}
use Rattle.lexer.proofs.Ranges.{numbers_from, one_by_one}
use Rattle.lexer.proofs.Stored.{AllNarrow}
use Rattle.workspace.specs.Sheets.{Small}
use Rattle.split_fields.specs.Answers.{LineAnswer}
use Rattle.split_lines.specs.RowLines.{signature_ranges}
use Rattle.split_lines.proofs.NumeralLines.{numerals_malformed, numerals_outside, numerals_good}

shown : (H : Header) (fs : List Field) → signature_line H fs ≡ seen signature_of (numbers (signature_ranges H) fs)
unfolding signature_line signature_ranges
shown H fs = refl

narrow : (H : Header) → Small H → AllNarrow (signature_ranges H)
unfolding signature_ranges
narrow H small = (omega arith, (omega arith, (omega arith, (omega arith, tt))))

module _
    (H : Header) {text : List ℕ} {c : Cursor} {before after : List ℕ} {answer : Option Cursor} (found : NumbersRead text c before after answer) (four : length before ≡ 4)
  where
    counted : length before ≡ length (signature_ranges H)
    unfolding signature_ranges
    counted = four

    pub signature_malformed : text_ended (rest text c) ≡ false → answer ≡ None → read_line split_sheet (signature_line H) (place_at text c) ≡ Err (SplitForm (c.line + 1))
    signature_malformed = numerals_malformed (signature_line H) (signature_ranges H) signature_of (shown H) found counted

    module _ (small : Small H) (placed : Placed text c) {d : Cursor} (e : answer ≡ Some d) where
      one_each : all_in_range (signature_ranges H) after ≡ all_in_range (signature_ranges H) (get_or after 0 0 ∷ get_or after 1 0 ∷ get_or after 2 0 ∷ get_or after 3 0 ∷ [])
      unfolding numbers_from
      one_each = ap (all_in_range (signature_ranges H)) (one_by_one 4 after (numbers_read found 4 four placed e).long)

      pub signature_outside : all_in_range (signature_ranges H) (get_or after 0 0 ∷ get_or after 1 0 ∷ get_or after 2 0 ∷ get_or after 3 0 ∷ []) ≡ false
          → read_line split_sheet (signature_line H) (place_at text c) ≡ Err (SplitRange (c.line + 1))
      signature_outside q = numerals_outside (signature_line H) (signature_ranges H) signature_of (shown H) found counted (narrow H small) placed e (one_each ∙ q)

      pub signature_good : all_in_range (signature_ranges H) (get_or after 0 0 ∷ get_or after 1 0 ∷ get_or after 2 0 ∷ get_or after 3 0 ∷ []) ≡ true
          → LineAnswer text (read_line split_sheet (signature_line H) (place_at text c)) (Ok (signature_of after, d))
      signature_good q = numerals_good (signature_line H) (signature_ranges H) signature_of (shown H) found counted (narrow H small) placed e (one_each ∙ q)
