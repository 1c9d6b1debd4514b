-- Lines that are numerals, as many as there are ranges: what the numerals that are read of one, into a lent slice, say of it.
use Rattle.std.proofs.Common.{Option, None, Some, Ok, Err}
use mathlib.Core.Path.{◌≡◌, refl, ◌∙◌}
use mathlib.Core.List.{List}
use mathlib.Core.Bool.{true, false}
use Prim.Native.Nat.{ℕ, ◌+◌}
use lib.ListN.{length}
use Rattle.spec.specs.Choice.{when◌then◌else◌}
use Rattle.spec.specs.Text.{Field, lines}
use Rattle.spec.specs.Reading.{split_sheet, LineResult, good, bad, bad_range, seen, Range, all_in_range, numbers, form, passed, read_line}
use Rattle.spec.specs.declared.Refusal.TheVariants.{SplitForm, SplitRange}
use Rattle.lexer.specs.Views.{text_ended}
use Rattle.lexer.specs.Cursors.{Placed, rest, place_at}
use Rattle.lexer.specs.Numbers.{NumbersRead}
use Rattle.lexer.specs.declared.Cursor.{Cursor}
use Rattle.lexer.proofs.Stored.{AllNarrow}
use Rattle.lexer.proofs.Ranges.{numerals_form, numerals_read}
use Rattle.lexer.proofs.Sheets.{next_at}
use Rattle.lexer.proofs.LineEnds.{numbers_none, numbers_read}
use Rattle.lexer.proofs.Walks.{left_some}
use Rattle.split_fields.specs.Answers.{LineAnswer}
use Rattle.split_fields.proofs.LineLaws.{shows_range, shows_entry}

module _
    {A : Type 0} (read : List Field → LineResult A) (rs : List Range) (f : List ℕ → A) (shows : (fs : List Field) → read fs ≡ seen f (numbers rs fs))
    {text : List ℕ} {c : Cursor} {before after : List ℕ} {answer : Option Cursor} (found : NumbersRead text c before after answer) (many : length before ≡ length rs)
  where
    pub numerals_malformed : text_ended (rest text c) ≡ false → answer ≡ None → read_line split_sheet read (place_at text c) ≡ Err (SplitForm (c.line + 1))
    unfolding form seen
    numerals_malformed some e =
        next_at split_sheet text read c
        ∙ numerals_form split_sheet read c.line rs (seen f) text c shows refl (left_some (rest text c) some) (numbers_none found (length rs) many e).0

    module _ (narrow : AllNarrow rs) (placed : Placed text c) {d : Cursor} (e : answer ≡ Some d) where
      reads : read_line split_sheet read (place_at text c) ≡ passed split_sheet (c.line + 1) (lines (rest text d)) (seen f (when all_in_range rs after then good after else bad bad_range))
      reads =
          next_at split_sheet text read c
          ∙ numerals_read split_sheet read c.line rs (seen f) text c shows narrow after (rest text d) (numbers_read found (length rs) many placed e).numbers

      pub numerals_outside : all_in_range rs after ≡ false → read_line split_sheet read (place_at text c) ≡ Err (SplitRange (c.line + 1))
      unfolding seen
      numerals_outside q = reads ∙ shows_range (c.line + 1) (lines (rest text d)) (rw q)

      pub numerals_good : all_in_range rs after ≡ true → LineAnswer text (read_line split_sheet read (place_at text c)) (Ok (f after, d))
      unfolding seen
      numerals_good q =
          let line = numbers_read found (length rs) many placed e in
          (reads ∙ shows_entry text c d (f after) (rw q) line.line, line.placed)
