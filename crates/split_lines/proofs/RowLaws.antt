-- Rows, by their two numerals and their last field.
use Rattle.std.proofs.Common.{Option, None, Some, Result, Ok, Err}
use mathlib.Core.Path.{◌≡◌, refl, sym, ap, subst, ◌∙◌}
use mathlib.Core.Logic.{⊎_elim}
use mathlib.Core.List.{List, [], ◌∷◌}
use mathlib.Core.Bool.{Bool, true, false, ◌&&◌}
use Prim.Native.Nat.{ℕ, ◌+◌, ◌≤◌, ◌<◌}
use lib.ListN.{length}
use Rattle.spec.specs.declared.Refusal.{Refusal}
use Rattle.spec.specs.Choice.{when◌then◌else◌}
use Rattle.spec.specs.Text.{lines, Field}
use Rattle.spec.specs.Reading.{split_sheet, Place, LineResult, good, bad, bad_range, require, ensure, below, in_range, all_in_range, passed, read_line}
use Rattle.spec.specs.Split.{Row, row_of, start_range, may_be_empty, empty_fault}
use Rattle.spec.specs.declared.Header.{Header}
use Rattle.spec.specs.declared.Purpose.{Purpose}
use Rattle.spec.specs.declared.Refusal.TheVariants.{SplitForm, SplitRange}
use Rattle.spec.specs.declared.Word.{Word}
use Rattle.spec.specs.declared.MapNumber.{MapNumber}
use Rattle.lexer.specs.Views.{end_of, first_field, line_at, text_ended}
use Rattle.lexer.specs.Cursors.{Placed, rest, behind_field, place_at}
use Rattle.lexer.specs.declared.Cursor.{Cursor}
use Rattle.lexer.specs.declared.FieldEnd.TheVariants.{Newline}
use Rattle.lexer.proofs.Fields.{line_newline}
use Rattle.lexer.proofs.Walks.{left_some}
use Rattle.lexer.proofs.Places.{next_rest, next_placed, line_passed}
use Rattle.split_fields.specs.Answers.{LeadingAnswer, PostAnswer, StartSpells, StartAnswer}
use Rattle.split_fields.proofs.FieldsInTurn.{shown, behind_field_lem, field_wrong, field_last, field_more, at_cursor}
use Rattle.split_fields.proofs.LineLaws.{shows_range, shows_entry, comma_line, comma_placed, comma_kept}
use Rattle.split_fields.specs.Starts.{empty_refusal}
use Rattle.split_fields.proofs.StartLaws.{shows_empty}
use Rattle.split_lines.specs.declared.rows.Row.{Row as RowNumbers}
use Rattle.split_lines.specs.RowLines.{row_decoded, word_line, start_judged, row_judged}
use Rattle.split_lines.specs.RowAnswers.{RowAnswer}
use Rattle.split_lines.proofs.RowFields.{two, three, first_alone, second_alone, fourth_bad, first_bad, second_bad, third_bad, row_empty, row_given}

-- ------------------------------------------------------------------ the answers of the readers of the fields, as what the line shows

three_tested : (H : Header) (w : Word) (a b n : ℕ) → all_in_range (three H w) (a ∷ b ∷ n ∷ []) ≡ (all_in_range (two H) (a ∷ b ∷ []) && in_range (start_range w H) n)
unfolding all_in_range
three_tested H w a b n = go (in_range (below H.types) a) (in_range (below H.maps) b) (in_range (start_range w H) n)
  where
    go : (x y z : Bool) → (x && (y && (z && true))) ≡ ((x && (y && true)) && z)
    go true true true = refl
    go true true false = refl
    go true false z = refl
    go false y z = refl

module _ (purpose : Purpose) (H : Header) (w : Word) {text : List ℕ} {c : Cursor} (p : Placed text c) (some : text_ended (rest text c) ≡ false) where
  some_left : 0 < length (rest text c)
  some_left = left_some (rest text c) some

  abbrev out : Result (Row × Place) Refusal
  out = read_line split_sheet (word_line purpose H w) (place_at text c)

  pub row_first : LeadingAnswer text c None → out ≡ Err (SplitForm (c.line + 1))
  row_first h =
      let f = first_field (rest text c) in
      at_cursor (word_line purpose H w) text c some_left
      ∙ ⊎_elim
      (λ e. field_wrong (word_line purpose H w) (c.line + 1) (rest text c) (first_bad purpose H w f e))
      (λ n. field_last (word_line purpose H w) (c.line + 1) (rest text c) n (first_alone purpose H w f))
      h

  module _ {a : ℕ} {c₂ : Cursor} (lead : LeadingAnswer text c (Some (a, c₂))) where
    abbrev behind_one : List Field → LineResult Row
    behind_one fs = word_line purpose H w (first_field (rest text c) ∷ fs)

    second_placed : Placed text c₂
    second_placed = comma_placed text c c₂ p lead.1 lead.2

    peeled : out ≡ shown behind_one (c.line + 1) (line_at (rest text c₂))
    peeled =
        at_cursor (word_line purpose H w) text c some_left
        ∙ ap (shown (word_line purpose H w) (c.line + 1)) (comma_line text c c₂ p lead.1 lead.2)
        ∙ behind_field_lem (word_line purpose H w) (c.line + 1) (first_field (rest text c)) (line_at (rest text c₂))

    pub row_second : PostAnswer purpose text c₂ None → out ≡ Err (SplitForm (c.line + 1))
    row_second h =
        let f = first_field (rest text c) in
        let g = first_field (rest text c₂) in
        peeled
        ∙ ⊎_elim
        (λ e. field_wrong behind_one (c.line + 1) (rest text c₂) (second_bad purpose H w f g e))
        (λ n. field_last behind_one (c.line + 1) (rest text c₂) n (second_alone purpose H w f g))
        h

    module _ (b : ℕ) {c₃ : Cursor} (lead₂ : PostAnswer purpose text c₂ (Some (b, c₃))) where
      abbrev behind_two : List Field → LineResult Row
      behind_two fs = word_line purpose H w (first_field (rest text c) ∷ first_field (rest text c₂) ∷ fs)

      third_placed : Placed text c₃
      third_placed = comma_placed text c₂ c₃ second_placed lead₂.1 lead₂.2

      peeled_two : out ≡ shown behind_two (c.line + 1) (line_at (rest text c₃))
      peeled_two =
          peeled
          ∙ ap (shown behind_one (c.line + 1)) (comma_line text c₂ c₃ second_placed lead₂.1 lead₂.2)
          ∙ behind_field_lem behind_one (c.line + 1) (first_field (rest text c₂)) (line_at (rest text c₃))

      pub row_third : StartAnswer text c₃ None → out ≡ Err (SplitForm (c.line + 1))
      row_third h =
          let f = first_field (rest text c) in
          let g = first_field (rest text c₂) in
          peeled_two
          ∙ ⊎_elim
          (λ e. field_wrong behind_two (c.line + 1) (rest text c₃) (third_bad purpose H w f g (first_field (rest text c₃)) e.0 e.1))
          (λ n. field_more behind_two (c.line + 1) (rest text c₃) n (fourth_bad purpose H w f g (first_field (rest text c₃))))
          h

      module _ (d : Cursor) (newline : end_of (rest text c₃) ≡ Newline) (is : behind_field text c₃ ≡ d) where
        row_closed : out ≡ passed split_sheet (c.line + 1) (lines (rest text d)) (behind_two (first_field (rest text c₃) ∷ []))
        unfolding shown
        row_closed =
            peeled_two ∙ ap (shown behind_two (c.line + 1)) (line_newline (rest text c₃) newline)
            ∙ ap (λ (t : List ℕ). passed split_sheet (c.line + 1) (lines t) (behind_two (first_field (rest text c₃) ∷ [])))
            (sym (next_rest text c₃ third_placed) ∙ ap (rest text) is)

        last_placed : Placed text d
        last_placed = subst (Placed text) is (next_placed text c₃ third_placed)

        last_line : d.line ≡ c.line + 1
        last_line =
            ap (λ (x : Cursor). x.line) (sym is) ∙ line_passed text c₃ newline
            ∙ ap (λ (k : ℕ). k + 1) (comma_kept text c₂ c₃ second_placed lead₂.1 lead₂.2 ∙ comma_kept text c c₂ p lead.1 lead.2)

        -- what is answered once the row is judged
        abbrev pub answered : RowNumbers → Result (Unit {0}) Refusal → Result (RowNumbers × Cursor) Refusal
        answered row (Err r) = Err r
        answered row (Ok done) = Ok (row, d)

        given_judged : (row : RowNumbers) (x y : Bool) → behind_two (first_field (rest text c₃) ∷ []) ≡ (when x && y then good (row_decoded row) else bad bad_range)
            → RowAnswer text out (answered row (when x then require y (SplitRange (c.line + 1)) else Err (SplitRange (c.line + 1))))
        unfolding require
        given_judged row true true e = (row_closed ∙ shows_entry text c d (row_decoded row) e last_line, last_placed)
        given_judged row true false e = row_closed ∙ shows_range (c.line + 1) (lines (rest text d)) e
        given_judged row false y e = row_closed ∙ shows_range (c.line + 1) (lines (rest text d)) e

        empty_judged : (row : RowNumbers) (x y : Bool) → behind_two (first_field (rest text c₃) ∷ []) ≡ ensure y (empty_fault w) (when x then good (row_decoded row) else bad bad_range)
            → RowAnswer text out (answered row (when x then require y (empty_refusal w (c.line + 1)) else Err (SplitRange (c.line + 1))))
        unfolding ensure require
        empty_judged row true true e = (row_closed ∙ shows_entry text c d (row_decoded row) e last_line, last_placed)
        empty_judged row true false e = row_closed ∙ shows_empty (c.line + 1) (lines (rest text d)) w e
        empty_judged row false y e = row_closed ∙ shows_range (c.line + 1) (lines (rest text d)) e

        module _ (few : (H.types ≤ 64) × (H.maps ≤ 512)) where
          abbrev made : Option MapNumber → RowNumbers
          made start = record { typed = record { 0 = a }; post = record { 0 = b }; start = start }

          pub row_read : (start : Option MapNumber) → StartSpells (first_field (rest text c₃)) start
              → RowAnswer text out (answered (made start) (row_judged (c.line + 1) (made start) w H))
          unfolding row_judged start_judged row_of
          row_read None empty =
              let f = first_field (rest text c) in
              let g = first_field (rest text c₂) in
              empty_judged (made None) (all_in_range (two H) (a ∷ b ∷ [])) (may_be_empty H.heading w)
              (ap (λ (s : Field). word_line purpose H w (f ∷ g ∷ s ∷ [])) empty ∙ row_empty purpose H few w f g a b lead.0 lead₂.0)
          row_read (Some m) given =
              given_judged (made (Some m)) (all_in_range (two H) (a ∷ b ∷ [])) (in_range (start_range w H) m.0)
              (row_given purpose H few w (first_field (rest text c)) (first_field (rest text c₂)) a b lead.0 lead₂.0 (first_field (rest text c₃)) m.0 given
              ∙ ap (λ (x : Bool). when x then good (row_decoded (made (Some m))) else bad bad_range) (three_tested H w a b m.0))
