-- How the proof of a line's reader walks: field by field, at the cursor.
use Rattle.std.proofs.Common.{Option, None, Some, Err}
use mathlib.Core.Path.{◌≡◌, refl, sym, ap, subst, ◌∙◌}
use mathlib.Core.List.{List, [], ◌∷◌}
use mathlib.Core.Bool.{true, false}
use Prim.Native.Nat.{ℕ, ◌+◌, ◌<◌}
use native.Mathlib.Omega.{arith}
use lib.ListN.{length}
use Rattle.spec.specs.Text.{lines, Field, numeral}
use Rattle.spec.specs.Reading.{SheetName, LineResult, bad, bad_form, form, faulty, passed, next_line}
use Rattle.lexer.specs.Views.{end_of, first_field, behind, text_ended, with_field, line_at}
use Rattle.lexer.specs.Cursors.{Placed, start, rest, behind_field, span_to, span_at}
use Rattle.lexer.specs.declared.Cursor.{Cursor}
use Rattle.lexer.specs.declared.Span.{Span}
use Rattle.lexer.specs.declared.FieldEnd.{FieldEnd}
use Rattle.lexer.specs.declared.FieldEnd.TheVariants.{Comma, Newline, Text}
use Rattle.lexer.proofs.Fields.{line_comma, line_newline, line_text}
use Rattle.lexer.proofs.Lines.{next_open, next_closed}
use Rattle.lexer.specs.Numbers.{number_at}
use Rattle.lexer.specs.declared.Number.{Number}
use Rattle.lexer.proofs.Numerals.{value_at_cursor}
use Rattle.lexer.proofs.Places.{next_rest, next_placed, line_kept, line_passed}

-- ------------------------------------------------------------------ at a cursor

-- in front of a text
pub start_placed : (text : List ℕ) → length text < 4294967296 → Placed text start
unfolding start
start_placed text h = record { line_small = omega arith; in_text = omega arith; short = h }

pub start_rest : (text : List ℕ) → rest text start ≡ text
unfolding start rest
start_rest text = refl

-- what the field at a cursor says of the line there
module _ (text : List ℕ) (c : Cursor) (s : Span) (is : s ≡ span_at text c) where
  pub span_end : s.end ≡ end_of (rest text c)
  unfolding span_at span_to
  span_end = rw is

  pub span_next : s.next ≡ behind_field text c
  unfolding span_at span_to behind_field
  span_next = rw is

  module _ (p : Placed text c) where
    pub span_placed : Placed text s.next
    span_placed = subst (Placed text) (sym span_next) (next_placed text c p)

    pub span_behind : behind (rest text c) ≡ rest text s.next
    span_behind = sym (next_rest text c p) ∙ ap (rest text) (sym span_next)

    pub span_comma : s.end ≡ Comma → line_at (rest text c) ≡ with_field (first_field (rest text c)) (line_at (rest text s.next))
    span_comma e = rw (← span_behind) (line_comma (rest text c) (sym span_end ∙ e))

  pub span_line_kept : s.end ≡ Comma → s.next.line ≡ c.line
  span_line_kept e = ap (λ (d : Cursor). d.line) span_next ∙ line_kept text c (sym span_end ∙ e)

-- what the numeral at a cursor says of the line there
module _ (text : List ℕ) (c : Cursor) (f : Number) (is : number_at text c ≡ Some f) where
  pub number_numeral : numeral (first_field (rest text c)) ≡ Some f.value
  number_numeral = (value_at_cursor text c f is).0

  pub number_end : end_of (rest text c) ≡ f.end
  number_end = (value_at_cursor text c f is).1

  pub number_next : behind_field text c ≡ f.next
  number_next = (value_at_cursor text c f is).2

  pub number_line_kept : f.end ≡ Comma → f.next.line ≡ c.line
  number_line_kept e = ap (λ (x : Cursor). x.line) (sym number_next) ∙ line_kept text c (number_end ∙ e)

  pub number_line_passed : f.end ≡ Newline → f.next.line ≡ c.line + 1
  number_line_passed e = ap (λ (x : Cursor). x.line) (sym number_next) ∙ line_passed text c (number_end ∙ e)

  pub number_text : f.end ≡ Text → line_at (rest text c) ≡ None
  number_text e = line_text (rest text c) (number_end ∙ e)

  module _ (p : Placed text c) where
    pub number_placed : Placed text f.next
    number_placed = subst (Placed text) number_next (next_placed text c p)

    pub number_behind : behind (rest text c) ≡ rest text f.next
    number_behind = sym (next_rest text c p) ∙ ap (rest text) number_next

    pub number_comma : f.end ≡ Comma → line_at (rest text c) ≡ with_field (first_field (rest text c)) (line_at (rest text f.next))
    number_comma e = rw (← number_behind) (line_comma (rest text c) (number_end ∙ e))

    pub number_newline : f.end ≡ Newline → line_at (rest text c) ≡ Some (first_field (rest text c) ∷ [], rest text f.next)
    number_newline e = rw (← number_behind) (line_newline (rest text c) (number_end ∙ e))

-- whether something is left
pub left_none : (t : List ℕ) → text_ended t ≡ true → t ≡ []
unfolding text_ended
left_none [] e = refl
left_none (b ∷ t) e = cc

pub left_some : (t : List ℕ) → text_ended t ≡ false → 0 < length t
unfolding text_ended
left_some [] e = let z : ◌≡◌ {A = ℕ} 0 1 = cc in absurd (omega arith)
left_some (b ∷ t) e = omega arith

-- ------------------------------------------------------------------ a line by its first field

module _ {A : Type 0} (sheet : SheetName) (read : List Field → LineResult A) (k : ℕ) (t : List ℕ) (some_left : 0 < length t) where
  bad_fields : (f : Field) (o : Option (List Field × List ℕ)) → line_at t ≡ with_field f o → ((fs : List Field) → read (f ∷ fs) ≡ bad bad_form)
      → next_line sheet read k (lines t) ≡ Err (form sheet (k + 1))
  unfolding with_field faulty passed
  bad_fields f None e h = next_open sheet read k t some_left e
  bad_fields f (Some line) e h = next_closed sheet read k t (f ∷ line.0) line.1 e ∙ rw h

  by_comma : (end_of t ≡ Comma → next_line sheet read k (lines t) ≡ Err (form sheet (k + 1))) → read (first_field t ∷ []) ≡ bad bad_form
      → next_line sheet read k (lines t) ≡ Err (form sheet (k + 1))
  unfolding faulty passed
  by_comma n h = go (end_of t) refl
    where
      go : (e : FieldEnd) → end_of t ≡ e → next_line sheet read k (lines t) ≡ Err (form sheet (k + 1))
      go Comma e = n e
      go Newline e = next_closed sheet read k t (first_field t ∷ []) (behind t) (line_newline t e) ∙ rw h
      go Text e = next_open sheet read k t some_left (line_text t e)

  -- the first field is enough to refuse the line
  pub first_wrong : ((fs : List Field) → read (first_field t ∷ fs) ≡ bad bad_form) → next_line sheet read k (lines t) ≡ Err (form sheet (k + 1))
  first_wrong h = by_comma (λ e. bad_fields (first_field t) (line_at (behind t)) (line_comma t e) h) (h [])

  -- the first field is the last, and that is too few
  pub first_alone : (end_of t ≡ Comma → ⊥) → read (first_field t ∷ []) ≡ bad bad_form → next_line sheet read k (lines t) ≡ Err (form sheet (k + 1))
  first_alone n h = by_comma (λ e. absurd (n e)) h
