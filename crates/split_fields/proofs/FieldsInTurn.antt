-- What a line shows, taken field by field: the line behind a field, too few fields, too many.
use Rattle.std.proofs.Common.{Option, None, Some, Result, Err}
use mathlib.Core.Path.{◌≡◌, refl, ap, ◌∙◌}
use mathlib.Core.List.{List, [], ◌∷◌}
use Prim.Native.Nat.{ℕ, ◌+◌, ◌<◌}
use native.Mathlib.Omega.{arith}
use lib.ListN.{length}
use Rattle.spec.specs.declared.Refusal.{Refusal}
use Rattle.spec.specs.Text.{lines, Field}
use Rattle.spec.specs.Reading.{split_sheet, Place, LineResult, bad, bad_form, form, faulty, passed, next_line, read_line}
use Rattle.spec.specs.declared.Refusal.TheVariants.{SplitForm}
use Rattle.lexer.specs.Views.{end_of, first_field, behind, with_field, line_at}
use Rattle.lexer.specs.Cursors.{rest, place_at}
use Rattle.lexer.specs.declared.Cursor.{Cursor}
use Rattle.lexer.specs.declared.FieldEnd.{FieldEnd}
use Rattle.lexer.specs.declared.FieldEnd.TheVariants.{Comma, Newline, Text}
use Rattle.lexer.proofs.Fields.{line_comma, line_newline, line_text, line_some}
use Rattle.lexer.proofs.Lines.{next_open, next_closed}
use Rattle.lexer.proofs.Sheets.{next_at}

-- what a line shows, by its fields and what is left behind it
unfoldable pub shown : {A : Type 0} → (List Field → LineResult A) → (line : ℕ) → Option (List Field × List ℕ) → Result (A × Place) Refusal
shown read k None = Err (SplitForm k)
shown read k (Some found) = passed split_sheet k (lines found.1) (read found.0)

module _ {A : Type 0} (read : List Field → LineResult A) (k : ℕ) where
  bad_line : (fs : List Field) (r : List ℕ) → read fs ≡ bad bad_form → shown read k (Some (fs, r)) ≡ Err (SplitForm k)
  unfolding shown faulty passed form
  bad_line fs r e = rw e

  pub behind_field_lem : (f : Field) (o : Option (List Field × List ℕ)) → shown read k (with_field f o) ≡ shown (λ fs. read (f ∷ fs)) k o
  unfolding shown with_field
  behind_field_lem f None = refl
  behind_field_lem f (Some found) = refl

  bad_fields : (f : Field) (o : Option (List Field × List ℕ)) → ((fs : List Field) → read (f ∷ fs) ≡ bad bad_form) → shown read k (with_field f o) ≡ Err (SplitForm k)
  unfolding with_field shown
  bad_fields f None h = refl
  bad_fields f (Some found) h = bad_line (f ∷ found.0) found.1 (h found.0)

  more_fields : (f : Field) (t : List ℕ) (o : Option (List Field × List ℕ)) → line_at t ≡ o → ((g : Field) (gs : List Field) → read (f ∷ g ∷ gs) ≡ bad bad_form)
      → shown read k (with_field f o) ≡ Err (SplitForm k)
  unfolding with_field shown
  more_fields f t None e h = refl
  more_fields f t (Some ([], r)) e h = let l = line_some t [] r e in absurd (omega arith)
  more_fields f t (Some (g ∷ gs, r)) e h = bad_line (f ∷ g ∷ gs) r (h g gs)

  module _ (t : List ℕ) where
    by_end : (end_of t ≡ Comma → shown read k (line_at t) ≡ Err (SplitForm k)) → (end_of t ≡ Newline → shown read k (line_at t) ≡ Err (SplitForm k))
        → shown read k (line_at t) ≡ Err (SplitForm k)
    unfolding shown
    by_end comma newline = go (end_of t) refl
      where
        go : (e : FieldEnd) → end_of t ≡ e → shown read k (line_at t) ≡ Err (SplitForm k)
        go Comma e = comma e
        go Newline e = newline e
        go Text e = ap (shown read k) (line_text t e)

    -- the first field is enough to refuse the line
    pub field_wrong : ((fs : List Field) → read (first_field t ∷ fs) ≡ bad bad_form) → shown read k (line_at t) ≡ Err (SplitForm k)
    field_wrong h =
        by_end (λ e. ap (shown read k) (line_comma t e) ∙ bad_fields (first_field t) (line_at (behind t)) h)
        (λ e. ap (shown read k) (line_newline t e) ∙ bad_line (first_field t ∷ []) (behind t) (h []))

    -- too few fields
    pub field_last : (end_of t ≡ Comma → ⊥) → read (first_field t ∷ []) ≡ bad bad_form → shown read k (line_at t) ≡ Err (SplitForm k)
    field_last n h =
        by_end (λ e. absurd (n e)) (λ e. ap (shown read k) (line_newline t e) ∙ bad_line (first_field t ∷ []) (behind t) h)

    -- too many fields
    pub field_more : (end_of t ≡ Newline → ⊥) → ((g : Field) (gs : List Field) → read (first_field t ∷ g ∷ gs) ≡ bad bad_form)
        → shown read k (line_at t) ≡ Err (SplitForm k)
    field_more n h =
        by_end (λ e. ap (shown read k) (line_comma t e) ∙ more_fields (first_field t) (behind t) (line_at (behind t)) refl h)
        (λ e. absurd (n e))

pub at_cursor : {A : Type 0} (read : List Field → LineResult A) (text : List ℕ) (c : Cursor) → 0 < length (rest text c)
    → read_line split_sheet read (place_at text c) ≡ shown read (c.line + 1) (line_at (rest text c))
unfolding shown form
at_cursor read text c l = next_at split_sheet text read c ∙ go (line_at (rest text c)) refl
  where
    go : (o : Option (List Field × List ℕ)) → line_at (rest text c) ≡ o → next_line split_sheet read c.line (lines (rest text c)) ≡ shown read (c.line + 1) o
    go None e = next_open split_sheet read c.line (rest text c) l e
    go (Some found) e = next_closed split_sheet read c.line (rest text c) found.0 found.1 e
