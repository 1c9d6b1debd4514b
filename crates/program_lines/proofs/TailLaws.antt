-- The numbers after the first field of a line of a program sheet, and what such a line shows.
use Rattle.std.proofs.Common.{None, Some, Err}
use mathlib.Core.Path.{◌≡◌, refl, sym, ap, ◌∙◌}
use mathlib.Core.Bool.{false, and-true}
use mathlib.Core.List.{List, [], ◌∷◌}
use Prim.Native.Nat.{ℕ, ◌+◌, ◌-◌, ◌<◌}
use native.Mathlib.Omega.{arith}
use lib.ListN.{length, get_or, take, drop, length-drop}
use Rattle.spec.specs.Choice.{when◌then◌else◌}
use Rattle.spec.specs.Text.{lines, Field}
use Rattle.spec.specs.Reading.{program_sheet, LineResult, good, bad, bad_form, bad_range, Range, in_range, all_in_range, numerals, numbers, form, passed, next_line, or_bad_form}
use Rattle.spec.specs.declared.Refusal.TheVariants.{ProgramForm}
use Rattle.lexer.specs.Views.{first_field, line_at, text_ended}
use Rattle.lexer.specs.Cursors.{Placed, rest, span_at}
use Rattle.lexer.specs.Numbers.{NumbersRead, number_at, numbers_in, stored}
use Rattle.lexer.specs.declared.Cursor.{Cursor}
use Rattle.lexer.specs.declared.Span.{Span}
use Rattle.lexer.specs.declared.Number.{Number}
use Rattle.lexer.specs.declared.FieldEnd.{FieldEnd}
use Rattle.lexer.specs.declared.FieldEnd.TheVariants.{Comma, Newline, Text}
use Rattle.lexer.proofs.LineNumbers.{ahead, ahead_none, many_counted, all_counted, stop_malformed, stop_text, after_comma, after_newline}
use Rattle.lexer.proofs.LineEnds.{numbers_read}
use Rattle.lexer.proofs.Places.{span_field}
use Rattle.lexer.proofs.Walks.{number_placed, number_line_passed, span_end, span_line_kept, span_comma, left_some, first_alone}
use Rattle.lexer.proofs.Stored.{Narrow, AllNarrow}
use Rattle.lexer.proofs.Ranges.{tail_form, tail_read}
use Rattle.program_lines.specs.Lines.{NumbersEnd, NumbersLack, FieldAt}

module _ (text : List ℕ) (s : Span) where
  all_ahead : numbers_in (line_at (rest text s.next)) ≡ ahead [] (numbers_in (line_at (rest text s.next)))
  all_ahead = sym (ahead_none (numbers_in (line_at (rest text s.next))))

  pub tail_no_number : number_at text s.next ≡ None → NumbersLack text s 1
  tail_no_number h comma = stop_malformed text s.next s.next [] all_ahead 1 h

  module _ (f : Number) (h : number_at text s.next ≡ Some f) where
    -- the number ends the line, another one follows, nothing closes the line
    pub tail_ends : Placed text s.next → s.end ≡ Comma → f.end ≡ Newline → (v : ℕ) → v ≡ stored f.value → NumbersEnd text s (v ∷ []) f.next
    tail_ends p comma newline v e = record {
      comma = comma;
      read = rw e (all_counted text s.next 1 (stored f.value ∷ []) (rest text f.next) (after_newline text s.next s.next [] all_ahead f h p newline) refl);
      placed = number_placed text s.next f h p;
      line = number_line_passed text s.next f h newline;
    }

    pub tail_goes_on : Placed text s.next → f.end ≡ Comma → NumbersLack text s 1
    tail_goes_on p more comma =
        let one : length (stored f.value ∷ []) ≡ 1 = refl in
        many_counted text s.next 1 (stored f.value ∷ []) (rest text f.next) (after_comma text s.next s.next [] all_ahead f h p more) (omega arith)

    pub tail_open : f.end ≡ Text → NumbersLack text s 1
    tail_open text_ends comma = stop_text text s.next s.next [] all_ahead f h 1 text_ends

double_entry : (xs : List ℕ) → length xs ≡ 2 → xs ≡ get_or xs 0 0 ∷ get_or xs 1 0 ∷ []
double_entry [] h = absurd (omega arith)
double_entry (x ∷ []) h = absurd (omega arith)
double_entry (x ∷ y ∷ []) h = refl
double_entry (x ∷ y ∷ z ∷ xs) h = absurd (omega arith)

-- two numbers end the line
pub pair_ends : {text : List ℕ} {s : Span} {before after : List ℕ} {d : Cursor} → NumbersRead text s.next before after (Some d) → length before ≡ 2
    → s.end ≡ Comma → Placed text s.next → NumbersEnd text s (get_or after 0 0 ∷ get_or after 1 0 ∷ []) d
pair_ends {text} {s} {before} {after} {d} x whole comma p =
    let y = numbers_read x 2 whole p refl in
    record { comma = comma; read = y.numbers ∙ ap (λ ns. Some (ns, rest text d)) (double_entry after y.long); placed = y.placed; line = y.line }

-- the cursor after the line is one line on
pub tail_line : (text : List ℕ) (c : Cursor) {s : Span} {ns : List ℕ} {d : Cursor} → s ≡ span_at text c → NumbersEnd text s ns d → d.line ≡ c.line + 1
tail_line text c {s} is t = t.line ∙ ap (λ i. i + 1) (span_line_kept text c s is t.comma)

-- a line that shows what the numbers after its first field show
module _
    {A : Type 0}
    (read : List Field → LineResult A)
    (g : LineResult (List ℕ) → LineResult A)
    (otherwise : g (bad bad_form) ≡ bad bad_form)
    (rs : List Range)
    (some_range : numbers rs [] ≡ bad bad_form)
    (text : List ℕ)
    (c : Cursor)
    (s : Span)
    (here : FieldAt text c s)
    (shows : (fs : List Field) → read (first_field (rest text c) ∷ fs) ≡ g (numbers rs fs))
  where
    left : 0 < length (rest text c)
    left = left_some (rest text c) here.left

    alone : read (first_field (rest text c) ∷ []) ≡ bad bad_form
    alone = shows [] ∙ ap g some_range ∙ otherwise

    no_tail : (s.end ≡ Comma → ⊥) → next_line program_sheet read c.line (lines (rest text c)) ≡ Err (ProgramForm (c.line + 1))
    unfolding form
    no_tail n = first_alone program_sheet read c.line (rest text c) left (λ e. n (span_end text c s here.field ∙ e)) alone

    pub many_malformed : NumbersLack text s (length rs) → next_line program_sheet read c.line (lines (rest text c)) ≡ Err (ProgramForm (c.line + 1))
    unfolding form
    many_malformed h = go s.end refl
      where
        go : (e : FieldEnd) → s.end ≡ e → next_line program_sheet read c.line (lines (rest text c)) ≡ Err (ProgramForm (c.line + 1))
        go Comma q =
            tail_form program_sheet read c.line rs g text c (first_field (rest text c)) s.next (span_comma text c s here.field here.placed q) shows otherwise left (h q)
        go Newline q = no_tail (λ e. let z : ◌≡◌ {A = ℕ} 0 1 = cc in omega arith)
        go Text q = no_tail (λ e. let z : ◌≡◌ {A = ℕ} 0 1 = cc in omega arith)

    pub many_shows : AllNarrow rs → (ns : List ℕ) (d : Cursor) → length ns ≡ length rs → NumbersEnd text s ns d
        → next_line program_sheet read c.line (lines (rest text c))
        ≡ passed program_sheet (c.line + 1) (lines (rest text d)) (g (when all_in_range rs ns then good ns else bad bad_range))
    many_shows narrow ns d many t =
        tail_read program_sheet read c.line rs g text c (first_field (rest text c)) s.next (span_comma text c s here.field here.placed t.comma) shows narrow ns (rest text d)
        (rw (← many) t.read)

-- the same with one number after the field
module _
    {A : Type 0}
    (read : List Field → LineResult A)
    (g : LineResult (List ℕ) → LineResult A)
    (otherwise : g (bad bad_form) ≡ bad bad_form)
    (range : Range)
    (text : List ℕ)
    (c : Cursor)
    (s : Span)
    (here : FieldAt text c s)
    (shows : (fs : List Field) → read (first_field (rest text c) ∷ fs) ≡ g (numbers (range ∷ []) fs))
  where
    one_range : numbers (range ∷ []) [] ≡ bad bad_form
    unfolding numbers numerals or_bad_form
    one_range = refl

    pub tail_malformed : NumbersLack text s 1 → next_line program_sheet read c.line (lines (rest text c)) ≡ Err (ProgramForm (c.line + 1))
    tail_malformed h = many_malformed read g otherwise (range ∷ []) one_range text c s here shows h

    module _ (narrow : Narrow range) (v : ℕ) (d : Cursor) (t : NumbersEnd text s (v ∷ []) d) where
      pub tail_shows : next_line program_sheet read c.line (lines (rest text c))
          ≡ passed program_sheet (c.line + 1) (lines (rest text d)) (g (when in_range range v then good (v ∷ []) else bad bad_range))
      unfolding all_in_range
      tail_shows =
          many_shows read g otherwise (range ∷ []) one_range text c s here shows (narrow, tt) (v ∷ []) d refl t
          ∙ ap (λ b. passed program_sheet (c.line + 1) (lines (rest text d)) (g (when b then good (v ∷ []) else bad bad_range))) (and-true (in_range range v))

-- the number of a line can be counted
pub line_fits : (text : List ℕ) (c : Cursor) → Placed text c → text_ended (rest text c) ≡ false → c.line + 1 < 4294967296
unfolding rest
line_fits text c p e =
    omega (arith, p.line_small, p.short, left_some (drop c.at text) e, length-drop c.at text)

-- what is asked of the first field
pub of_field : {A : Type 0} (ask : Field → A) (text : List ℕ) (c : Cursor) (s : Span) → s ≡ span_at text c → {a : A} → a ≡ ask (take (s.to - s.from) (drop s.from text)) → ask (first_field (rest text c)) ≡ a
of_field ask text c s is e = ap ask (sym (span_field text c s is)) ∙ sym e
