-- Line 1 of a program sheet.
use Rattle.std.proofs.Common.{Option, None, Some, Ok, Err}
use mathlib.Core.Path.{◌≡◌, refl, sym, ap, ◌∙◌}
use mathlib.Core.Bool.{true, false, ◌&&◌, and-true}
use mathlib.Core.List.{List, [], ◌∷◌}
use Prim.Native.Nat.{ℕ, ◌+◌, ◌<◌, ◌≤◌}
use native.Mathlib.Omega.{arith}
use lib.Dec.{leb}
use lib.ListN.{length}
use borrow.Author.Tests.{le-leb}
use Rattle.spec.specs.Choice.{when◌then◌else◌}
use Rattle.spec.specs.Text.{lines, Field, look_up}
use Rattle.spec.specs.Reading.{program_sheet, ◌>>=◌, good, bad, bad_form, bad_range, seen, in_range, all_in_range, numerals, numbers, form, outside, faulty, passed, next_line, or_bad_form}
use Rattle.spec.specs.Program.{Counts, program_headings, count_ranges, procedures_of, counts_of, count_line}
use Rattle.spec.specs.declared.Refusal.TheVariants.{ProgramForm, ProgramRange}
use Rattle.spec.specs.declared.ProgramHeading.{ProgramHeading}
use Rattle.spec.specs.declared.ProgramHeading.TheVariants.{P, P2}
use Rattle.lexer.specs.Views.{first_field, text_ended}
use Rattle.lexer.specs.Cursors.{Placed, start, rest, span_at}
use Rattle.lexer.specs.declared.Cursor.{Cursor}
use Rattle.lexer.specs.declared.Span.{Span}
use Rattle.lexer.proofs.Sheets.{begin_at_none, begin_at_some, next_at, passed_at}
use Rattle.lexer.proofs.Stored.{AllNarrow}
use Rattle.lexer.proofs.Walks.{start_placed, start_rest, left_none, left_some, first_wrong}
use Rattle.program_lines.specs.Lines.{NumbersLack, PairShown, FieldAt, count_at, count_numbers, CountsAfter, CountShown}
use Rattle.program_lines.proofs.TailLaws.{tail_line, many_malformed, many_shows}

module _ (text : List ℕ) (c : Cursor) (top : c ≡ start) where
  pub placed_top : length text ≤ 16384 → Placed text c
  placed_top h = rw top (start_placed text (omega arith))

  pub top_field : length text ≤ 16384 → text_ended (rest text c) ≡ false → (s : Span) → s ≡ span_at text c → FieldAt text c s
  top_field h e s is = record { placed = placed_top h; left = e; field = is }

  at_top : c.line ≡ 0
  unfolding start
  at_top = ap (λ (x : Cursor). x.line) top

  at_text : rest text c ≡ text
  at_text = ap (rest text) top ∙ start_rest text

  pub count_empty : text_ended (rest text c) ≡ true → CountShown text (Err (ProgramForm 1))
  unfolding count_at ◌>>=◌ form
  count_empty e = rw (begin_at_none program_sheet text (sym at_text ∙ left_none (rest text c) e)) refl

  counts : text_ended (rest text c) ≡ false → count_at text ≡ next_line program_sheet count_line c.line (lines (rest text c))
  unfolding count_at ◌>>=◌
  counts e =
      let l : 0 < length text = rw at_text at (left_some (rest text c) e) in
      rw (begin_at_some program_sheet text l, ← top) (next_at program_sheet text count_line c)

  -- no heading
  pub count_other : text_ended (rest text c) ≡ false → look_up program_headings (first_field (rest text c)) ≡ None → CountShown text (Err (ProgramForm 1))
  unfolding form count_line or_bad_form
  count_other e u =
      counts e
      ∙ first_wrong program_sheet count_line c.line (rest text c) (left_some (rest text c) e) (λ fs. rw u refl)
      ∙ rw at_top refl

-- the ranges of the numbers after a heading
counts_narrow : (h : ProgramHeading) → AllNarrow (count_ranges h)
unfolding count_ranges
counts_narrow P = (omega arith, tt)
counts_narrow P2 = (omega arith, (omega arith, tt))

no_counts : (h : ProgramHeading) → numbers (count_ranges h) [] ≡ bad bad_form
unfolding count_ranges numbers numerals or_bad_form
no_counts P = refl
no_counts P2 = refl

module _ (h : ProgramHeading) (n k : ℕ) where
  counts_many : length (count_numbers h n k) ≡ length (count_ranges h)
  unfolding count_numbers count_ranges
  counts_many = go h
    where
      go : (h : ProgramHeading) → length (count_numbers h n k) ≡ length (count_ranges h)
      go P = refl
      go P2 = refl

  counts_judged : counts_of h (count_numbers h n k) ≡ record { heading = h; steps = n; procedures = k }
      → all_in_range (count_ranges h) (count_numbers h n k) ≡ (leb 1 n && leb n 256 && leb k 16)
  unfolding count_ranges count_numbers counts_of procedures_of all_in_range in_range
  counts_judged = go h
    where
      go : (h : ProgramHeading) → counts_of h (count_numbers h n k) ≡ record { heading = h; steps = n; procedures = k }
          → all_in_range (count_ranges h) (count_numbers h n k) ≡ (leb 1 n && leb n 256 && leb k 16)
      go P e = let none : 0 ≡ k = ap (λ (x : Counts). x.procedures) e in rw (← none) refl
      go P2 e = simp (le-leb 0 k (omega arith), and-true)

-- what two numbers are after the heading `P2`
pub pair_after : (text : List ℕ) (s : Span) (o : Option (ℕ × ℕ × Cursor)) → PairShown text s o → CountsAfter text s P2 o
unfolding count_numbers counts_of procedures_of count_ranges
pair_after text s None t = t
pair_after text s (Some (n, k, d)) t = (t, refl)

-- a line with a heading
module _ (text : List ℕ) (c : Cursor) (top : c ≡ start) (s : Span) (here : FieldAt text c s) (h : ProgramHeading)
    (spelled : look_up program_headings (first_field (rest text c)) ≡ Some h)
  where
    count_shows : (fs : List Field) → count_line (first_field (rest text c) ∷ fs) ≡ seen (counts_of h) (numbers (count_ranges h) fs)
    unfolding count_line or_bad_form
    count_shows fs = rw spelled refl

    pub count_malformed : NumbersLack text s (length (count_ranges h)) → CountShown text (Err (ProgramForm 1))
    unfolding seen
    count_malformed t =
        counts text c top here.left
        ∙ many_malformed count_line (seen (counts_of h)) refl (count_ranges h) (no_counts h) text c s here count_shows t
        ∙ rw (at_top text c top) refl

    module _ (n k : ℕ) (d : Cursor) (t : CountsAfter text s h (Some (n, k, d))) where
      count_reads : count_at text
          ≡ passed program_sheet (c.line + 1) (lines (rest text d)) (seen (counts_of h) (when leb 1 n && leb n 256 && leb k 16 then good (count_numbers h n k) else bad bad_range))
      unfolding seen
      count_reads =
          counts text c top here.left
          ∙ many_shows count_line (seen (counts_of h)) refl (count_ranges h) (no_counts h) text c s here count_shows (counts_narrow h) (count_numbers h n k) d (counts_many h n k) t.0
          ∙ ap (λ b. passed program_sheet (c.line + 1) (lines (rest text d)) (seen (counts_of h) (when b then good (count_numbers h n k) else bad bad_range))) (counts_judged h n k t.1)

      pub count_out : (leb 1 n && leb n 256 && leb k 16) ≡ false → CountShown text (Err (ProgramRange 1))
      unfolding faulty passed seen outside
      count_out e = count_reads ∙ rw (e, at_top text c top) refl

      pub count_right : 1 ≤ n → n ≤ 256 → k ≤ 16 → CountShown text (Ok (record { heading = h; steps = n; procedures = k; next = d }))
      unfolding seen
      count_right l m o = (
        count_reads ∙ rw (le-leb 1 n l, le-leb n 256 m, le-leb k 16 o) (passed_at program_sheet text (counts_of h (count_numbers h n k)) c d (tail_line text c here.field t.0) ∙ rw t.1 refl),
        m,
        o,
        t.0.placed,
      )
