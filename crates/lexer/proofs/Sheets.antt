-- The lines of a sheet in turn, at a cursor.
use Rattle.std.proofs.Common.{Ok, Err}
use mathlib.Core.Path.{◌≡◌, refl, ap, ◌∙◌}
use mathlib.Core.List.{List, []}
use Prim.Native.Nat.{ℕ, ◌+◌, ◌<◌}
use lib.ListN.{length}
use Rattle.spec.specs.Text.{lines, Field}
use Rattle.spec.specs.Reading.{SheetName, LineResult, good, form, miscounted, faulty, passed, next_line, read_line, begin, end}
use Rattle.lexer.specs.Cursors.{start, rest, place_at}
use Rattle.lexer.specs.declared.Cursor.{Cursor}
use Rattle.lexer.proofs.Lines.{next_missing, begin_empty, begin_some, end_none, end_spare}

module _ (sheet : SheetName) (text : List ℕ) where
  -- in front of the first line
  pub begin_at_none : text ≡ [] → begin sheet (lines text) ≡ Err (form sheet 1)
  begin_at_none e = ap (λ (t : List ℕ). begin sheet (lines t)) e ∙ begin_empty sheet

  pub begin_at_some : 0 < length text → begin sheet (lines text) ≡ Ok (place_at text start)
  unfolding place_at start rest
  begin_at_some h = begin_some sheet text h

  module _ {A : Type 0} (read : List Field → LineResult A) (c : Cursor) where
    -- a counted line
    pub next_at : read_line sheet read (place_at text c) ≡ next_line sheet read c.line (lines (rest text c))
    unfolding read_line place_at
    next_at = refl

    pub next_at_none : rest text c ≡ [] → read_line sheet read (place_at text c) ≡ Err (miscounted sheet c.line)
    next_at_none e = next_at ∙ ap (λ (t : List ℕ). next_line sheet read c.line (lines t)) e ∙ next_missing sheet read c.line

  -- what is found on a line, and the cursor behind the line
  pub passed_at : {A : Type 0} (a : A) (c d : Cursor) → d.line ≡ c.line + 1 → passed sheet (c.line + 1) (lines (rest text d)) (good a) ≡ Ok (a, place_at text d)
  unfolding faulty passed place_at
  passed_at a c d e = rw e

  -- behind the last line
  pub end_at_none : (c : Cursor) → rest text c ≡ [] → end sheet (place_at text c) ≡ Ok tt
  unfolding place_at
  end_at_none c e = ap (λ (t : List ℕ). end sheet (record { last = c.line; rest = lines t })) e ∙ end_none sheet c.line

  pub end_at_some : (c : Cursor) → 0 < length (rest text c) → end sheet (place_at text c) ≡ Err (miscounted sheet (c.line + 1))
  unfolding place_at
  end_at_some c h = end_spare sheet c.line (rest text c) h
