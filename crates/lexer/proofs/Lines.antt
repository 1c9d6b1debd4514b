-- What is left of a text, by its first line.
use Rattle.std.proofs.Common.{Option, None, Some, Ok, Err}
use mathlib.Core.Path.{◌≡◌, refl, ap, ◌∙◌}
use mathlib.Core.List.{List, [], ◌∷◌}
use mathlib.Core.Bool.{Bool, true, false}
use Prim.Native.Nat.{ℕ, ◌+◌, ◌<◌}
use native.Mathlib.Omega.{arith}
use lib.Dec.{eqb}
use lib.ListN.{length}
use borrow.Author.Tests.{eqb-true, ne_eqb}
use Rattle.spec.specs.Choice.{when◌then◌else◌}
use Rattle.spec.specs.Text.{Line, closed, unclosed, on_line, lines, Field, fields}
use Rattle.spec.specs.Reading.{SheetName, LineResult, form, miscounted, passed, next_line, begin, require, end}
use Rattle.lexer.specs.Views.{with_field, with_byte, line_at}

-- ------------------------------------------------------------------ the first of the lines

-- the fields of the first of some lines, where it is closed, and the other lines
unfoldable first_line : List Line → Option (List Field × List Line)
first_line [] = None
first_line (unclosed l ∷ r) = None
first_line (closed l ∷ r) = Some (fields l, r)

unfoldable rest_lines : Option (List Field × List ℕ) → Option (List Field × List Line)
rest_lines None = None
rest_lines (Some line) = Some (line.0, lines line.1)

comma_lines : (ls : List Line) → first_line (on_line 44 ls) ≡ with_field [] (first_line ls)
unfolding first_line on_line fields with_field
comma_lines [] = refl
comma_lines (unclosed l ∷ r) = refl
comma_lines (closed l ∷ r) = refl

comma_rest : (o : Option (List Field × List ℕ)) → with_field [] (rest_lines o) ≡ rest_lines (with_field [] o)
unfolding rest_lines with_field
comma_rest None = refl
comma_rest (Some line) = refl

byte_lines : (b : ℕ) (ls : List Line) → eqb b 44 ≡ false → first_line (on_line b ls) ≡ with_byte b (first_line ls)
unfolding first_line on_line fields with_byte
byte_lines b [] n = refl
byte_lines b (unclosed l ∷ r) n = refl
byte_lines b (closed l ∷ r) n = rw n

byte_rest : (b : ℕ) (o : Option (List Field × List ℕ)) → with_byte b (rest_lines o) ≡ rest_lines (with_byte b o)
unfolding rest_lines with_byte
byte_rest b None = refl
byte_rest b (Some line) = refl

-- the first line by its fields is the first of the lines
line_first : (t : List ℕ) → first_line (lines t) ≡ rest_lines (line_at t)
unfolding first_line rest_lines lines line_at fields
line_first [] = refl
line_first (b ∷ t) = go (eqb b 44) refl (eqb b 10) refl (line_first t)
  where
    go : (x : Bool) → eqb b 44 ≡ x → (y : Bool) → eqb b 10 ≡ y → first_line (lines t) ≡ rest_lines (line_at t)
        → first_line (when y then closed [] ∷ lines t else on_line b (lines t))
        ≡ rest_lines (when x then with_field [] (line_at t) else when y then Some ([] ∷ [], t) else with_byte b (line_at t))
    go true e true f h = let p = eqb-true b 44 e in let q = eqb-true b 10 f in absurd (omega arith)
    go true e false f h = rw (eqb-true b 44 e) (comma_lines (lines t) ∙ ap (with_field []) h ∙ comma_rest (line_at t))
    go false e true f h = refl
    go false e false f h = byte_lines b (lines t) e ∙ ap (with_byte b) h ∙ byte_rest b (line_at t)

on_some : (b : ℕ) (ls : List Line) → on_line b ls ≡ [] → ⊥
unfolding on_line
on_some b [] e = let z : ◌≡◌ {A = ℕ} 0 1 = cc in omega arith
on_some b (closed l ∷ r) e = let z : ◌≡◌ {A = ℕ} 0 1 = cc in omega arith
on_some b (unclosed l ∷ r) e = let z : ◌≡◌ {A = ℕ} 0 1 = cc in omega arith

some_lines : (b : ℕ) (t : List ℕ) → lines (b ∷ t) ≡ [] → ⊥
unfolding lines
some_lines b t = go (eqb b 10)
  where
    go : (y : Bool) → (when y then closed [] ∷ lines t else on_line b (lines t)) ≡ [] → ⊥
    go true e = let z : ◌≡◌ {A = ℕ} 0 1 = cc in omega arith
    go false e = on_some b (lines t) e

-- ------------------------------------------------------------------ a counted line

module _ {A : Type 0} (sheet : SheetName) (read : List Field → LineResult A) (k : ℕ) where
  -- none is left
  pub next_missing : next_line sheet read k (lines []) ≡ Err (miscounted sheet k)
  unfolding next_line lines
  next_missing = refl

  open_lines : (ls : List Line) → (ls ≡ [] → ⊥) → first_line ls ≡ None → next_line sheet read k ls ≡ Err (form sheet (k + 1))
  unfolding first_line next_line
  open_lines [] n e = absurd (n refl)
  open_lines (unclosed l ∷ r) n e = refl
  open_lines (closed l ∷ r) n e = let z : ◌≡◌ {A = ℕ} 0 1 = cc in absurd (omega arith)

  closed_lines : (ls : List Line) (found : List Field × List Line) → first_line ls ≡ Some found
      → next_line sheet read k ls ≡ passed sheet (k + 1) found.1 (read found.0)
  unfolding first_line next_line
  closed_lines [] found e = let z : ◌≡◌ {A = ℕ} 0 1 = cc in absurd (omega arith)
  closed_lines (unclosed l ∷ r) found e = let z : ◌≡◌ {A = ℕ} 0 1 = cc in absurd (omega arith)
  closed_lines (closed l ∷ r) found e = let p : (fields l, r) ≡ found = cc in rw (← p)

  -- no byte 10 closes what is left
  pub next_open : (t : List ℕ) → 0 < length t → line_at t ≡ None → next_line sheet read k (lines t) ≡ Err (form sheet (k + 1))
  unfolding rest_lines
  next_open [] h e = absurd (omega arith)
  next_open (b ∷ t) h e = open_lines (lines (b ∷ t)) (some_lines b t) (line_first (b ∷ t) ∙ ap rest_lines e)

  -- a line, and what its fields show
  pub next_closed : (t : List ℕ) (fs : List Field) (r : List ℕ) → line_at t ≡ Some (fs, r)
      → next_line sheet read k (lines t) ≡ passed sheet (k + 1) (lines r) (read fs)
  unfolding rest_lines
  next_closed t fs r e = closed_lines (lines t) (fs, lines r) (line_first t ∙ ap rest_lines e)

-- ------------------------------------------------------------------ the first and the last line

module _ (sheet : SheetName) where
  pub begin_empty : begin sheet (lines []) ≡ Err (form sheet 1)
  unfolding begin lines
  begin_empty = refl

  begin_lines : (ls : List Line) → (ls ≡ [] → ⊥) → begin sheet ls ≡ Ok (record { last = 0; rest = ls })
  unfolding begin
  begin_lines [] n = absurd (n refl)
  begin_lines (l ∷ r) n = refl

  pub begin_some : (t : List ℕ) → 0 < length t → begin sheet (lines t) ≡ Ok (record { last = 0; rest = lines t })
  begin_some [] h = absurd (omega arith)
  begin_some (b ∷ t) h = begin_lines (lines (b ∷ t)) (some_lines b t)

  pub end_none : (k : ℕ) → end sheet (record { last = k; rest = lines [] }) ≡ Ok tt
  unfolding end require lines
  end_none k = refl

  spare_lines : (k : ℕ) (ls : List Line) → (ls ≡ [] → ⊥) → end sheet (record { last = k; rest = ls }) ≡ Err (miscounted sheet (k + 1))
  unfolding end require
  spare_lines k [] n = absurd (n refl)
  spare_lines k (l ∷ r) n = rw (ne_eqb (length (l ∷ r)) 0 (λ e. omega (arith, e))) refl

  pub end_spare : (k : ℕ) (t : List ℕ) → 0 < length t → end sheet (record { last = k; rest = lines t }) ≡ Err (miscounted sheet (k + 1))
  end_spare k [] h = absurd (omega arith)
  end_spare k (b ∷ t) h = spare_lines k (lines (b ∷ t)) (some_lines b t)
