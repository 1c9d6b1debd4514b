-- The cursor behind a line, and what reading the numerals of a line tells its caller.
use Rattle.std.proofs.Common.{Option, None, Some}
use mathlib.Core.Path.{◌≡◌, refl, sym, ap, subst, ◌∙◌}
use mathlib.Core.List.{List, [], ◌∷◌, map}
use mathlib.Core.Bool.{Bool, true, false}
use Prim.Native.Nat.{ℕ, suc, ◌+◌, ◌≤◌, ◌<◌}
use native.Mathlib.Omega.{arith}
use lib.Dec.{eqb}
use lib.ListN.{length, drop, length-drop}
use lib.Seq.{drop-drop}
use borrow.Author.Tests.{eqb-true}
use Rattle.spec.specs.Choice.{when◌then◌else◌}
use Rattle.spec.specs.Text.{Field}
use Rattle.spec.specs.Reading.{numerals}
use Rattle.lexer.specs.Views.{with_field, with_byte, line_at}
use Rattle.lexer.specs.Cursors.{Placed, rest}
use Rattle.lexer.specs.Numbers.{stored, with_rest, numbers_in, counted, numbers_at, behind_line, numbers_of, Filled, NumbersRead}
use Rattle.lexer.specs.declared.Cursor.{Cursor}

-- ------------------------------------------------------------------ what is left behind a line is a part of the text

pub record Behind (t r : List ℕ) : Type 0 where
  pub by : ℕ
  pub some_by : 0 < by
  pub by_le : by ≤ length t
  pub left : drop by t ≡ r

abbrev pub BehindLine : List ℕ → Option (List Field × List ℕ) → Type 0
BehindLine t None = Unit
BehindLine t (Some line) = Behind t line.1

behind_more : (b : ℕ) (t r : List ℕ) → Behind t r → Behind (b ∷ t) r
behind_more b t r h = record { by = suc h.by; some_by = omega arith; by_le = omega (arith, h.by_le); left = h.left }

behind_field_lem : (b : ℕ) (t : List ℕ) (f : Field) (o : Option (List Field × List ℕ)) → BehindLine t o → BehindLine (b ∷ t) (with_field f o)
unfolding with_field
behind_field_lem b t f None h = tt
behind_field_lem b t f (Some line) h = behind_more b t line.1 h

behind_byte : (b : ℕ) (t : List ℕ) (o : Option (List Field × List ℕ)) → BehindLine t o → BehindLine (b ∷ t) (with_byte b o)
unfolding with_byte
behind_byte b t None h = tt
behind_byte b t (Some line) h = behind_more b t line.1 h

pub behind_line_lem : (t : List ℕ) → BehindLine t (line_at t)
unfolding line_at
behind_line_lem [] = tt
behind_line_lem (b ∷ t) = go (eqb b 44) (eqb b 10) (behind_line_lem t)
  where
    go : (x y : Bool) → BehindLine t (line_at t)
        → BehindLine (b ∷ t) (when x then with_field [] (line_at t) else when y then Some ([] ∷ [], t) else with_byte b (line_at t))
    go true y h = behind_field_lem b t [] (line_at t) h
    go false true h = record { by = 1; some_by = omega arith; by_le = omega arith; left = refl }
    go false false h = behind_byte b t (line_at t) h

-- ------------------------------------------------------------------ the cursor behind a line

module _ (text : List ℕ) (c : Cursor) (p : Placed text c) (r : List ℕ) (b : Behind (rest text c) r) where
  behind_at : (behind_line text c r).at ≡ c.at + b.by
  unfolding behind_line rest
  behind_at =
      omega (arith, sym (ap length b.left) ∙ length-drop b.by (drop c.at text), length-drop c.at text, b.by_le, p.in_text)

  behind_rest : rest text (behind_line text c r) ≡ r
  unfolding rest
  behind_rest = ap (λ (i : ℕ). drop i text) behind_at ∙ sym (drop-drop b.by c.at text) ∙ b.left

  behind_placed : Placed text (behind_line text c r)
  unfolding rest behind_line
  behind_placed =
      record {
        line_small = omega (arith, behind_at, b.some_by, p.line_small);
        in_text = omega (arith, behind_at, b.by_le, length-drop c.at text, p.in_text);
        short = p.short;
      }

-- ------------------------------------------------------------------ reading the numerals of a line

module _ (n : ℕ) (ns r : List ℕ) where
  counted_parts : (o : Option (List ℕ)) (r' : List ℕ) → counted n (with_rest o r') ≡ Some (ns, r) → (r' ≡ r) × (length ns ≡ n)
  unfolding counted with_rest
  counted_parts None r' e = let z : ◌≡◌ {A = ℕ} 0 1 = cc in absurd (omega arith)
  counted_parts (Some ms) r' e = go (eqb (length (map stored ms)) n) refl e
    where
      go : (x : Bool) → eqb (length (map stored ms)) n ≡ x → when◌then◌else◌ {A = Option (List ℕ × List ℕ)} x (Some (map stored ms, r')) None ≡ Some (ns, r) → (r' ≡ r) × (length ns ≡ n)
      go true q e =
          let p : ◌≡◌ {A = List ℕ × List ℕ} (map stored ms, r') (ns, r) = cc in
          (ap (λ (q : List ℕ × List ℕ). q.1) p, sym (ap (λ (q : List ℕ × List ℕ). length q.0) p) ∙ eqb-true (length (map stored ms)) n q)
      go false q e = let z : ◌≡◌ {A = ℕ} 0 1 = cc in absurd (omega arith)

  counted_behind : (t : List ℕ) (o : Option (List Field × List ℕ)) → BehindLine t o → counted n (numbers_in o) ≡ Some (ns, r) → Behind t r
  unfolding counted numbers_in
  counted_behind t None h e = let z : ◌≡◌ {A = ℕ} 0 1 = cc in absurd (omega arith)
  counted_behind t (Some line) h e = subst (Behind t) (counted_parts (numerals line.0) line.1 e).0 h

  counted_length : (o : Option (List Field × List ℕ)) → counted n (numbers_in o) ≡ Some (ns, r) → length ns ≡ n
  unfolding counted numbers_in
  counted_length None e = let z : ◌≡◌ {A = ℕ} 0 1 = cc in absurd (omega arith)
  counted_length (Some line) e = (counted_parts (numerals line.0) line.1 e).1

-- what a caller of `numbers` knows when it has read n of them: they are in the slice, and the cursor stands behind the line
pub record LineRead (text : List ℕ) (c : Cursor) (n : ℕ) (after : List ℕ) (d : Cursor) : Type 0 where
  pub numbers : numbers_at text c n ≡ Some (after, rest text d)
  pub placed : Placed text d
  pub line : d.line ≡ c.line + 1
  pub long : length after ≡ n

module _ (text : List ℕ) (c : Cursor) (n : ℕ) where
  at_found : (ns r : List ℕ) → numbers_at text c n ≡ Some (ns, r) → Behind (rest text c) r
  unfolding numbers_at
  at_found ns r e = counted_behind n ns r (rest text c) (line_at (rest text c)) (behind_line_lem (rest text c)) e

  at_length : (ns r : List ℕ) → numbers_at text c n ≡ Some (ns, r) → length ns ≡ n
  unfolding numbers_at
  at_length ns r e = counted_length n ns r (line_at (rest text c)) e

  line_read : (ns r : List ℕ) → Placed text c → numbers_at text c n ≡ Some (ns, r) → LineRead text c n ns (behind_line text c r)
  line_read ns r p e =
      let b = at_found ns r e in
      record {
        numbers = e ∙ ap (λ (x : List ℕ). Some (ns, x)) (sym (behind_rest text c p r b));
        placed = behind_placed text c p r b;
        line = unfold behind_line in refl;
        long = at_length ns r e;
      }

module _ {text : List ℕ} {c : Cursor} {before after : List ℕ} {answer : Option Cursor} (h : NumbersRead text c before after answer) (n : ℕ) (whole : length before ≡ n) where
  pub numbers_none : answer ≡ None → (numbers_at text c n ≡ None) × (length after ≡ n)
  unfolding numbers_of
  numbers_none a = rw whole at (go (numbers_at text c (length before)) (sym a ∙ h.found) h.filled)
    where
      go : (o : Option (List ℕ × List ℕ)) → None ≡ numbers_of text c o → Filled o before after → (o ≡ None) × (length after ≡ length before)
      go None e f = (refl, f)
      go (Some found) e f = let z : ◌≡◌ {A = ℕ} 0 1 = cc in absurd (omega arith)

  pub numbers_read : {d : Cursor} → Placed text c → answer ≡ Some d → LineRead text c n after d
  unfolding numbers_of
  numbers_read {d} p a = rw whole at (go (numbers_at text c (length before)) refl (sym a ∙ h.found) h.filled)
    where
      go : (o : Option (List ℕ × List ℕ)) → numbers_at text c (length before) ≡ o → Some d ≡ numbers_of text c o → Filled o before after
          → LineRead text c (length before) after d
      go None q e f = let z : ◌≡◌ {A = ℕ} 0 1 = cc in absurd (omega arith)
      go (Some found) q e f =
          let k : d ≡ behind_line text c found.1 = cc in
          rw (k, f) (line_read text c (length before) found.0 found.1 p q)
