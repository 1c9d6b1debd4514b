-- Cursors, and what is left behind them.
use mathlib.Core.Path.{◌≡◌, refl, sym, ap, subst, ◌∙◌}
use mathlib.Core.List.{List, [], ◌∷◌}
use mathlib.Core.Bool.{Bool, true, false}
use Prim.Native.Nat.{ℕ, zero, suc, ◌+◌, ◌-◌, ◌≤◌, ◌<◌}
use native.Mathlib.Omega.{arith}
use Rattle.spec.specs.Choice.{when◌then◌else◌}
use lib.Dec.{eqb, leb, leb-suc-suc}
use borrow.Author.Tests.{le-leb, lt-leb}
use lib.ListN.{length, take, drop, drop_of_length-le, length-drop}
use lib.Seq.{drop-drop}
use Rattle.lexer.specs.Views.{width, end_of, first_field, behind, text_ended}
use Rattle.lexer.specs.Cursors.{Fits, Placed, rest, past, behind_field, span_to, span_at}
use Rattle.lexer.specs.declared.Cursor.{Cursor}
use Rattle.lexer.specs.declared.Span.{Span}
use Rattle.lexer.specs.declared.FieldEnd.{FieldEnd}
use Rattle.lexer.specs.declared.FieldEnd.TheVariants.{Comma, Newline, Text}

nothing_drop : (t : List ℕ) (i : ℕ) → text_ended (drop i t) ≡ leb (length t) i
unfolding text_ended
nothing_drop [] zero = refl
nothing_drop [] (suc i) = sym (le-leb 0 (suc i) (omega arith))
nothing_drop (b ∷ t) zero = sym (lt-leb (suc (length t)) 0 (omega arith))
nothing_drop (b ∷ t) (suc i) = nothing_drop t i ∙ sym (leb-suc-suc (length t) i)

pub nothing_left : (text : List ℕ) (c : Cursor) → text_ended (rest text c) ≡ leb (length text) c.at
unfolding rest
nothing_left text c = nothing_drop text c.at

pub placed_fits : {text : List ℕ} {c : Cursor} → Placed text c → Fits c
placed_fits p = record { at = omega (arith, p.in_text, p.short); line = omega (arith, p.line_small, p.in_text, p.short) }

-- ------------------------------------------------------------------ the cursor behind a field

-- the first field of a text, with the byte that ends it, is no longer than the text
abbrev Ended : FieldEnd → (width length : ℕ) → Type 0
Ended Comma w n = w < n
Ended Newline w n = w < n
Ended Text w n = w ≡ n

fits_more : (e : FieldEnd) (w n : ℕ) → Ended e w n → Ended e (suc w) (suc n)
fits_more Comma w n h = omega arith
fits_more Newline w n h = omega arith
fits_more Text w n h = ap suc h

field_fits : (t : List ℕ) → Ended (end_of t) (width t) (length t)
unfolding end_of width
field_fits [] = refl
field_fits (b ∷ t) = go (eqb b 44) (eqb b 10) (field_fits t)
  where
    go : (x y : Bool) → Ended (end_of t) (width t) (length t)
        → Ended (when x then Comma else when y then Newline else end_of t) (when x then 0 else when y then 0 else suc (width t)) (suc (length t))
    go true y h = omega arith
    go false true h = omega arith
    go false false h = fits_more (end_of t) (width t) (length t) h

pub width_le : (t : List ℕ) → width t ≤ length t
width_le t = go (end_of t) (field_fits t)
  where
    go : (e : FieldEnd) → Ended e (width t) (length t) → width t ≤ length t
    go Comma h = omega arith
    go Newline h = omega arith
    go Text h = omega arith

module _ (text : List ℕ) (c : Cursor) (p : Placed text c) where
  rest_length : length (rest text c) ≡ length text - c.at
  unfolding rest
  rest_length = length-drop c.at text

  past_byte : drop (c.at + width (rest text c) + 1) text ≡ behind (rest text c)
  unfolding behind rest
  past_byte =
      let e : c.at + suc (width (drop c.at text)) ≡ c.at + width (drop c.at text) + 1 = omega arith in
      sym (drop-drop (suc (width (drop c.at text))) c.at text ∙ ap (λ (k : ℕ). drop k text) e)

  past_rest : (e : FieldEnd) → Ended e (width (rest text c)) (length (rest text c)) → drop (past e (c.at + width (rest text c)) c.line).at text ≡ behind (rest text c)
  unfolding past behind rest
  past_rest Comma h = past_byte
  past_rest Newline h = past_byte
  past_rest Text h =
      let l = rest_length in
      drop_of_length-le text {i = c.at + width (drop c.at text)} (omega (arith, p.in_text))
      ∙ sym (drop_of_length-le (drop c.at text) {i = suc (width (drop c.at text))} (omega arith))

  past_placed : (e : FieldEnd) → Ended e (width (rest text c)) (length (rest text c)) → Placed text (past e (c.at + width (rest text c)) c.line)
  unfolding past
  past_placed Comma h = let l = rest_length in record { line_small = omega (arith, p.line_small); in_text = omega (arith, p.in_text); short = p.short }
  past_placed Newline h = let l = rest_length in record { line_small = omega (arith, p.line_small); in_text = omega (arith, p.in_text); short = p.short }
  past_placed Text h = let l = rest_length in record { line_small = omega (arith, p.line_small); in_text = omega (arith, p.in_text); short = p.short }

  -- what is left behind the field at a cursor
  pub next_rest : rest text (behind_field text c) ≡ behind (rest text c)
  unfolding behind_field rest
  next_rest = past_rest (end_of (rest text c)) (field_fits (rest text c))

  -- and the cursor behind it stands in the text again
  pub next_placed : Placed text (behind_field text c)
  unfolding behind_field
  next_placed = past_placed (end_of (rest text c)) (field_fits (rest text c))

-- a field from the cursor to a byte, with what ends it there
module _ (text : List ℕ) (c : Cursor) (e : FieldEnd) (to : ℕ) (ends : end_of (rest text c) ≡ e) (long : c.at + width (rest text c) ≡ to) where
  pub span_is : span_to e to c ≡ span_at text c
  unfolding span_at
  span_is = rw (ends, long)

  pub past_is : past e to c.line ≡ behind_field text c
  unfolding behind_field
  past_is = rw (ends, long)

  pub past_fits : Placed text c → Fits (past e to c.line)
  past_fits p = placed_fits (subst (Placed text) (sym past_is) (next_placed text c p))

module _ (text : List ℕ) (c : Cursor) where
  pub line_kept : end_of (rest text c) ≡ Comma → (behind_field text c).line ≡ c.line
  unfolding behind_field past
  line_kept e = rw e

  pub line_passed : end_of (rest text c) ≡ Newline → (behind_field text c).line ≡ c.line + 1
  unfolding behind_field past
  line_passed e = rw e

-- ------------------------------------------------------------------ the bytes of a field

module _ (text : List ℕ) (c : Cursor) where
  pub span_field : (s : Span) → s ≡ span_at text c → take (s.to - s.from) (drop s.from text) ≡ first_field (rest text c)
  unfolding span_at span_to first_field rest
  span_field s e = rw e (let d : c.at + width (drop c.at text) - c.at ≡ width (drop c.at text) = omega arith in rw d)

  pub span_le : (s : Span) → s ≡ span_at text c → Placed text c → (s.from ≤ s.to) × (s.to ≤ length text)
  unfolding span_at span_to rest
  span_le s e p = rw e (omega arith, omega (arith, width_le (drop c.at text), length-drop c.at text, p.in_text))
