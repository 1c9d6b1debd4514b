-- Laws of lines and fields: a text is its lines, one above the other.
use mathlib.Core.Path.{◌≡◌, refl, ap, ◌∙◌}
use mathlib.Core.List.{List, [], ◌∷◌, ◌++◌}
use mathlib.Core.Bool.{Bool, true, false}
use Prim.Native.Nat.{ℕ, ◌<◌}
use native.Mathlib.Omega.{arith}
use lib.Dec.{eqb}
use lib.ListN.{length}
use borrow.Author.Tests.{ne_eqb, eqb-true, eqb-false}
use Rattle.spec.specs.Choice.{when◌then◌else◌}
use Rattle.spec.specs.Text.{Line, closed, unclosed, on_line, lines, Field, on_field, fields}
use Rattle.compatibility.specs.Texts.{OneLine, ◌above◌, joined}

-- ------------------------------------------------------------------ lines

pub above_lines : (l t : List ℕ) → OneLine l → lines (l above t) ≡ closed l ∷ lines t
unfolding ◌above◌ lines on_line
above_lines [] t one = refl
above_lines (b ∷ l) t one = rw (ne_eqb b 10 one.0, above_lines l t one.1)

-- the lines that a text can have: the last alone may be unclosed, and is not empty then
pub data Lined : List Line → Type 0 where
  no_line : Lined []
  closed_line : {l : List ℕ} {ls : List Line} → OneLine l → Lined ls → Lined (closed l ∷ ls)
  last_line : {b : ℕ} {l : List ℕ} → OneLine (b ∷ l) → Lined (unclosed (b ∷ l) ∷ [])

pub text_lined : (t : List ℕ) → Lined (lines t)
unfolding lines on_line
text_lined [] = no_line
text_lined (b ∷ t) = by_byte (eqb b 10) refl (text_lined t)
  where
    by_byte : {ls : List Line} (x : Bool) → eqb b 10 ≡ x → Lined ls → Lined (when x then closed [] ∷ ls else on_line b ls)
    by_byte true e w = closed_line tt w
    by_byte false e no_line = last_line {b = b} {l = []} (eqb-false b 10 e, tt)
    by_byte false e (closed_line {l = l} one w) = closed_line {l = b ∷ l} (eqb-false b 10 e, one) w
    by_byte false e (last_line {b = c} {l = l} one) = last_line {b = b} {l = c ∷ l} (eqb-false b 10 e, one)

unclosed_lines : (b : ℕ) (l : List ℕ) → OneLine (b ∷ l) → lines (b ∷ l) ≡ unclosed (b ∷ l) ∷ []
unfolding lines on_line
unclosed_lines b [] one = rw (ne_eqb b 10 one.0)
unclosed_lines b (c ∷ l) one = rw (ne_eqb b 10 one.0) (ap (on_line b) (unclosed_lines c l one.1))

pub lines_joined : {ls : List Line} → Lined ls → lines (joined ls) ≡ ls
unfolding joined lines
lines_joined no_line = refl
lines_joined (closed_line {l = l} {ls = ls} one w) = above_lines l (joined ls) one ∙ ap (closed l ∷◌) (lines_joined w)
lines_joined (last_line {b = b} {l = l} one) = unclosed_lines b l one

pub joined_lines : (t : List ℕ) → joined (lines t) ≡ t
unfolding joined lines on_line ◌above◌
joined_lines [] = refl
joined_lines (b ∷ t) = by_byte (eqb b 10) refl (lines t) (joined_lines t)
  where
    by_byte : (x : Bool) → eqb b 10 ≡ x → (ls : List Line) → joined ls ≡ t → joined (when x then closed [] ∷ ls else on_line b ls) ≡ b ∷ t
    by_byte true e ls h = rw (eqb-true b 10 e) (ap (10 ∷◌) h)
    by_byte false e [] h = ap (b ∷◌) h
    by_byte false e (closed l ∷ ls) h = ap (b ∷◌) h
    by_byte false e (unclosed l ∷ ls) h = ap (b ∷◌) h

-- ------------------------------------------------------------------ fields

some_fields : (l : List ℕ) → 0 < length (fields l)
unfolding fields on_field
some_fields [] = omega arith
some_fields (b ∷ l) = go (eqb b 44) (fields l)
  where
    go : (x : Bool) (fs : List Field) → 0 < length (when x then [] ∷ fs else on_field b fs)
    go true fs = omega arith
    go false [] = omega arith
    go false (f ∷ fs) = omega arith

pub fields_append : (l k : List ℕ) → fields (l ++ 44 ∷ k) ≡ fields l ++ fields k
unfolding fields on_field
fields_append [] k = refl
fields_append (b ∷ l) k = rw (fields_append l k) (go (eqb b 44) (fields l) (some_fields l))
  where
    go : (x : Bool) (fs : List Field) → 0 < length fs
        → (when x then [] ∷ (fs ++ fields k) else on_field b (fs ++ fields k)) ≡ (when x then [] ∷ fs else on_field b fs) ++ fields k
    go true fs h = refl
    go false [] h = absurd (omega arith)
    go false (f ∷ fs) h = refl

-- a line whose first field begins with a byte begins with it
pub field_byte : (c : ℕ) (f : Field) (fs : List Field) (l : List ℕ) → fields l ≡ (c ∷ f) ∷ fs
    → (k : List ℕ) × (l ≡ c ∷ k) × (fields k ≡ f ∷ fs)
unfolding fields on_field
field_byte c f fs [] h = let clash : ◌≡◌ {A = ℕ} 0 1 = cc in absurd (omega arith)
field_byte c f fs (b ∷ l) h = by_byte (eqb b 44) (fields l) refl (some_fields l) h
  where
    by_byte : (x : Bool) (gs : List Field) → fields l ≡ gs → 0 < length gs → (when x then [] ∷ gs else on_field b gs) ≡ (c ∷ f) ∷ fs
        → (k : List ℕ) × (b ∷ l ≡ c ∷ k) × (fields k ≡ f ∷ fs)
    by_byte true gs e some h = let clash : ◌≡◌ {A = ℕ} 0 1 = cc in absurd (omega arith)
    by_byte false [] e some h = absurd (omega (arith, some))
    by_byte false (g ∷ gs) e some h =
        let byte : b ≡ c = cc in
        let rest : g ∷ gs ≡ f ∷ fs = cc in
        (l, ap (◌∷ l) byte, e ∙ rest)
