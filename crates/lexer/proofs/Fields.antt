-- What is left of a text, by its first field.
use Rattle.std.proofs.Common.{Option, None, Some}
use mathlib.Core.Path.{◌≡◌, refl, ap, subst, ◌∙◌}
use mathlib.Core.List.{List, [], ◌∷◌}
use mathlib.Core.Bool.{Bool, true, false}
use Prim.Native.Nat.{ℕ, suc, ◌+◌, ◌≤◌, ◌<◌}
use native.Mathlib.Omega.{arith}
use lib.Dec.{eqb}
use lib.ListN.{length, get_or, take, drop, drop_of_length-le}
use lib.Seq.{drop-cons, drop-drop}
use borrow.Author.Tests.{ne_eqb}
use Rattle.spec.specs.Choice.{when◌then◌else◌}
use Rattle.spec.specs.Text.{Field, on_field}
use Rattle.lexer.specs.Views.{end_byte, end_before, width, end_of, first_field, behind, with_field, with_byte, line_at}
use Rattle.lexer.specs.declared.FieldEnd.{FieldEnd}
use Rattle.lexer.specs.declared.FieldEnd.TheVariants.{Comma, Newline, Text}

-- ------------------------------------------------------------------ the first field, at a place of a text

-- the field ends before what is left
pub ends_before : (t : List ℕ) (e : FieldEnd) → end_before t ≡ Some e → (width t ≡ 0) × (end_of t ≡ e)
unfolding end_before end_byte width end_of
ends_before [] e h = (refl, cc)
ends_before (b ∷ t) e h = go (eqb b 44) (eqb b 10) h
  where
    go : (x y : Bool) → (when x then Some Comma else when y then Some Newline else None) ≡ Some e
        → ((when x then 0 else when y then 0 else suc (width t)) ≡ 0) × ((when x then Comma else when y then Newline else end_of t) ≡ e)
    go true y h = (refl, cc)
    go false true h = (refl, cc)
    go false false h = cc

-- or goes on with a byte
pub goes_on : (t : List ℕ) → end_before t ≡ None → (0 < length t) × ((width t ≡ suc (width (drop 1 t))) × (end_of t ≡ end_of (drop 1 t)))
unfolding end_before end_byte width end_of
goes_on [] h = cc
goes_on (b ∷ t) h = (omega arith, go (eqb b 44) (eqb b 10) h)
  where
    go : (x y : Bool) → ◌≡◌ {A = Option FieldEnd} (when x then Some Comma else when y then Some Newline else None) None
        → ((when x then 0 else when y then 0 else suc (width t)) ≡ suc (width t)) × ((when x then Comma else when y then Newline else end_of t) ≡ end_of t)
    go true y h = cc
    go false true h = cc
    go false false h = (refl, refl)

module _ (s : List ℕ) (i : ℕ) where
  pub before_byte : i < length s → end_before (drop i s) ≡ end_byte (get_or s i 0)
  unfolding end_before
  before_byte h = rw (drop-cons s i 0 h)

  pub before_end : length s ≤ i → end_before (drop i s) ≡ Some Text
  unfolding end_before
  before_end h = rw (drop_of_length-le s h)

  pub byte_within : end_before (drop i s) ≡ None → (width (drop i s) ≡ suc (width (drop (i + 1) s))) × (end_of (drop i s) ≡ end_of (drop (i + 1) s))
  byte_within h = (rw (drop-drop 1 i s) at (goes_on (drop i s) h)).1

-- a byte that is neither a comma nor a byte 10
pub no_end : (b : ℕ) → (b ≡ 44 → ⊥) → (b ≡ 10 → ⊥) → end_byte b ≡ None
unfolding end_byte
no_end b n m = simp (ne_eqb b 44 n, ne_eqb b 10 m)

-- ------------------------------------------------------------------ the first line by the first field

-- what the first field says of the first line
abbrev ByField : FieldEnd → (f : Field) (behind : List ℕ) → Option (List Field × List ℕ) → Type 0
ByField Comma f r line = line ≡ with_field f (line_at r)
ByField Newline f r line = line ≡ Some (f ∷ [], r)
ByField Text f r line = line ≡ None

with_byte_lem : (b : ℕ) (e : FieldEnd) (f : Field) (r : List ℕ) (line : Option (List Field × List ℕ)) → ByField e f r line → ByField e (b ∷ f) r (with_byte b line)
unfolding with_byte with_field on_field
with_byte_lem b Comma f r line h = ap (with_byte b) h ∙ go (line_at r)
  where
    go : (l : Option (List Field × List ℕ)) → with_byte b (with_field f l) ≡ with_field (b ∷ f) l
    go None = refl
    go (Some l) = refl
with_byte_lem b Newline f r line h = ap (with_byte b) h
with_byte_lem b Text f r line h = ap (with_byte b) h

by_field : (t : List ℕ) → ByField (end_of t) (first_field t) (behind t) (line_at t)
unfolding end_of first_field behind width line_at
by_field [] = refl
by_field (b ∷ t) = go (eqb b 44) (eqb b 10) (by_field t)
  where
    go : (x y : Bool) → ByField (end_of t) (first_field t) (behind t) (line_at t)
        → ByField (when x then Comma else when y then Newline else end_of t)
        (take (when x then 0 else when y then 0 else suc (width t)) (b ∷ t))
        (drop (suc (when x then 0 else when y then 0 else suc (width t))) (b ∷ t))
        (when x then with_field [] (line_at t) else when y then Some ([] ∷ [], t) else with_byte b (line_at t))
    go true y h = refl
    go false true h = refl
    go false false h = with_byte_lem b (end_of t) (first_field t) (behind t) (line_at t) h

module _ (t : List ℕ) where
  pub line_comma : end_of t ≡ Comma → line_at t ≡ with_field (first_field t) (line_at (behind t))
  line_comma e = rw e at (by_field t)

  pub line_newline : end_of t ≡ Newline → line_at t ≡ Some (first_field t ∷ [], behind t)
  line_newline e = rw e at (by_field t)

  pub line_text : end_of t ≡ Text → line_at t ≡ None
  line_text e = rw e at (by_field t)

-- ------------------------------------------------------------------ a line has a field

abbrev Full : Option (List Field × List ℕ) → Type 0
Full None = Unit
Full (Some line) = 0 < length line.0

full_field : (f : Field) (o : Option (List Field × List ℕ)) → Full (with_field f o)
unfolding with_field
full_field f None = tt
full_field f (Some line) = omega arith

on_field_lem : (b : ℕ) (fs : List Field) → 0 < length (on_field b fs)
unfolding on_field
on_field_lem b [] = omega arith
on_field_lem b (f ∷ fs) = omega arith

full_byte : (b : ℕ) (o : Option (List Field × List ℕ)) → Full (with_byte b o)
unfolding with_byte
full_byte b None = tt
full_byte b (Some line) = on_field_lem b line.0

full_line : (t : List ℕ) → Full (line_at t)
unfolding line_at
full_line [] = tt
full_line (b ∷ t) = go (eqb b 44) (eqb b 10)
  where
    go : (x y : Bool) → Full (when x then with_field [] (line_at t) else when y then Some ([] ∷ [], t) else with_byte b (line_at t))
    go true y = full_field [] (line_at t)
    go false true = omega arith
    go false false = full_byte b (line_at t)

pub line_some : (t : List ℕ) (fs : List Field) (r : List ℕ) → line_at t ≡ Some (fs, r) → 0 < length fs
line_some t fs r e = subst Full e (full_line t)
