-- Lines that show something: what they show, and that their numbers are the numerals of their fields, as many as there are ranges and
-- each in its own.
use Rattle.std.proofs.Common.{Option, None, Some}
use mathlib.Core.Path.{◌≡◌, refl, sym, ap, ◌∙◌}
use mathlib.Core.List.{List, [], ◌∷◌}
use mathlib.Core.Bool.{Bool, true, false}
use Prim.Native.Nat.{ℕ, zero, suc, ◌≤◌, ◌<◌}
use native.Mathlib.Omega.{arith}
use lib.Dec.{eqb}
use lib.ListN.{length, get_or}
use borrow.Author.Tests.{eqb-true, leb-true, ltb-true, le-leb, lt-leb, lt-ltb}
use Rattle.spec.specs.Choice.{when◌then◌else◌}
use Rattle.spec.specs.Text.{Field, numeral}
use Rattle.spec.specs.Reading.{Fault, bad_form, bad_range, LineResult, good, bad, seen, ensure, Range, ◌to◌, below, in_range, all_in_range, with_numeral, numerals, numbers, or_bad_form}
use Rattle.spec.specs.Split.{header_ranges}
use Rattle.spec.specs.declared.Heading.TheVariants.{C, C2}
use Rattle.spec.proofs.Clashes.{none_is_not_some}
use Rattle.spec.proofs.Tests.{both_true}

-- ------------------------------------------------------------------ lines that show something

pub wrong_is_not_right : {A B : Type 0} {w : Fault} {a : A} → bad w ≡ good a → B
wrong_is_not_right h = let z : ◌≡◌ {A = ℕ} 0 1 = cc in absurd (omega arith)

right_inj : {A : Type 0} {a b : A} → good a ≡ good b → a ≡ b
right_inj h = cc

pub seen_right : {A B : Type 0} {f : A → B} {b : B} (x : LineResult A) → seen f x ≡ good b → (a : A) × (x ≡ good a) × (f a ≡ b)
unfolding seen
seen_right (good a) h = (a, refl, right_inj h)
seen_right (bad w) h = wrong_is_not_right h

pub formed_right : {A B : Type 0} {b : B} (o : Option A) (read : A → LineResult B) → or_bad_form o read ≡ good b → (a : A) × (o ≡ Some a) × (read a ≡ good b)
unfolding or_bad_form
formed_right None read h = wrong_is_not_right h
formed_right (Some a) read h = (a, refl, h)

pub insist_right : {A : Type 0} {a : A} (b : Bool) (w : Fault) (x : LineResult A) → ensure b w x ≡ good a → (b ≡ true) × (x ≡ good a)
unfolding ensure
insist_right b w (bad v) h = wrong_is_not_right h
insist_right true w (good a) h = (refl, h)
insist_right false w (good a) h = wrong_is_not_right h

-- what holds of what either of two ways shows
pub either_right : {A : Type 0} (Q : A → Type 0) (b : Bool) (x y : LineResult A) → ((a : A) → x ≡ good a → Q a) → ((a : A) → y ≡ good a → Q a)
    → (a : A) → (when b then x else y) ≡ good a → Q a
either_right Q true x y f g a h = f a h
either_right Q false x y f g a h = g a h

within_right : {ns ms : List ℕ} (b : Bool) → (when b then good ns else bad bad_range) ≡ good ms → (b ≡ true) × (ns ≡ ms)
within_right true h = (refl, right_inj h)
within_right false h = wrong_is_not_right h

-- what the numerals of a line come to
abbrev pub ranged : List Range → Option (List ℕ) → LineResult (List ℕ)
ranged rs o = or_bad_form o λ ns. when eqb (length ns) (length rs) then (when all_in_range rs ns then good ns else bad bad_range) else bad bad_form

-- the numbers that a line shows are the numerals of its fields, as many as ranges, each in its range
numbers_shown : (rs : List Range) (fs : List Field) (ns : List ℕ) → numbers rs fs ≡ good ns
    → (numerals fs ≡ Some ns) × (length ns ≡ length rs) × (all_in_range rs ns ≡ true)
unfolding numbers
numbers_shown rs fs ns h =
    let (ms, spelled, shown) = formed_right (numerals fs) _ h in
    let (q, counted, inside) = by_count ms (eqb (length ms) (length rs)) refl shown in
    (spelled ∙ ap Some q, sym (ap length q) ∙ counted, sym (ap (all_in_range rs) q) ∙ inside)
  where
    by_count : (ms : List ℕ) (b : Bool) → eqb (length ms) (length rs) ≡ b
        → (when b then (when all_in_range rs ms then good ms else bad bad_range) else bad bad_form) ≡ good ns
        → (ms ≡ ns) × (length ms ≡ length rs) × (all_in_range rs ms ≡ true)
    by_count ms true e h = let (t, q) = within_right (all_in_range rs ms) h in (q, eqb-true _ _ e, t)
    by_count ms false e h = wrong_is_not_right h

pub numbers_spelled : (rs : List Range) (fs : List Field) (ns : List ℕ) → numbers rs fs ≡ good ns → numerals fs ≡ Some ns
numbers_spelled rs fs ns h = (numbers_shown rs fs ns h).0

pub numbers_right : (rs : List Range) (fs : List Field) (ns : List ℕ) → numbers rs fs ≡ good ns → (length ns ≡ length rs) × (all_in_range rs ns ≡ true)
numbers_right rs fs ns h = let (_, counted, inside) = numbers_shown rs fs ns h in (counted, inside)

-- there are as many as fields
pub numerals_counted : (fs : List Field) (ns : List ℕ) → numerals fs ≡ Some ns → length ns ≡ length fs
unfolding numerals with_numeral
numerals_counted [] ns h = sym (ap counted h)
  where
    counted : Option (List ℕ) → ℕ
    counted None = 0
    counted (Some ms) = length ms
numerals_counted (f ∷ fs) ns h = by_numeral (numeral f) (numerals fs) (numerals_counted fs) h
  where
    by_numeral : (n : Option ℕ) (o : Option (List ℕ)) → ((ms : List ℕ) → o ≡ Some ms → length ms ≡ length fs) → with_numeral n o ≡ Some ns
        → length ns ≡ suc (length fs)
    by_numeral None o rest h = none_is_not_some h
    by_numeral (Some n) None rest h = none_is_not_some h
    by_numeral (Some n) (Some ms) rest h =
        let same : n ∷ ms ≡ ns = cc in
        sym (ap length same) ∙ ap suc (rest ms refl)

-- ------------------------------------------------------------------ numbers in ranges

pub in_to : (a b n : ℕ) → in_range (a to b) n ≡ true → (a ≤ n) × (n ≤ b)
unfolding in_range
in_to a b n h = let (x, y) = both_true _ _ h in (leb-true _ _ x, leb-true _ _ y)

pub in_below : (c n : ℕ) → in_range (below c) n ≡ true → n < c
unfolding in_range
in_below c n h = ltb-true _ _ h

-- a range from 0 on
module _ (b n : ℕ) where
  pub up_to_in : n ≤ b → in_range (0 to b) n ≡ true
  unfolding in_range
  up_to_in h = simp (le-leb 0 n (omega arith), le-leb n b h)

  pub up_to_out : b < n → in_range (0 to b) n ≡ false
  unfolding in_range
  up_to_out h = simp (le-leb 0 n (omega arith), lt-leb n b h)

all_at : (rs : List Range) (ns : List ℕ) → length ns ≡ length rs → all_in_range rs ns ≡ true
    → (i : ℕ) → i < length rs → in_range (get_or rs i (0 to 0)) (get_or ns i 0) ≡ true
unfolding all_in_range
all_at [] ns l t i h = absurd (omega arith)
all_at (r ∷ rs) [] l t i h = absurd (omega (arith, l))
all_at (r ∷ rs) (n ∷ ns) l t zero h = (both_true (in_range r n) (all_in_range rs ns) t).0
all_at (r ∷ rs) (n ∷ ns) l t (suc i) h = all_at rs ns (omega (arith, l)) (both_true (in_range r n) (all_in_range rs ns) t).1 i (omega arith)

-- each of the numbers on a line is in its range
pub in_range_at : (rs : List Range) (fs : List Field) (ns : List ℕ) → numbers rs fs ≡ good ns
    → (i : ℕ) → i < length rs → in_range (get_or rs i (0 to 0)) (get_or ns i 0) ≡ true
in_range_at rs fs ns h = let (l, t) = numbers_right rs fs ns h in all_at rs ns l t

-- map 0 is in its range wherever M is in its own
pub first_map_fits : (d l t m : ℕ) → all_in_range (header_ranges C m) (d ∷ l ∷ t ∷ m ∷ []) ≡ all_in_range (header_ranges C2 m) (d ∷ l ∷ t ∷ m ∷ 0 ∷ [])
unfolding header_ranges all_in_range in_range
first_map_fits d l t zero = refl
first_map_fits d l t (suc m) = simp (lt-ltb 0 (suc m) (omega arith))
