-- What the fields of a row show: a field that is no numeral spoils the line, and numerals are judged by the numbers that are handed on
-- for them.
use Rattle.std.proofs.Common.{Option, None, Some}
use mathlib.Core.Path.{◌≡◌, refl, sym, ap, ◌∙◌}
use mathlib.Core.List.{List, [], ◌∷◌, map}
use mathlib.Core.Bool.{Bool, true, false, and-false}
use Prim.Native.Nat.{ℕ, ◌≤◌}
use native.Mathlib.Omega.{arith}
use lib.ListN.{length}
use borrow.Author.Tests.{eq-eqb, le-ltb}
use Rattle.spec.specs.Choice.{when◌then◌else◌}
use Rattle.spec.specs.Text.{bytes, Field, digit_limit, digits, leading_zero, value, numeral}
use Rattle.spec.specs.Reading.{LineResult, good, bad, bad_form, bad_range, seen, ensure, Range, below, in_range, all_in_range, with_numeral, numerals, numbers, or_bad_form}
use Rattle.spec.specs.Split.{Row, row_of, start_range, may_be_empty, empty_fault, post_range, post_field, row_line, nth_map}
use Rattle.spec.specs.declared.Header.{Header}
use Rattle.spec.specs.Words.{takes_start}
use Rattle.spec.specs.declared.Purpose.{Purpose}
use Rattle.spec.specs.declared.Purpose.TheVariants.{Check, Fill}
use Rattle.spec.specs.declared.Word.{Word}
use Rattle.lexer.specs.Numbers.{stored, Spells}
use Rattle.lexer.proofs.Stored.{AllNarrow, stored_judged}
use Rattle.split_fields.specs.Answers.{PostSpells}
use Rattle.split_fields.specs.Starts.{start_limit}
use Rattle.split_lines.specs.RowLines.{word_line}

-- the ranges of the numbers that are handed on, without a start and with one
abbrev pub two : Header → List Range
two H = below H.types ∷ below H.maps ∷ []

abbrev pub three : Header → Word → List Range
three H w = below H.types ∷ below H.maps ∷ start_range w H ∷ []

-- ------------------------------------------------------------------ fields that are no numerals

-- a field that is no numeral
no_numerals : (rs : List Range) (fs : List Field) → numerals fs ≡ None → numbers rs fs ≡ bad bad_form
unfolding numbers or_bad_form
no_numerals rs fs e = rw e

not_first : (f : Field) (fs : List Field) → numeral f ≡ None → numerals (f ∷ fs) ≡ None
unfolding numerals with_numeral
not_first f fs e = rw e

not_behind : (f : Field) (fs : List Field) → numerals fs ≡ None → numerals (f ∷ fs) ≡ None
unfolding numerals with_numeral
not_behind f fs e = ap (with_numeral (numeral f)) e ∙ go (numeral f)
  where
    go : (o : Option ℕ) → with_numeral o None ≡ None
    go None = refl
    go (Some n) = refl

module _ (purpose : Purpose) (H : Header) (w : Word) where
  -- a line whose numerals are not, with a start or without
  two_bad : (f m : Field) → numerals (f ∷ post_field purpose m ∷ []) ≡ None → word_line purpose H w (f ∷ m ∷ [] ∷ []) ≡ bad bad_form
  unfolding word_line row_line seen ensure
  two_bad f m e = rw (no_numerals (below H.types ∷ post_range purpose H m ∷ []) (f ∷ post_field purpose m ∷ []) e)

  three_bad : (f m : Field) (b : ℕ) (s : Field) → numerals (f ∷ post_field purpose m ∷ (b ∷ s) ∷ []) ≡ None → word_line purpose H w (f ∷ m ∷ (b ∷ s) ∷ []) ≡ bad bad_form
  unfolding word_line row_line seen
  three_bad f m b s e = rw (no_numerals (below H.types ∷ post_range purpose H m ∷ start_range w H ∷ []) (f ∷ post_field purpose m ∷ (b ∷ s) ∷ []) e)

  pub first_alone : (f : Field) → word_line purpose H w (f ∷ []) ≡ bad bad_form
  unfolding word_line row_line
  first_alone f = refl

  module _ (f : Field) where
    pub second_alone : (m : Field) → word_line purpose H w (f ∷ m ∷ []) ≡ bad bad_form
    unfolding word_line row_line
    second_alone m = refl

    pub fourth_bad : (m s t : Field) (fs : List Field) → word_line purpose H w (f ∷ m ∷ s ∷ t ∷ fs) ≡ bad bad_form
    unfolding word_line row_line
    fourth_bad m s t fs = refl

    -- no numeral in front
    pub first_bad : numeral f ≡ None → (fs : List Field) → word_line purpose H w (f ∷ fs) ≡ bad bad_form
    first_bad e [] = first_alone f
    first_bad e (m ∷ []) = second_alone m
    first_bad e (m ∷ [] ∷ []) = two_bad f m (not_first f (post_field purpose m ∷ []) e)
    first_bad e (m ∷ (b ∷ s) ∷ []) = three_bad f m b s (not_first f (post_field purpose m ∷ (b ∷ s) ∷ []) e)
    first_bad e (m ∷ s ∷ t ∷ fs) = fourth_bad m s t fs

    module _ (m : Field) where
      pub second_bad : numeral (post_field purpose m) ≡ None → (fs : List Field) → word_line purpose H w (f ∷ m ∷ fs) ≡ bad bad_form
      second_bad e [] = second_alone m
      second_bad e ([] ∷ []) = two_bad f m (not_behind f (post_field purpose m ∷ []) (not_first (post_field purpose m) [] e))
      second_bad e ((b ∷ s) ∷ []) = three_bad f m b s (not_behind f (post_field purpose m ∷ (b ∷ s) ∷ []) (not_first (post_field purpose m) ((b ∷ s) ∷ []) e))
      second_bad e (s ∷ t ∷ fs) = fourth_bad m s t fs

      -- neither empty nor a numeral
      pub third_bad : (s : Field) → numeral s ≡ None → (s ≡ [] → ⊥) → (fs : List Field) → word_line purpose H w (f ∷ m ∷ s ∷ fs) ≡ bad bad_form
      third_bad [] e n fs = absurd (n refl)
      third_bad (b ∷ s) e n [] =
          three_bad f m b s (not_behind f (post_field purpose m ∷ (b ∷ s) ∷ []) (not_behind (post_field purpose m) ((b ∷ s) ∷ []) (not_first (b ∷ s) [] e)))
      third_bad (b ∷ s) e n (t ∷ fs) = fourth_bad m (b ∷ s) t fs

-- ------------------------------------------------------------------ fields that are numerals

seen_row : (make : List ℕ → Row) (x : Bool) (ns : List ℕ) → seen make (when x then good ns else bad bad_range) ≡ (when x then good (make ns) else bad bad_range)
unfolding seen
seen_row make true ns = refl
seen_row make false ns = refl

start_few : (w : Word) (n : ℕ) → start_limit w n ≤ n
start_few w n = go (takes_start w)
  where
    go : (x : Bool) → (when x then n else 0) ≤ n
    go true = omega arith
    go false = omega arith

unfoldable judged : List Range → List ℕ → LineResult (List ℕ)
judged rs ns = when all_in_range rs ns then good ns else bad bad_range

-- as many numerals as ranges
all_spelled : (rs : List Range) (fs : List Field) (ns : List ℕ) → AllNarrow rs → numerals fs ≡ Some ns → length ns ≡ length rs
    → numbers rs fs ≡ judged rs (map stored ns)
unfolding numbers or_bad_form judged
all_spelled rs fs ns narrow e l = rw (e, eq-eqb (length ns) (length rs) l) (stored_judged rs narrow ns l)

both_spelled : (f g : Field) (k l : ℕ) (fs : List Field) (ns : List ℕ) → numeral f ≡ Some k → numeral g ≡ Some l → numerals fs ≡ Some ns
    → numerals (f ∷ g ∷ fs) ≡ Some (k ∷ l ∷ ns)
unfolding numerals with_numeral
both_spelled f g k l fs ns e e' es = rw (e, e', es)

zero_spelled : numeral (bytes "0") ≡ Some 0
unfolding bytes numeral digit_limit digits leading_zero value
zero_spelled = refl

zero_stored : stored 0 ≡ 0
unfolding stored
zero_stored = refl

out_below : (k n : ℕ) → k ≤ n → in_range (below k) n ≡ false
unfolding in_range
out_below k n h = le-ltb _ _ h

-- a second number that is in no range
second_out : (r₁ r₂ : Range) (rs : List Range) (a b : ℕ) (ns : List ℕ) → in_range r₂ b ≡ false → judged (r₁ ∷ r₂ ∷ rs) (a ∷ b ∷ ns) ≡ bad bad_range
unfolding judged all_in_range
second_out r₁ r₂ rs a b ns e = simp (e, and-false)

-- the numbers of a row, as they are handed on
module _
    (H : Header) (few : (H.types ≤ 64) × (H.maps ≤ 512)) (f : Field) (a b : ℕ) (first : Spells f a)
    (rs : List Range) (narrow : AllNarrow rs) (fs : List Field) (ns : List ℕ) (behind : numerals fs ≡ Some ns) (many : length ns ≡ length rs)
  where
    abbrev handed : LineResult (List ℕ)
    handed = judged (below H.types ∷ below H.maps ∷ rs) (a ∷ b ∷ map stored ns)

    with_post : (count : ℕ) → count ≤ 512 → (m : Field) (k : ℕ) → numeral m ≡ Some k
        → numbers (below H.types ∷ below count ∷ rs) (f ∷ m ∷ fs) ≡ judged (below H.types ∷ below count ∷ rs) (a ∷ stored k ∷ map stored ns)
    with_post count small m k e =
        all_spelled (below H.types ∷ below count ∷ rs) (f ∷ m ∷ fs) (first.0 ∷ k ∷ ns) (omega arith, (omega arith, narrow))
        (both_spelled f m first.0 k fs ns first.1 e behind) (omega arith)
        ∙ ap (λ (x : ℕ). judged (below H.types ∷ below count ∷ rs) (x ∷ stored k ∷ map stored ns)) (sym first.2)

    row_handed : (purpose : Purpose) (m : Field) → PostSpells purpose m b
        → numbers (below H.types ∷ post_range purpose H m ∷ rs) (f ∷ post_field purpose m ∷ fs) ≡ handed
    unfolding post_range post_field
    row_handed Check m (k, e, q) =
        with_post H.maps few.1 m k e ∙ ap (λ (x : ℕ). judged (below H.types ∷ below H.maps ∷ rs) (a ∷ x ∷ map stored ns)) (sym q)
    row_handed Fill [] q =
        with_post H.maps few.1 (bytes "0") 0 zero_spelled ∙ ap (λ (x : ℕ). judged (below H.types ∷ below H.maps ∷ rs) (a ∷ x ∷ map stored ns)) (zero_stored ∙ sym q)
    row_handed Fill (x ∷ m) (k, e, q) =
        with_post 0 (omega arith) (x ∷ m) k e
        ∙ second_out (below H.types) (below 0) rs a (stored k) (map stored ns) (out_below 0 (stored k) (omega arith))
        ∙ sym (second_out (below H.types) (below H.maps) rs a b (map stored ns) (out_below H.maps b (omega (arith, few.1, q))))

module _
    (purpose : Purpose) (H : Header) (few : (H.types ≤ 64) × (H.maps ≤ 512)) (w : Word)
    (f m : Field) (a b : ℕ) (first : Spells f a) (second : PostSpells purpose m b)
  where
    -- an empty s: form and ranges first, then whether it may be
    pub row_empty : word_line purpose H w (f ∷ m ∷ [] ∷ [])
        ≡ ensure (may_be_empty H.heading w) (empty_fault w) (when all_in_range (two H) (a ∷ b ∷ []) then good (row_of None (a ∷ b ∷ [])) else bad bad_range)
    unfolding word_line row_line numerals judged
    row_empty =
        ap (λ (x : LineResult (List ℕ)). ensure (may_be_empty H.heading w) (empty_fault w) (seen (row_of None) x)) (row_handed H few f a b first [] tt [] [] refl refl purpose m second)
        ∙ ap (ensure (may_be_empty H.heading w) (empty_fault w)) (seen_row (row_of None) (all_in_range (two H) (a ∷ b ∷ [])) (a ∷ b ∷ []))

    -- a number
    pub row_given : (s : Field) (n : ℕ) → Spells s n → word_line purpose H w (f ∷ m ∷ s ∷ [])
        ≡ (when all_in_range (three H w) (a ∷ b ∷ n ∷ []) then good (row_of (Some (record { 0 = n })) (a ∷ b ∷ n ∷ [])) else bad bad_range)
    unfolding word_line row_line numerals with_numeral start_range judged
    row_given [] n third = let z : ◌≡◌ {A = ℕ} 0 1 = unfold numeral in cc in absurd (omega arith)
    row_given (x ∷ s) n (k, e, q) =
        let limit = start_few w H.maps in
        ap (seen (λ ns. row_of (Some (nth_map 2 ns)) ns)) (row_handed H few f a b first (start_range w H ∷ []) (omega arith, tt) ((x ∷ s) ∷ []) (k ∷ []) (rw e) refl purpose m second)
        ∙ seen_row (λ ns. row_of (Some (nth_map 2 ns)) ns) (all_in_range (three H w) (a ∷ b ∷ stored k ∷ [])) (a ∷ b ∷ stored k ∷ [])
        ∙ ap (λ (n : ℕ). when all_in_range (three H w) (a ∷ b ∷ n ∷ []) then good (row_of (Some (record { 0 = n })) (a ∷ b ∷ n ∷ [])) else bad bad_range) (sym q)
