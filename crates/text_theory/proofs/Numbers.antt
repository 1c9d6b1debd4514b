-- Numbers in their ranges, written as numerals, read back.
use Rattle.std.proofs.Common.{Some}
use mathlib.Core.Path.{◌≡◌, refl, ap}
use mathlib.Core.List.{List, [], ◌∷◌, map}
use mathlib.Core.Bool.{true}
use Prim.Native.Nat.{ℕ, suc, ◌^◌, ◌≤◌, ◌<◌}
use native.Mathlib.Omega.{arith}
use lib.ListN.{length}
use borrow.Author.Tests.{eq-eqb, le-leb, lt-ltb}
use Rattle.spec.specs.Text.{Field, digit_limit}
use Rattle.spec.specs.Reading.{good, Range, ◌to◌, below, in_range, all_in_range, with_numeral, numerals, numbers, or_bad_form}
use Rattle.text_theory.specs.Text.{decimal}
use Rattle.text_theory.specs.Plain.{Plain, PlainLine, last, next}
use Rattle.text_theory.proofs.Numerals.{numeral_decimal, decimal_plain}

-- ------------------------------------------------------------------ in range

-- as many numbers as ranges, each in its range and with no more digits than a numeral can have
pub data Within : List Range → List ℕ → Type 0 where
  empty : Within [] []
  number : {r : Range} {rs : List Range} {n : ℕ} {ns : List ℕ} → in_range r n ≡ true → n < 10 ^ digit_limit → Within rs ns → Within (r ∷ rs) (n ∷ ns)

-- the ranges of document 01 are below 10 ^ digit_limit
pub within_to : {rs : List Range} {ns : List ℕ} {a b n : ℕ} → (a ≤ n) × (n ≤ b) → b ≤ 1000000000 → Within rs ns → Within ((a to b) ∷ rs) (n ∷ ns)
unfolding in_range digit_limit
within_to {a = a} {b = b} {n = n} h l w = number {r = a to b} {n = n} (simp (le-leb a n h.0, le-leb n b h.1)) (omega arith) w

pub within_below : {rs : List Range} {ns : List ℕ} {c n : ℕ} → n < c → c ≤ 1000000000 → Within rs ns → Within (below c ∷ rs) (n ∷ ns)
unfolding in_range digit_limit
within_below {c = c} {n = n} h l w = number {n = n} (lt-ltb n c h) (omega arith) w

-- ------------------------------------------------------------------ read back

pub numerals_back : {rs : List Range} {ns : List ℕ} → Within rs ns → numerals (map decimal ns) ≡ Some ns
unfolding numerals with_numeral
numerals_back empty = refl
numerals_back (number {n = n} i s w) = rw (numeral_decimal n s, numerals_back w)

within_length : {rs : List Range} {ns : List ℕ} → Within rs ns → length ns ≡ length rs
within_length empty = refl
within_length (number i s w) = ap suc (within_length w)

within_ranges : {rs : List Range} {ns : List ℕ} → Within rs ns → all_in_range rs ns ≡ true
unfolding all_in_range
within_ranges empty = refl
within_ranges (number i s w) = rw (i, within_ranges w)

pub numbers_back : {rs : List Range} {ns : List ℕ} → Within rs ns → numbers rs (map decimal ns) ≡ good ns
unfolding numbers or_bad_form
numbers_back {rs} {ns} w = rw (numerals_back w) (simp (eq-eqb (length ns) (length rs) (within_length w), within_ranges w))

-- ------------------------------------------------------------------ plain lines

pub plain_numbers : (n : ℕ) (ns : List ℕ) → PlainLine (map decimal (n ∷ ns))
plain_numbers n [] = last (decimal_plain n)
plain_numbers n (m ∷ ns) = next (decimal_plain n) (plain_numbers m ns)

-- a word and numbers
pub plain_word : {f : Field} (n : ℕ) (ns : List ℕ) → Plain f → PlainLine (f ∷ map decimal (n ∷ ns))
plain_word n ns p = next p (plain_numbers n ns)
