-- Laws of numerals, at a place of a field.
use Rattle.std.proofs.Common.{None, Some}
use mathlib.Core.Path.{◌≡◌, refl, ◌∙◌}
use mathlib.Core.List.{List, [], ◌∷◌}
use mathlib.Core.Bool.{Bool, true, false, ◌&&◌, and-false}
use Prim.Native.Nat.{ℕ, ◌+◌, ◌*◌, ◌-◌, ◌^◌, ◌<◌, ◌≤◌}
use native.Mathlib.Nat.{not-suc-le-zero, le_of_suc-le-suc, pow-succ', pow-le-pow_right, lt_of_lt_of_le}
use native.Mathlib.Numerals.{add-one}
use native.Mathlib.Omega.{arith}
use lib.Dec.{eqb, lit<}
use lib.ListN.{length, get_or, drop, drop_of_length-le}
use lib.Seq.{drop-cons}
use borrow.Author.Tests.{le-leb, lt-leb}
use Rattle.std.specs.Char.{is_ascii_digit}
use Rattle.spec.specs.Text.{digit_limit, digits, value, numeral, leading_zero}

-- ------------------------------------------------------------------ the first digit

pub leading_two : (s : List ℕ) → 1 < length s → leading_zero s ≡ eqb (get_or s 0 0) 48
unfolding leading_zero
leading_two [] h = absurd (not-suc-le-zero h)
leading_two (b ∷ []) h = absurd (not-suc-le-zero (le_of_suc-le-suc h))
leading_two (b ∷ c ∷ t) h = refl

pub leading_one : (s : List ℕ) → length s ≤ 1 → leading_zero s ≡ false
unfolding leading_zero
leading_one [] h = refl
leading_one (b ∷ []) h = refl
leading_one (b ∷ c ∷ t) h = absurd (not-suc-le-zero (le_of_suc-le-suc h))

-- ------------------------------------------------------------------ one digit more

module _ (s : List ℕ) (i : ℕ) where
  digits_at : i < length s → digits (drop i s) ≡ (is_ascii_digit (get_or s i 0) && digits (drop (i + 1) s))
  unfolding digits
  digits_at h = simp (add-one, drop-cons s i 0 h)

  pub digits_stop : i < length s → is_ascii_digit (get_or s i 0) ≡ false → digits (drop i s) ≡ false
  digits_stop h e = digits_at h ∙ rw e

  pub digits_on : i < length s → is_ascii_digit (get_or s i 0) ≡ true → digits (drop i s) ≡ digits (drop (i + 1) s)
  digits_on h e = digits_at h ∙ rw e

  pub digits_end : length s ≤ i → digits (drop i s) ≡ true
  unfolding digits
  digits_end h = rw (drop_of_length-le s h)

  pub value_at_lem : (a : ℕ) → i < length s → value a (drop i s) ≡ value (a * 10 + (get_or s i 0 - 48)) (drop (i + 1) s)
  unfolding value
  value_at_lem a h = simp (add-one, drop-cons s i 0 h)

  pub value_end : (a : ℕ) → length s ≤ i → value a (drop i s) ≡ a
  unfolding value
  value_end a h = rw (drop_of_length-le s h)

pub ten_more : (i a d : ℕ) → a < 10 ^ i → d ≤ 9 → a * 10 + d < 10 ^ (i + 1)
ten_more i a d h k = rw (add-one, pow-succ') (omega arith)

-- what the first digits of a numeral come to is small
pub ten_limit : (i a : ℕ) → a < 10 ^ i → i ≤ digit_limit → a < 10 ^ digit_limit
ten_limit i a h k = lt_of_lt_of_le h (pow-le-pow_right {n = 10} (lit< tt) k)

-- ------------------------------------------------------------------ what is a numeral, and what is none

module _ (s : List ℕ) where
  pub not_short : length s ≡ 0 → numeral s ≡ None
  unfolding numeral
  not_short h = rw (h, numeral)

  pub not_long_lem : digit_limit < length s → numeral s ≡ None
  unfolding numeral
  not_long_lem h = simp (le-leb 1 (length s) (omega arith), lt-leb (length s) digit_limit h)

  pub not_leading : leading_zero s ≡ true → numeral s ≡ None
  unfolding numeral
  not_leading h = simp (h, and-false)

  pub not_digits : digits s ≡ false → numeral s ≡ None
  unfolding numeral
  not_digits h = simp (h, and-false)

  pub is_numeral : 1 ≤ length s → length s ≤ digit_limit → leading_zero s ≡ false → digits s ≡ true → numeral s ≡ Some (value 0 s)
  unfolding numeral
  is_numeral h k l d = simp (l, d, le-leb 1 (length s) h, le-leb (length s) digit_limit k)

pub both_true : (x y : Bool) → (x && y) ≡ true → (x ≡ true) × (y ≡ true)
both_true true y e = (refl, e)
both_true false y e = let z : ◌≡◌ {A = ℕ} 0 1 = cc in absurd (omega arith)
