-- Laws of a numeral whose digits are counted, and then written from the last to the first.
use mathlib.Core.Path.{◌≡◌, refl, sym, ap, ◌∙◌}
use mathlib.Core.Bool.{Bool, true, false}
use mathlib.Core.List.{List, [], ◌∷◌, ◌++◌}
use Prim.Native.Nat.{ℕ, zero, suc, ◌+◌, ◌/◌, ◌%◌, ◌≤◌, ◌<◌}
use native.Mathlib.Nat.{mod-lt, div-add-mod'}
use native.Mathlib.Omega.{arith}
use native.Mathlib.Numerals.{add-one}
use lib.Dec.{lit<, ltb}
use borrow.Author.Tests.{ltb-true, ltb-false}
use lib.ListN.{length, set, length-append}
use Rattle.text_theory.specs.Text.{digit, decimal}
use Rattle.text_theory.proofs.Decimal.{decimal_small, decimal_large, decimal_length, decimal_long}
use Rattle.writer.specs.Buffer.{overwrite}
use Rattle.writer.proofs.Buffer.{overwrite_append, overwrite_behind}

-- ------------------------------------------------------------------ how many

pub one_digit : (n : ℕ) → n < 10 → length (decimal n) ≡ 1
one_digit n h = rw (decimal_small n h)

pub more_digits : (n : ℕ) → 10 ≤ n → length (decimal n) ≡ length (decimal (n / 10)) + 1
more_digits n h = rw (decimal_large n h, length-append)

pub two_digits : (n : ℕ) → 10 ≤ n → n < 100 → length (decimal n) ≡ 2
two_digits n h l = let d = div-add-mod' n 10 in more_digits n h ∙ rw (one_digit (n / 10) (omega arith))

pub two_more_digits : (n : ℕ) → 100 ≤ n → length (decimal n) ≡ length (decimal (n / 100)) + 2
two_more_digits n h =
    let d₁ = div-add-mod' n 10 in
    let d₂ = div-add-mod' (n / 10) 10 in
    let d₃ = div-add-mod' n 100 in
    let m₁ : n % 10 < 10 = mod-lt n (lit< tt) in
    let m₂ : n / 10 % 10 < 10 = mod-lt (n / 10) (lit< tt) in
    let m₃ : n % 100 < 100 = mod-lt n (lit< tt) in
    let hundredth : n / 10 / 10 ≡ n / 100 = omega arith in
    let first = more_digits n (omega arith) in
    let second = rw hundredth at (more_digits (n / 10) (omega arith)) in
    omega arith

-- a number of 64 bits
pub few_digits : (n : ℕ) → n < 18446744073709551616 → length (decimal n) ≤ 20
few_digits n h = decimal_length 20 n (omega arith) (omega arith)

-- ------------------------------------------------------------------ the last first

-- the last k digits of a number
unfoldable pub last_digits : (k n : ℕ) → List ℕ
last_digits zero n = []
last_digits (suc k) n = last_digits k (n / 10) ++ (digit n ∷ [])

last_digits_long : (k n : ℕ) → length (last_digits k n) ≡ k
unfolding last_digits
last_digits_long zero n = refl
last_digits_long (suc k) n = rw (length-append, last_digits_long k (n / 10)) (omega arith)

-- all of them
pub all_digits : (k n : ℕ) → k ≡ length (decimal n) → last_digits k n ≡ decimal n
unfolding last_digits
all_digits zero n e = absurd (omega (arith, decimal_long n))
all_digits (suc k) n e = either (ltb n 10) refl (all_digits k (n / 10))
  where
    either : (b : Bool) → ltb n 10 ≡ b → (k ≡ length (decimal (n / 10)) → last_digits k (n / 10) ≡ decimal (n / 10)) → last_digits (suc k) n ≡ decimal n
    either true t front =
        let none : k ≡ 0 = omega (arith, one_digit n (ltb-true n 10 t)) in
        rw (none, decimal_small n (ltb-true n 10 t))
    either false t front =
        let large = ltb-false n 10 t in
        rw (front (omega (arith, more_digits n large)), decimal_large n large)

-- the last of `left` digits is written, and k remain in front of it
pub last_written : (d : List ℕ) (at k n left : ℕ) → k + 1 ≡ left
    → overwrite (set d (at + k) (digit n)) at (last_digits k (n / 10)) ≡ overwrite d at (last_digits left n)
unfolding overwrite last_digits
last_written d at k n left e =
    let front = last_digits k (n / 10) in
    let long = last_digits_long k (n / 10) in
    rw (← e, add-one)
    (overwrite_behind d at front (at + k) (digit n) (omega arith)
    ∙ ap (λ (p : ℕ). set (overwrite d at front) p (digit n)) (omega arith)
    ∙ sym (overwrite_append d at front (digit n ∷ [])))
