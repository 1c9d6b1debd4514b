-- Laws of decimal digits.
use mathlib.Core.Path.{◌≡◌, refl, sym, ap, ◌∙◌}
use mathlib.Core.List.{List, [], ◌∷◌, ◌++◌}
use mathlib.Core.Bool.{Bool, true, false}
use Prim.Native.Nat.{ℕ, zero, suc, ◌*◌, ◌^◌, ◌/◌, ◌≤◌, ◌<◌}
use native.Mathlib.Nat.{div-add-mod', pow-succ'}
use native.Mathlib.Omega.{arith}
use lib.Dec.{ltb}
use lib.ListN.{length, length-append}
use borrow.Author.Tests.{lt-ltb, le-ltb, ltb-true, ltb-false}
use Rattle.text_theory.specs.Text.{digit, digits_within, decimal}

-- a tenth
pub tenth_less : (n : ℕ) → 10 ≤ n → n / 10 < n
tenth_less n h = omega (arith, div-add-mod' n 10)

tenth_below : (m n : ℕ) → n < 10 * m → n / 10 < m
tenth_below m n h = omega (arith, div-add-mod' n 10)

-- ------------------------------------------------------------------ steps

within_small : (m n : ℕ) → n < 10 → digits_within m n ≡ digit n ∷ []
unfolding digits_within
within_small zero n h = refl
within_small (suc m) n h = rw (lt-ltb n 10 h)

within_large : (m n : ℕ) → 10 ≤ n → digits_within (suc m) n ≡ digits_within m (n / 10) ++ (digit n ∷ [])
unfolding digits_within
within_large m n h = rw (le-ltb n 10 h)

-- any number of steps that is large enough gives the same digits
within_enough : (m k n : ℕ) → n ≤ m → n ≤ k → digits_within m n ≡ digits_within k n
within_enough zero k n h l = within_small zero n (omega arith) ∙ sym (within_small k n (omega arith))
within_enough (suc m) zero n h l = within_small (suc m) n (omega arith) ∙ sym (within_small zero n (omega arith))
within_enough (suc m) (suc k) n h l = either (ltb n 10) refl (within_enough m k (n / 10))
  where
    either : (b : Bool) → ltb n 10 ≡ b → (n / 10 ≤ m → n / 10 ≤ k → digits_within m (n / 10) ≡ digits_within k (n / 10))
        → digits_within (suc m) n ≡ digits_within (suc k) n
    either true e front = within_small (suc m) n (ltb-true n 10 e) ∙ sym (within_small (suc k) n (ltb-true n 10 e))
    either false e front =
        let large = ltb-false n 10 e in
        let less = tenth_less n large in
        within_large m n large
        ∙ ap (λ (f : List ℕ). f ++ (digit n ∷ [])) (front (omega arith) (omega arith))
        ∙ sym (within_large k n large)

-- ------------------------------------------------------------------ the digits in front, and the last

pub decimal_small : (n : ℕ) → n < 10 → decimal n ≡ digit n ∷ []
unfolding decimal
decimal_small n h = within_small n n h

pub decimal_large : (n : ℕ) → 10 ≤ n → decimal n ≡ decimal (n / 10) ++ (digit n ∷ [])
unfolding decimal
decimal_large zero h = absurd (omega arith)
decimal_large (suc m) h =
    let fewer = tenth_less (suc m) h in
    within_large m (suc m) h
    ∙ ap (λ (f : List ℕ). f ++ (digit (suc m) ∷ [])) (within_enough m (suc m / 10) (suc m / 10) (omega arith) (omega arith))

-- ------------------------------------------------------------------ how many digits

within_powers : (k n : ℕ) → n < 10 ^ suc k → length (decimal n) ≤ suc k
within_powers zero n h = rw (decimal_small n (omega arith)) (omega arith)
within_powers (suc k) n h = either (ltb n 10) refl (within_powers k (n / 10) (tenth_below (10 ^ suc k) n (rw pow-succ' at h)))
  where
    either : (b : Bool) → ltb n 10 ≡ b → length (decimal (n / 10)) ≤ suc k → length (decimal n) ≤ suc (suc k)
    either true e front = rw (decimal_small n (ltb-true n 10 e)) (omega arith)
    either false e front = rw (decimal_large n (ltb-false n 10 e), length-append) (omega arith)

-- a number below 10 ^ k has at most k digits
pub decimal_length : (k n : ℕ) → 1 ≤ k → n < 10 ^ k → length (decimal n) ≤ k
decimal_length zero n l h = absurd (omega arith)
decimal_length (suc k) n l h = within_powers k n h

pub decimal_long : (n : ℕ) → 1 ≤ length (decimal n)
decimal_long n = either (ltb n 10) refl
  where
    either : (b : Bool) → ltb n 10 ≡ b → 1 ≤ length (decimal n)
    either true e = rw (decimal_small n (ltb-true n 10 e)) (omega arith)
    either false e = rw (decimal_large n (ltb-false n 10 e), length-append) (omega arith)
