-- The numeral that is written for a number reads back as that number.
use Rattle.std.proofs.Common.{Some}
use mathlib.Core.Path.{◌≡◌, refl, sym, ap, ◌∙◌, subst}
use mathlib.Core.List.{List, [], ◌∷◌, ◌++◌}
use mathlib.Core.Bool.{Bool, true, false, ◌&&◌}
use Prim.Native.Nat.{ℕ, zero, suc, ◌+◌, ◌*◌, ◌-◌, ◌^◌, ◌/◌, ◌%◌, ◌≤◌, ◌<◌}
use native.Mathlib.Nat.{mod-lt, mod-eq_of_lt, div-add-mod', le_refl}
use native.Mathlib.Omega.{arith}
use lib.Dec.{leb, ltb, lit<}
use lib.ListN.{length, get_or, get_or-append}
use borrow.Author.Tests.{le-leb, ne_eqb, ltb-true, ltb-false}
use Rattle.spec.specs.Text.{digit_limit, digits, leading_zero, value, numeral}
use Rattle.spec.proofs.Tests.{both_true}
use Rattle.text_theory.specs.Text.{digit, decimal}
use Rattle.text_theory.specs.Plain.{Plain, none, more}
use Rattle.text_theory.proofs.Decimal.{tenth_less, decimal_small, decimal_large, decimal_length, decimal_long}

-- ------------------------------------------------------------------ induction over digits

-- what holds of one digit, and of a number with its tenth, holds of every number and its digits
module _ (P : ℕ → List ℕ → Type 0)
    (small : (n : ℕ) → n < 10 → P n (digit n ∷ []))
    (large : (n : ℕ) → 10 ≤ n → P (n / 10) (decimal (n / 10)) → P n (decimal (n / 10) ++ (digit n ∷ []))) where
  from_tenth : (n : ℕ) → (10 ≤ n → P (n / 10) (decimal (n / 10))) → P n (decimal n)
  from_tenth n tenth = either (ltb n 10) refl
    where
      either : (b : Bool) → ltb n 10 ≡ b → P n (decimal n)
      either true e = subst (P n) (sym (decimal_small n (ltb-true n 10 e))) (small n (ltb-true n 10 e))
      either false e = subst (P n) (sym (decimal_large n (ltb-false n 10 e))) (large n (ltb-false n 10 e) (tenth (ltb-false n 10 e)))

  up_to : (m n : ℕ) → n ≤ m → P n (decimal n)
  up_to zero n h = from_tenth n (λ l. absurd (omega arith))
  up_to (suc m) n h = from_tenth n (λ l. let less = tenth_less n l in up_to m (n / 10) (omega arith))

  pub decimal_induction : (n : ℕ) → P n (decimal n)
  decimal_induction n = up_to n n (le_refl n)

-- ------------------------------------------------------------------ one digit

digit_small : (n : ℕ) → digit n ≤ 57
unfolding digit
digit_small n = let small : n % 10 < 10 = mod-lt n (lit< tt) in omega arith

digit_large : (n : ℕ) → 48 ≤ digit n
unfolding digit
digit_large n = omega arith

-- ------------------------------------------------------------------ every byte is a digit

digits_append : (s t : List ℕ) → digits s ≡ true → digits t ≡ true → digits (s ++ t) ≡ true
unfolding digits
digits_append [] t h k = k
digits_append (b ∷ s) t h k =
    let (here, rest) = both_true (leb 48 b && leb b 57) (digits s) h in
    rw here (digits_append s t rest k)

digit_alone : (n : ℕ) → digits (digit n ∷ []) ≡ true
unfolding digits
digit_alone n = simp (le-leb 48 (digit n) (digit_large n), le-leb (digit n) 57 (digit_small n))

pub decimal_digits : (n : ℕ) → digits (decimal n) ≡ true
decimal_digits =
    decimal_induction (λ n f. digits f ≡ true)
    (λ n h. digit_alone n)
    (λ n h e. digits_append (decimal (n / 10)) (digit n ∷ []) e (digit_alone n))

-- ------------------------------------------------------------------ what the digits come to

value_append : (a : ℕ) (s t : List ℕ) → value a (s ++ t) ≡ value (value a s) t
unfolding value
value_append a [] t = refl
value_append a (b ∷ s) t = value_append (a * 10 + (b - 48)) s t

pub decimal_value : (n : ℕ) → value 0 (decimal n) ≡ n
unfolding value digit
decimal_value =
    decimal_induction (λ n f. value 0 f ≡ n)
    (λ n h. let m : n % 10 ≡ n = mod-eq_of_lt h in omega arith)
    (λ n h e. let d = div-add-mod' n 10 in value_append 0 (decimal (n / 10)) (digit n ∷ []) ∙ omega arith)

-- ------------------------------------------------------------------ no leading zero

first_digit : (n : ℕ) → 1 ≤ n → 49 ≤ get_or (decimal n) 0 0
unfolding digit
first_digit =
    decimal_induction (λ n f. 1 ≤ n → 49 ≤ get_or f 0 0)
    (λ n h l. let m : n % 10 ≡ n = mod-eq_of_lt h in omega arith)
    (λ n h e l.
    let d = div-add-mod' n 10 in
    let m : n % 10 < 10 = mod-lt n (lit< tt) in
    rw (get_or-append (decimal (n / 10)) (digit n ∷ []) 0 0 (decimal_long (n / 10))) (e (omega arith)))

leading_two : (s : List ℕ) → 49 ≤ get_or s 0 0 → leading_zero s ≡ false
unfolding leading_zero
leading_two [] h = refl
leading_two (b ∷ []) h = refl
leading_two (b ∷ c ∷ t) h = ne_eqb b 48 (λ e. omega arith)

alone : (b : ℕ) → leading_zero (b ∷ []) ≡ false
unfolding leading_zero
alone b = refl

pub decimal_leading : (n : ℕ) → leading_zero (decimal n) ≡ false
decimal_leading n = either (ltb n 10) refl
  where
    either : (b : Bool) → ltb n 10 ≡ b → leading_zero (decimal n) ≡ false
    either true e = rw (decimal_small n (ltb-true n 10 e)) (alone (digit n))
    either false e = let l = ltb-false n 10 e in leading_two (decimal n) (first_digit n (omega arith))

-- ------------------------------------------------------------------ the numeral

some_digits : 1 ≤ digit_limit
unfolding digit_limit
some_digits = omega arith

pub numeral_decimal : (n : ℕ) → n < 10 ^ digit_limit → numeral (decimal n) ≡ Some n
unfolding numeral
numeral_decimal n h =
    simp (le-leb 1 (length (decimal n)) (decimal_long n), le-leb (length (decimal n)) digit_limit (decimal_length digit_limit n some_digits h), decimal_digits n, decimal_leading n)
    (ap Some (decimal_value n))

-- ------------------------------------------------------------------ a plain field

plain_append : {s t : List ℕ} → Plain s → Plain t → Plain (s ++ t)
plain_append none q = q
plain_append (more c n p) q = more c n (plain_append p q)

digit_plain : (n : ℕ) → Plain (digit n ∷ [])
digit_plain n =
    let l = digit_large n in
    more (ne_eqb (digit n) 44 (λ e. omega arith)) (ne_eqb (digit n) 10 (λ e. omega arith)) none

pub decimal_plain : (n : ℕ) → Plain (decimal n)
decimal_plain = decimal_induction (λ n f. Plain f) (λ n h. digit_plain n) (λ n h p. plain_append p (digit_plain n))
