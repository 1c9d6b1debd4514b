-- The digits in front of a field, and what they say of the field once the byte behind them is seen.
use Rattle.std.proofs.Common.{None, Some}
use mathlib.Core.Path.{◌≡◌, refl, sym, ap, ◌∙◌}
use mathlib.Core.List.{List, [], ◌∷◌}
use mathlib.Core.Bool.{Bool, true, false, ◌&&◌}
use Prim.Native.Nat.{ℕ, zero, suc, min, ◌+◌, ◌*◌, ◌-◌, ◌≤◌, ◌<◌}
use native.Mathlib.Numerals.{add-one}
use native.Mathlib.Omega.{arith}
use lib.Dec.{eqb, leb, ltb}
use lib.ListN.{length, get_or, take, drop, drop_of_length-le, length-drop}
use lib.Seq.{drop-cons, length-take-le}
use borrow.Author.Tests.{le-leb, ltb-true, ltb-false}
use Rattle.std.specs.Char.{is_ascii_digit}
use Rattle.spec.specs.Choice.{when◌then◌else◌}
use Rattle.spec.specs.Text.{digit_limit, digits, value, leading_zero, numeral}
use Rattle.lexer.specs.Views.{end_byte, end_before, width, end_of, first_field}
use Rattle.lexer.specs.Cursors.{Fits, Placed, rest, past}
use Rattle.lexer.specs.Numbers.{digit_first, DigitsTaken, number_of, number_at}
use Rattle.lexer.specs.declared.Cursor.{Cursor}
use Rattle.lexer.specs.declared.Taken.{Taken}
use Rattle.lexer.specs.declared.FieldEnd.{FieldEnd}
use Rattle.lexer.proofs.Digits.{not_long_lem, not_leading, not_digits, is_numeral}
use Rattle.lexer.proofs.Fields.{ends_before, goes_on, before_byte, byte_within, no_end}
use Rattle.lexer.proofs.Places.{width_le, past_is, past_fits}

-- ------------------------------------------------------------------ one byte of a field

field_cons : (b : ℕ) (t : List ℕ) → end_byte b ≡ None → first_field (b ∷ t) ≡ b ∷ first_field t
unfolding first_field end_before
field_cons b t e = rw (goes_on (b ∷ t) e).1.0

digit_within : (b : ℕ) → 48 ≤ b → b ≤ 57 → end_byte b ≡ None
digit_within b low high = no_end b (λ e. omega arith) (λ e. omega arith)

module _ (s : List ℕ) (i : ℕ) where
  at_cons : i < length s → drop i s ≡ get_or s i 0 ∷ drop (i + 1) s
  at_cons h = rw add-one (drop-cons s i 0 h)

  field_at : i < length s → end_byte (get_or s i 0) ≡ None → first_field (drop i s) ≡ get_or s i 0 ∷ first_field (drop (i + 1) s)
  field_at h e = ap first_field (at_cons h) ∙ field_cons (get_or s i 0) (drop (i + 1) s) e

  -- a digit goes on
  module _ (h : i < length s) (low : 48 ≤ get_or s i 0) (high : get_or s i 0 ≤ 57) where
    field_digit : first_field (drop i s) ≡ get_or s i 0 ∷ first_field (drop (i + 1) s)
    field_digit = field_at h (digit_within (get_or s i 0) low high)

    digit_all : digits (first_field (drop i s)) ≡ digits (first_field (drop (i + 1) s))
    unfolding digits
    digit_all = ap digits field_digit ∙ simp (le-leb 48 (get_or s i 0) low, le-leb (get_or s i 0) 57 high)

    digit_value : (a : ℕ) → value a (first_field (drop i s)) ≡ value (a * 10 + (get_or s i 0 - 48)) (first_field (drop (i + 1) s))
    unfolding value
    digit_value a = ap (value a) field_digit

  -- no digit, or none left
  pub not_first : i < length s → is_ascii_digit (get_or s i 0) ≡ false → digit_first (drop i s) ≡ false
  unfolding digit_first
  not_first h e = ap digit_first (at_cons h) ∙ e

  pub none_first : length s ≤ i → digit_first (drop i s) ≡ false
  unfolding digit_first
  none_first h = rw (drop_of_length-le s h)

  -- what ends no field and is no digit
  field_spoilt : i < length s → end_byte (get_or s i 0) ≡ None → digit_first (drop i s) ≡ false → digits (first_field (drop i s)) ≡ false
  unfolding digits digit_first
  field_spoilt h n e =
      let f : (leb 48 (get_or s i 0) && leb (get_or s i 0) 57) ≡ false = sym (ap digit_first (at_cons h)) ∙ e in
      ap digits (field_at h n) ∙ rw f

-- ------------------------------------------------------------------ the digits taken at a cursor

-- the digits from one byte to another come to the value: with what is left of the field behind them, they are the field
abbrev pub Reached : List ℕ → (from to so_far : ℕ) → Type 0
Reached text from to so_far =
    (from + width (drop from text) ≡ to + width (drop to text))
    × (end_of (drop from text) ≡ end_of (drop to text))
    × (digits (first_field (drop from text)) ≡ digits (first_field (drop to text)))
    × (value 0 (first_field (drop from text)) ≡ value so_far (first_field (drop to text)))

module _ (text : List ℕ) (from to so_far : ℕ) (r : Reached text from to so_far) where
  pub reached_more : to < length text → 48 ≤ get_or text to 0 → get_or text to 0 ≤ 57 → Reached text from (to + 1) (so_far * 10 + (get_or text to 0 - 48))
  reached_more h low high =
      let w = byte_within text to (before_byte text to h ∙ digit_within (get_or text to 0) low high) in (
        omega (arith, r.0, w.0),
        r.1 ∙ w.1,
        r.2 ∙ digit_all text to h low high,
        r.3 ∙ digit_value text to h low high so_far,
      )

module _ (text : List ℕ) (c : Cursor) (left : ℕ) (few : left ≡ min (length text - c.at) digit_limit) (placed : c.at ≤ length text) where
  pub digits_taken : (d : Taken) → c.at ≤ d.to → d.to ≤ c.at + left → Reached text c.at d.to d.value
      → (d.to < c.at + digit_limit → digit_first (drop d.to text) ≡ false) → DigitsTaken text c d
  unfolding rest
  digits_taken d forward within r no_more =
      record {
        forward = forward;
        in_text = omega arith;
        limit = omega arith;
        ahead = r.0;
        end = r.1;
        all = r.2;
        comes_to = r.3;
        no_more = no_more;
      }

-- ------------------------------------------------------------------ the numeral at a cursor

-- a field that starts with no digit
spoilt : (b : ℕ) (t : List ℕ) → (leb 48 b && leb b 57) ≡ false → digits (b ∷ t) ≡ false
unfolding digits
spoilt b t e = rw e

no_digits : (t : List ℕ) → digit_first t ≡ false → numeral (first_field t) ≡ None
unfolding digit_first first_field width
no_digits [] e = unfold numeral in refl
no_digits (b ∷ t) e = go (eqb b 44) (eqb b 10)
  where
    go : (x y : Bool) → numeral (take (when x then 0 else when y then 0 else suc (width t)) (b ∷ t)) ≡ None
    go true y = unfold numeral in refl
    go false true = unfold numeral in refl
    go false false = not_digits (b ∷ take (width t) t) (spoilt b (take (width t) t) e)

-- the first of several digits leads the field
leading_more : (t : List ℕ) (w v : ℕ) → w ≤ v → leading_zero (take w t) ≡ true → leading_zero (take v t) ≡ true
unfolding leading_zero
leading_more t zero v l e = cc
leading_more [] (suc w) v l e = cc
leading_more (b ∷ t) (suc zero) v l e = cc
leading_more (b ∷ []) (suc (suc w)) v l e = cc
leading_more (b ∷ c ∷ t) (suc (suc w)) zero l e = absurd (omega arith)
leading_more (b ∷ c ∷ t) (suc (suc w)) (suc zero) l e = absurd (omega arith)
leading_more (b ∷ c ∷ t) (suc (suc w)) (suc (suc v)) l e = e

module _ (text : List ℕ) (c : Cursor) where
  malformed : numeral (first_field (rest text c)) ≡ None → None ≡ number_at text c
  unfolding number_at number_of
  malformed e = rw e

  module _ (d : Taken) (taken : DigitsTaken text c d) where
    field_length : length (first_field (rest text c)) ≡ d.to - c.at + width (drop d.to text)
    unfolding first_field
    field_length =
        length-take-le (width (rest text c)) (rest text c) (width_le (rest text c)) ∙ omega (arith, taken.ahead, taken.forward)

    pub digits_none : d.to ≡ c.at → None ≡ number_at text c
    unfolding rest digit_limit
    digits_none e = malformed (no_digits (rest text c) (rw e at (taken.no_more (omega arith))))

    module _ (some_taken : d.to ≡ c.at → ⊥) where
      pub digits_padded : leading_zero (take (d.to - c.at) (drop c.at text)) ≡ true → None ≡ number_at text c
      unfolding rest first_field
      digits_padded e =
          malformed (not_leading (first_field (rest text c)) (leading_more (rest text c) (d.to - c.at) (width (rest text c)) (omega (arith, taken.ahead, taken.forward)) e))

      module _ (bare : leading_zero (take (d.to - c.at) (drop c.at text)) ≡ false) (e : FieldEnd) (closes : end_before (drop d.to text) ≡ Some e) where
        ends : width (drop d.to text) ≡ 0
        ends = (ends_before (drop d.to text) e closes).0

        none_left : first_field (drop d.to text) ≡ []
        unfolding first_field
        none_left = rw ends

        field_width : length (first_field (rest text c)) ≡ d.to - c.at
        field_width = omega (arith, field_length, ends)

        field_bare : leading_zero (first_field (rest text c)) ≡ false
        unfolding first_field rest
        field_bare = let w : width (rest text c) ≡ d.to - c.at = omega (arith, taken.ahead, ends) in rw w bare

        field_digits : digits (first_field (rest text c)) ≡ true
        unfolding digits
        field_digits = taken.all ∙ ap digits none_left

        field_value : value 0 (first_field (rest text c)) ≡ d.value
        unfolding value
        field_value = taken.comes_to ∙ ap (value d.value) none_left

        field_numeral : numeral (first_field (rest text c)) ≡ Some d.value
        field_numeral =
            is_numeral (first_field (rest text c)) (omega (arith, field_width, taken.forward, some_taken)) (omega (arith, field_width, taken.limit)) field_bare
            field_digits
            ∙ ap Some field_value

        field_ends : end_of (rest text c) ≡ e
        field_ends = taken.end ∙ (ends_before (drop d.to text) e closes).1

        field_long : c.at + width (rest text c) ≡ d.to
        field_long = omega (arith, taken.ahead, ends)

        pub digits_fit : Placed text c → Fits (past e d.to c.line)
        digits_fit = past_fits text c e d.to field_ends field_long

        pub digits_closed : Some (record { value = d.value; end = e; next = past e d.to c.line }) ≡ number_at text c
        unfolding number_at number_of
        digits_closed = rw (field_numeral, field_ends, past_is text c e d.to field_ends field_long)

    -- a byte after the digits that ends no field
    pub digits_spoilt : d.to ≤ length text → end_before (drop d.to text) ≡ None → None ≡ number_at text c
    digits_spoilt le n = go (ltb d.to (c.at + digit_limit)) refl
      where
        left : d.to < length text
        left = omega (arith, (goes_on (drop d.to text) n).0, length-drop d.to text)

        go : (x : Bool) → ltb d.to (c.at + digit_limit) ≡ x → None ≡ number_at text c
        go true e =
            let more = taken.no_more (ltb-true d.to (c.at + digit_limit) e) in
            malformed (not_digits (first_field (rest text c)) (taken.all ∙ field_spoilt text d.to left (sym (before_byte text d.to left) ∙ n) more))
        go false e =
            let full = ltb-false d.to (c.at + digit_limit) e in
            malformed (not_long_lem (first_field (rest text c)) (omega (arith, field_length, full, (byte_within text d.to n).0)))
