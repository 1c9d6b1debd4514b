-- What was read is spelled as it is written: a text is its lines, a line is its fields, and a numeral is the digits of its number.
use Rattle.std.proofs.Common.{Option, None, Some}
use mathlib.Core.Path.{◌≡◌, refl, sym, ap, ◌∙◌}
use mathlib.Core.List.{List, [], ◌∷◌, ◌++◌, map, append_assoc, append-nil}
use mathlib.Core.Bool.{Bool, true, false, ◌&&◌, not}
use Prim.Native.Nat.{ℕ, ◌+◌, ◌*◌, ◌-◌, ◌/◌, ◌%◌, ◌≤◌, ◌<◌}
use native.Mathlib.Nat.{mod-lt, mod-eq_of_lt, div-add-mod'}
use native.Mathlib.Omega.{arith}
use lib.Dec.{eqb, leb, lit<}
use lib.ListN.{length}
use borrow.Author.Tests.{eqb-false, eqb-true, leb-true, not-true}
use Rattle.spec.specs.Choice.{when◌then◌else◌}
use Rattle.spec.specs.Text.{Line, closed, unclosed, on_line, lines, Field, on_field, fields, digit_limit, digits, leading_zero, value, numeral}
use Rattle.spec.specs.Reading.{LineResult, good, Range, with_numeral, numerals, numbers}
use Rattle.spec.specs.WellFormed.{Parses, nothing, line as shown}
use Rattle.spec.proofs.Clashes.{none_is_not_some}
use Rattle.spec.proofs.Tests.{both_true}
use Rattle.spec.proofs.Seen.{numbers_spelled}
use Rattle.text_theory.specs.Text.{digit, decimal, line, text}
use Rattle.text_theory.proofs.Decimal.{decimal_small, decimal_large}
use Rattle.text_theory.proofs.Fields.{joined}
use Rattle.text_theory.proofs.Lines.{line_append}

-- ------------------------------------------------------------------ numerals

IsDigit : ℕ → Type 0
IsDigit b = (48 ≤ b) × (b ≤ 57)

first_digit : (b : ℕ) → IsDigit b → decimal (b - 48) ≡ b ∷ []
unfolding digit IsDigit
first_digit b h =
    let small : b - 48 < 10 = omega arith in
    let m : (b - 48) % 10 ≡ b - 48 = mod-eq_of_lt small in
    let d : 48 + (b - 48) % 10 ≡ b = omega arith in
    decimal_small (b - 48) small ∙ ap (λ (x : ℕ). x ∷ []) d

next_digit : (a b : ℕ) → 1 ≤ a → IsDigit b → decimal (a * 10 + (b - 48)) ≡ decimal a ++ (b ∷ [])
unfolding digit IsDigit
next_digit a b h k =
    let n = a * 10 + (b - 48) in
    let small : n % 10 < 10 = mod-lt n (lit< tt) in
    let both = div-add-mod' n 10 in
    let q : n / 10 ≡ a = omega arith in
    let d : 48 + n % 10 ≡ b = omega arith in
    decimal_large n (omega arith) ∙ ap (λ (x : ℕ). decimal x ++ (digit n ∷ [])) q ∙ ap (λ (x : ℕ). decimal a ++ (x ∷ [])) d

-- the first of some digits, and those behind it
digits_first : (b : ℕ) (t : List ℕ) → digits (b ∷ t) ≡ true → IsDigit b × (digits t ≡ true)
unfolding digits IsDigit
digits_first b t h =
    let (here, rest) = both_true (leb 48 b && leb b 57) (digits t) h in
    let (low, high) = both_true (leb 48 b) (leb b 57) here in
    ((leb-true 48 b low, leb-true b 57 high), rest)

more_digits : (a : ℕ) (t : List ℕ) → 1 ≤ a → digits t ≡ true → decimal (value a t) ≡ decimal a ++ t
unfolding value
more_digits a [] h k = sym (append-nil (decimal a))
more_digits a (b ∷ t) h k =
    let (d, rest) = digits_first b t k in
    more_digits (a * 10 + (b - 48)) t (omega arith) rest
    ∙ ap (λ (s : List ℕ). s ++ t) (next_digit a b h d)
    ∙ append_assoc (decimal a) (b ∷ []) t

all_digits : (f : Field) → 1 ≤ length f → digits f ≡ true → leading_zero f ≡ false → decimal (value 0 f) ≡ f
unfolding value leading_zero IsDigit
all_digits [] h d z = absurd (omega arith)
all_digits (b ∷ []) h d z = ap decimal (omega arith) ∙ first_digit b (digits_first b [] d).0
all_digits (b ∷ c ∷ t) h d z =
    let (here, rest) = digits_first b (c ∷ t) d in
    let n = eqb-false b 48 z in
    let a : 0 * 10 + (b - 48) ≡ b - 48 = omega arith in
    ap (λ (x : ℕ). decimal (value x (c ∷ t))) a
    ∙ more_digits (b - 48) (c ∷ t) (omega arith) rest
    ∙ ap (λ (s : List ℕ). s ++ (c ∷ t)) (first_digit b here)

chosen : (b : Bool) (v n : ℕ) → (when b then Some v else None) ≡ Some n → (b ≡ true) × (v ≡ n)
chosen true v n e = (refl, cc)
chosen false v n e = none_is_not_some e

-- a numeral is the digits of its number
pub numeral_canonical : (f : Field) (n : ℕ) → numeral f ≡ Some n → f ≡ decimal n
unfolding numeral
numeral_canonical f n e =
    let (all, v) = chosen (leb 1 (length f) && leb (length f) digit_limit && digits f && not (leading_zero f)) (value 0 f) n e in
    let (a, z) = both_true (leb 1 (length f) && leb (length f) digit_limit && digits f) (not (leading_zero f)) all in
    let (b, d) = both_true (leb 1 (length f) && leb (length f) digit_limit) (digits f) a in
    let (l, m) = both_true (leb 1 (length f)) (leb (length f) digit_limit) b in
    sym (all_digits f (leb-true 1 (length f) l) d (not-true (leading_zero f) z)) ∙ ap decimal v

-- ------------------------------------------------------------------ numbers on a line

found : (o : Option ℕ) (p : Option (List ℕ)) (ns : List ℕ) → with_numeral o p ≡ Some ns
    → (n : ℕ) × (ms : List ℕ) × (o ≡ Some n) × (p ≡ Some ms) × (ns ≡ n ∷ ms)
unfolding with_numeral
found None p ns e = none_is_not_some e
found (Some n) None ns e = none_is_not_some e
found (Some n) (Some ms) ns e = (n, ms, refl, refl, cc)

numerals_canonical : (fs : List Field) (ns : List ℕ) → numerals fs ≡ Some ns → fs ≡ map decimal ns
unfolding numerals
numerals_canonical [] ns e = let q : [] ≡ ns = cc in ap (map decimal) q
numerals_canonical (f ∷ fs) ns e =
    let (n, ms, one, rest, q) = found (numeral f) (numerals fs) ns e in
    let here = numeral_canonical f n one in
    let there = numerals_canonical fs ms rest in
    ap (λ (x : Field). x ∷ fs) here ∙ ap (λ (r : List Field). decimal n ∷ r) there ∙ sym (ap (map decimal) q)

-- fields that show numbers are the numerals of those numbers
pub numbers_canonical : (rs : List Range) (fs : List Field) (ns : List ℕ) → numbers rs fs ≡ good ns → fs ≡ map decimal ns
numbers_canonical rs fs ns e = numerals_canonical fs ns (numbers_spelled rs fs ns e)

-- ------------------------------------------------------------------ fields and lines

on_field_lem : (b : ℕ) (fs : List Field) → 1 ≤ length fs → joined (on_field b fs) ≡ b ∷ joined fs
unfolding on_field joined
on_field_lem b [] h = absurd (omega arith)
on_field_lem b (f ∷ []) h = refl
on_field_lem b (f ∷ g ∷ fs) h = refl

joined_cons : (f : Field) (fs : List Field) → 1 ≤ length fs → joined (f ∷ fs) ≡ f ++ (44 ∷ joined fs)
unfolding joined
joined_cons f [] h = absurd (omega arith)
joined_cons f (g ∷ fs) h = refl

on_field_some : (b : ℕ) (fs : List Field) → 1 ≤ length (on_field b fs)
unfolding on_field
on_field_some b [] = omega arith
on_field_some b (f ∷ fs) = omega arith

fields_some : (l : List ℕ) → 1 ≤ length (fields l)
unfolding fields
fields_some [] = omega arith
fields_some (b ∷ t) = either (eqb b 44)
  where
    either : (x : Bool) → 1 ≤ length (when x then [] ∷ fields t else on_field b (fields t))
    either true = omega arith
    either false = on_field_some b (fields t)

-- a line is its fields parted by commas
pub joined_fields : (l : List ℕ) → joined (fields l) ≡ l
unfolding fields joined
joined_fields [] = refl
joined_fields (b ∷ t) = either (eqb b 44) refl (joined_fields t)
  where
    either : (x : Bool) → eqb b 44 ≡ x → joined (fields t) ≡ t → joined (when x then [] ∷ fields t else on_field b (fields t)) ≡ b ∷ t
    either true e rest = let c : b ≡ 44 = eqb-true b 44 e in joined_cons [] (fields t) (fields_some t) ∙ cc
    either false e rest = on_field_lem b (fields t) (fields_some t) ∙ ap (λ (r : List ℕ). b ∷ r) rest

-- lines with the byte that closes each
unfoldable pub unlined : List Line → List ℕ
unlined [] = []
unlined (closed l ∷ r) = l ++ (10 ∷ unlined r)
unlined (unclosed l ∷ r) = l ++ unlined r

on_line_lem : (b : ℕ) (ls : List Line) → unlined (on_line b ls) ≡ b ∷ unlined ls
unfolding unlined on_line
on_line_lem b [] = refl
on_line_lem b (closed l ∷ r) = refl
on_line_lem b (unclosed l ∷ r) = refl

-- a text is its lines
pub unlined_lines : (t : List ℕ) → unlined (lines t) ≡ t
unfolding lines unlined
unlined_lines [] = refl
unlined_lines (b ∷ t) = either (eqb b 10) refl (unlined_lines t)
  where
    either : (x : Bool) → eqb b 10 ≡ x → unlined (lines t) ≡ t → unlined (when x then closed [] ∷ lines t else on_line b (lines t)) ≡ b ∷ t
    either true e rest = let c : b ≡ 10 = eqb-true b 10 e in cc
    either false e rest = on_line_lem b (lines t) ∙ ap (λ (r : List ℕ). b ∷ r) rest

pub line_joined : (fs : List Field) (t : List ℕ) → line fs t ≡ joined fs ++ (10 ∷ t)
unfolding line joined
line_joined [] t = refl
line_joined (f ∷ []) t = refl
line_joined (f ∷ g ∷ fs) t = ap (λ (r : List ℕ). f ++ (44 ∷ r)) (line_joined (g ∷ fs) t) ∙ sym (append_assoc f (44 ∷ joined (g ∷ fs)) (10 ∷ t))

-- ------------------------------------------------------------------ lines that show something

-- each way of reading shows its entry only on the fields given
pub data OneSpelling {A : Type 0} : List (List Field → LineResult A) → List A → List (List Field) → Type 0 where
  empty : OneSpelling [] [] []
  entry : {read : List Field → LineResult A} {reads : List (List Field → LineResult A)} {a : A} {as' : List A} {w : List Field} {ws : List (List Field)}
      → ((fs : List Field) → read fs ≡ good a → fs ≡ w) → OneSpelling reads as' ws → OneSpelling (read ∷ reads) (a ∷ as') (w ∷ ws)

-- lines that show the entries are those fields
pub shown_spelling : {A : Type 0} {reads : List (List Field → LineResult A)} {ls rest : List Line} {as' : List A} {ws : List (List Field)}
    → Parses reads ls as' rest → OneSpelling reads as' ws → unlined ls ≡ text ws ++ unlined rest
unfolding unlined text
shown_spelling nothing empty = refl
shown_spelling (shown {l = l} {ls = ls} {rest = rest} h s) (entry {w = w} {ws = ws} c o) =
    ap (λ (x : List ℕ). x ++ (10 ∷ unlined ls)) (sym (joined_fields l) ∙ ap joined (c (fields l) h))
    ∙ ap (λ (x : List ℕ). joined w ++ (10 ∷ x)) (shown_spelling s o)
    ∙ sym (line_joined w (text ws ++ unlined rest))
    ∙ sym (line_append w (text ws) (unlined rest))
