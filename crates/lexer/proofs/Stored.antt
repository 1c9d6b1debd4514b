-- A stored number is in a range where the number is, and is then that number.
use Rattle.std.specs.Result.{OkIff, result_unwrap_or}
use Rattle.std.proofs.Common.{Result, Ok, Err}
use Rattle.std.proofs.lemmas.Result.{OkIff-at_ok, OkIff-at_err}
use mathlib.Core.Path.{◌≡◌, refl, sym, ap, ◌∙◌}
use mathlib.Core.List.{List, [], ◌∷◌, map}
use mathlib.Core.Bool.{Bool, true, false, and-false}
use Prim.Native.Nat.{ℕ, ◌≤◌, ◌<◌}
use native.Mathlib.Omega.{arith}
use lib.Dec.{leb}
use lib.ListN.{length}
use borrow.Author.Tests.{leb-false, le-leb, lt-leb, le-ltb}
use Rattle.spec.specs.Choice.{when◌then◌else◌}
use Rattle.spec.specs.Reading.{good, bad, bad_range, Range, ◌to◌, below, in_range, all_in_range}
use Rattle.lexer.specs.Numbers.{stored}
use Rattle.lexer.proofs.Digits.{both_true}

-- a range that the largest stored number is not in
abbrev pub Narrow : Range → Type 0
Narrow (first to last) = last < 4294967295
Narrow (below count) = count ≤ 4294967295

abbrev pub AllNarrow : List Range → Type 0
AllNarrow [] = Unit
AllNarrow (r ∷ rs) = Narrow r × AllNarrow rs

-- ------------------------------------------------------------------ one number

pub kept : (n : ℕ) → leb n 4294967295 ≡ true → stored n ≡ n
unfolding stored
kept n e = simp e

pub cut : (n : ℕ) → leb n 4294967295 ≡ false → stored n ≡ 4294967295
unfolding stored
cut n e = simp e

-- a number, if 32 bits hold it, and else the largest that they hold
pub held_or_largest : {E : Type 0} (n : ℕ) (r : Result ℕ E) → OkIff r (n < 4294967296) n → result_unwrap_or r 4294967295 ≡ stored n
held_or_largest {E} n (Ok x) h =
    let p = OkIff-at_ok {E = E} (Ok x) (n < 4294967296) n x h refl in
    p.1 ∙ sym (kept n (le-leb n 4294967295 (omega arith)))
held_or_largest {E} n (Err e) h =
    let p : n < 4294967296 → ⊥ = OkIff-at_err {E = E} (Err e) (n < 4294967296) n e h refl in
    sym (cut n (lt-leb n 4294967295 (omega arith)))

past_range : (r : Range) → Narrow r → (n : ℕ) → 4294967295 ≤ n → in_range r n ≡ false
unfolding in_range
past_range (first to last) h n k = simp (lt-leb n last (omega arith), and-false)
past_range (below count) h n k = simp (le-ltb n count (omega arith))

module _ (r : Range) (narrow : Narrow r) (n : ℕ) where
  stored_range : in_range r (stored n) ≡ in_range r n
  stored_range = go (leb n 4294967295) refl
    where
      go : (x : Bool) → leb n 4294967295 ≡ x → in_range r (stored n) ≡ in_range r n
      go true e = ap (in_range r) (kept n e)
      go false e =
          let far = leb-false n 4294967295 e in
          ap (in_range r) (cut n e) ∙ past_range r narrow 4294967295 (omega arith) ∙ sym (past_range r narrow n (omega arith))

  stored_same : in_range r n ≡ true → stored n ≡ n
  stored_same h = go (leb n 4294967295) refl
    where
      go : (x : Bool) → leb n 4294967295 ≡ x → stored n ≡ n
      go true e = kept n e
      go false e =
          let far = leb-false n 4294967295 e in
          let out = past_range r narrow n (omega arith) in
          let z : ◌≡◌ {A = ℕ} 0 1 = cc in
          absurd (omega arith)

-- ------------------------------------------------------------------ the numbers of a line

all_ranged : (rs : List Range) → AllNarrow rs → (ns : List ℕ) → all_in_range rs (map stored ns) ≡ all_in_range rs ns
unfolding all_in_range
all_ranged [] narrow [] = refl
all_ranged [] narrow (n ∷ ns) = refl
all_ranged (r ∷ rs) narrow [] = refl
all_ranged (r ∷ rs) narrow (n ∷ ns) = rw (stored_range r narrow.0 n, all_ranged rs narrow.1 ns)

all_same : (rs : List Range) → AllNarrow rs → (ns : List ℕ) → length ns ≡ length rs → all_in_range rs ns ≡ true → map stored ns ≡ ns
unfolding all_in_range
all_same rs narrow [] l h = refl
all_same [] narrow (n ∷ ns) l h = absurd (omega arith)
all_same (r ∷ rs) narrow (n ∷ ns) l h =
    let each = both_true (in_range r n) (all_in_range rs ns) h in
    rw (stored_same r narrow.0 n each.0, all_same rs narrow.1 ns (omega arith) each.1)

-- as many numbers as ranges, judged as they are stored
pub stored_judged : (rs : List Range) → AllNarrow rs → (ns : List ℕ) → length ns ≡ length rs
    → (when all_in_range rs ns then good ns else bad bad_range) ≡ (when all_in_range rs (map stored ns) then good (map stored ns) else bad bad_range)
stored_judged rs narrow ns l = go (all_in_range rs ns) refl ∙ ap (λ (x : Bool). when x then good (map stored ns) else bad bad_range) (sym (all_ranged rs narrow ns))
  where
    go : (x : Bool) → all_in_range rs ns ≡ x → (when x then good ns else bad bad_range) ≡ (when x then good (map stored ns) else bad bad_range)
    go true e = ap good (sym (all_same rs narrow ns l e))
    go false e = refl
