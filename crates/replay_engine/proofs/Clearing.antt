-- A part of the space that is cleared, and what stands beside it.
use Prim.Native.Nat.{ℕ, zero, suc, ◌+◌, ◌-◌, ◌<◌, ◌≤◌}
use mathlib.Core.Path.{◌≡◌, refl, ◌∙◌, ap}
use mathlib.Core.List.{List}
use native.Mathlib.Omega.{arith}
use native.Mathlib.Decide.{ℕ_discrete}
use lib.ListN.{length, get_or, set, length-set}
use lib.Seq.{get_or-set_same, get_or-set_other}
use Rattle.replay_engine.specs.Steps.{zeroed}

pub zeroed_length : (s : List ℕ) (i n : ℕ) → length (zeroed s i n) ≡ length s
unfolding zeroed
zeroed_length s i zero = refl
zeroed_length s i (suc n) = zeroed_length (set s i 0) (i + 1) n ∙ length-set s i 0

pub zeroed_before : (s : List ℕ) (i n j : ℕ) → j < i → get_or (zeroed s i n) j 0 ≡ get_or s j 0
unfolding zeroed
zeroed_before s i zero j l = refl
zeroed_before s i (suc n) j l = zeroed_before (set s i 0) (i + 1) n j (omega (arith, l)) ∙ get_or-set_other s i j 0 0 (λ e. omega (arith, e, l))

pub zeroed_in : (s : List ℕ) (i n j : ℕ) → i + n ≤ length s → i ≤ j → j < i + n → get_or (zeroed s i n) j 0 ≡ 0
unfolding zeroed
zeroed_in s i zero j room l h = absurd (omega (arith, l, h))
zeroed_in s i (suc n) j room l h = by_place (λ room' l' h'. zeroed_in (set s i 0) (i + 1) n j room' l' h') (ℕ_discrete j i)
  where
    long : length (set s i 0) ≡ length s
    long = length-set s i 0

    by_place : (i + 1 + n ≤ length (set s i 0) → i + 1 ≤ j → j < i + 1 + n → get_or (zeroed (set s i 0) (i + 1) n) j 0 ≡ 0) → Dec (j ≡ i) → get_or (zeroed (set s i 0) (i + 1) n) j 0 ≡ 0
    by_place further (yes e) = rw e (zeroed_before (set s i 0) (i + 1) n i (omega arith) ∙ get_or-set_same s i 0 0 (omega (arith, room)))
    by_place further (no e) = further (omega (arith, long, room)) (omega (arith, l, e)) (omega (arith, h))

pub clear_more : (s : List ℕ) (i to : ℕ) → i < to → zeroed s i (to - i) ≡ zeroed (set s i 0) (i + 1) (to - (i + 1))
unfolding zeroed
clear_more s i to l = let e : to - i ≡ suc (to - (i + 1)) = omega (arith, l) in ap (zeroed s i) e
