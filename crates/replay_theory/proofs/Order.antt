-- The numbers of a proper run rise with the places.
use Rattle.std.proofs.Common.{Some, slice_get}
use Prim.Native.Nat.{ℕ, zero, suc, ◌≤◌, ◌<◌}
use mathlib.Core.Path.{◌≡◌, sym, ◌∙◌, ap}
use mathlib.Core.List.{List, [], ◌∷◌}
use native.Mathlib.Decide.{dec_lt}
use native.Mathlib.Omega.{arith}
use Rattle.calculus.proofs.Laws.Maps.{some_injective, none_is_not_some}
use Rattle.replay_theory.specs.Run.{Run}
use Rattle.replay_theory.proofs.Proper.{Rising, Proper}

pub rising_above : (low high : ℕ) (ns : List ℕ) (p i : ℕ) → Rising low ns high → slice_get ns p ≡ Some i → low ≤ i
rising_above low high [] p i r h = none_is_not_some h
rising_above low high (n ∷ ns) zero i r h = let first = r.0 in let same = some_injective h in omega (arith, first, same)
rising_above low high (n ∷ ns) (suc p) i r h = let first = r.0 in let above = rising_above (suc n) high ns p i r.1 h in omega (arith, first, above)

pub rising_order : (low high : ℕ) (ns : List ℕ) (p q i j : ℕ) → Rising low ns high → p < q → slice_get ns p ≡ Some i → slice_get ns q ≡ Some j → i < j
rising_order low high [] p q i j r l h k = none_is_not_some h
rising_order low high (n ∷ ns) p zero i j r l h k = absurd (omega (arith, l))
rising_order low high (n ∷ ns) zero (suc q) i j r l h k =
    let same = some_injective h in let above = rising_above (suc n) high ns q j r.1 k in omega (arith, same, above)
rising_order low high (n ∷ ns) (suc p) (suc q) i j r l h k = rising_order (suc n) high ns p q i j r.1 (omega (arith, l)) h k

module _ (r : Run) (proper : Proper r) where
  pub order : (p q i j : ℕ) → p < q → slice_get r.numbers p ≡ Some i → slice_get r.numbers q ≡ Some j → i < j
  order p q i j = rising_order 0 r.threads r.numbers p q i j proper.rising

  pub same_place : (p q i j : ℕ) → p ≡ q → slice_get r.numbers p ≡ Some i → slice_get r.numbers q ≡ Some j → i ≡ j
  same_place p q i j e h k = some_injective (sym h ∙ ap (slice_get r.numbers) e ∙ k)

  -- Numbers are in the order of their places.
  pub place_order : (p q i j : ℕ) → i < j → slice_get r.numbers p ≡ Some i → slice_get r.numbers q ≡ Some j → p < q
  place_order p q i j l h k = by_cases (dec_lt p q) (dec_lt q p)
    where
      by_cases : Dec (p < q) → Dec (q < p) → p < q
      by_cases (yes b) c = b
      by_cases (no b) (yes c) = let back = order q p j i c k h in absurd (omega (arith, l, back))
      by_cases (no b) (no c) = let same = same_place p q i j (omega (arith, b, c)) h k in absurd (omega (arith, l, same))

  pub not_below : (p q i j : ℕ) → p ≤ q → slice_get r.numbers p ≡ Some i → slice_get r.numbers q ≡ Some j → i ≤ j
  not_below p q i j l h k = by_cases (dec_lt p q)
    where
      by_cases : Dec (p < q) → i ≤ j
      by_cases (yes b) = let less = order p q i j b h k in omega (arith, less)
      by_cases (no b) = let same = same_place p q i j (omega (arith, l, b)) h k in omega (arith, same)
