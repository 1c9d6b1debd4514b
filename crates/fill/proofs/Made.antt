-- The maps that columns make are small enough exactly when the columns are.
use mathlib.Core.Path.{◌≡◌, refl, sym, ◌∙◌}
use mathlib.Core.Bool.{Bool, true, false}
use mathlib.Core.List.{List, []}
use Prim.Native.Nat.{ℕ, ◌≤◌, ◌<◌}
use native.Mathlib.Omega.{arith}
use native.Mathlib.Decide.{dec_lt}
use lib.ListN.{length, get_or, get_or-eq_default}
use Rattle.spec.specs.Split.{Map}
use Rattle.spec.specs.Maps.{share}
use Rattle.fill_theory.specs.GreatestMaps.{maps_of_steps}
use Rattle.fill_theory.specs.Answer.{number_limit, map_at_most, all_at_most}
use Rattle.fill_theory.proofs.Limits.{at_most_at, at_at_most, map_at_most_lem, all_at_most_lem}
use Rattle.fill_theory.proofs.Columns.{maps_counted_lem, maps_share}

module _ (columns : List (List ℕ)) (n : ℕ) where
  abbrev pub made : List Map
  made = maps_of_steps columns 0 n

  pub made_number : (i : ℕ) → i < n → (j : ℕ) → get_or (get_or made i []) j 0 ≡ get_or (get_or columns j []) i 0
  unfolding share
  made_number i h j = maps_share columns n i h (record { 0 = j })

  pub columns_small : ((j : ℕ) → j < length columns → map_at_most number_limit (get_or columns j []) ≡ true) → all_at_most number_limit made ≡ true
  columns_small h = (all_at_most_lem number_limit made).1 (λ i. at_at_most (get_or made i []) (each i (dec_lt i n)))
    where
      in_column : (i j : ℕ) → Dec (j < length columns) → get_or (get_or columns j []) i 0 ≤ number_limit
      in_column i j (yes k) = at_most_at (get_or columns j []) ((map_at_most_lem number_limit (get_or columns j [])).0 (h j k)) i
      in_column i j (no k) = rw (get_or-eq_default columns [] {n = j} (omega (arith, k))) (omega arith)

      each : (i : ℕ) → Dec (i < n) → (j : ℕ) → get_or (get_or made i []) j 0 ≤ number_limit
      each i (yes l) j = rw (made_number i l j) (in_column i j (dec_lt j (length columns)))
      each i (no l) j = rw (get_or-eq_default made [] {n = i} (omega (arith, l, maps_counted_lem columns 0 n))) (omega arith)

  pub column_over : (j : ℕ) → length (get_or columns j []) ≡ n → map_at_most number_limit (get_or columns j []) ≡ false → all_at_most number_limit made ≡ false
  column_over j long over = go (all_at_most number_limit made) refl
    where
      small : all_at_most number_limit made ≡ true → (i : ℕ) → Dec (i < n) → get_or (get_or columns j []) i 0 ≤ number_limit
      small e i (yes l) = rw (← made_number i l j) (at_most_at (get_or made i []) ((all_at_most_lem number_limit made).0 e i) j)
      small e i (no l) = rw (get_or-eq_default (get_or columns j []) 0 {n = i} (omega (arith, l))) (omega arith)

      go : (b : Bool) → all_at_most number_limit made ≡ b → b ≡ false
      go false e = refl
      go true e =
          let fits : map_at_most number_limit (get_or columns j []) ≡ true =
          (map_at_most_lem number_limit (get_or columns j [])).1 (at_at_most (get_or columns j []) (λ i. small e i (dec_lt i n))) in
          sym fits ∙ over
