-- The posts found at each location, and the maps that they make.
use Rattle.std.proofs.Common.{Option, None, Some}
use mathlib.Core.Path.{◌≡◌, refl, ap, sym, ◌∙◌}
use mathlib.Core.List.{List, [], ◌∷◌}
use Prim.Native.Nat.{ℕ, zero, suc, ◌+◌, ◌<◌}
use native.Mathlib.Omega.{arith}
use lib.ListN.{length, get_or, length-map, get_or-map}
use Rattle.spec.specs.Maps.{share}
use Rattle.spec.specs.declared.Location.{Location}
use Rattle.fill_theory.specs.Found.{◌>>=◌, for_each}
use Rattle.fill_theory.specs.GreatestMaps.{map_of_step, maps_of_steps}
use Rattle.fill_theory.proofs.Found.{some_injective, bind_through, finds_bind}

-- ------------------------------------------------------------------ something for each number

module _ {A : Type 0} (f : ℕ → Option A) (d : A) where
  -- all found, each is the one found for its number
  pub each_found : (l n : ℕ) (all : List A) → for_each f l n ≡ Some all
      → (length all ≡ n) × ((q : ℕ) → q < n → f (l + q) ≡ Some (get_or all q d))
  unfolding for_each
  each_found l zero all h = (ap length (sym (some_injective h)), λ q i. absurd (omega arith))
  each_found l (suc n) all h =
      bind_through _ _ h λ a h₁ h'.
      bind_through _ _ h' λ rest h₂ e.
      let (long, found) = each_found (l + 1) n rest h₂ in
      let shown = some_injective e in
      (ap length (sym shown) ∙ ap suc long, λ q i. rw (← shown) (go a rest h₁ found q i))
    where
      go : (a : A) (rest : List A) → f l ≡ Some a → ((q : ℕ) → q < n → f (l + 1 + q) ≡ Some (get_or rest q d))
          → (q : ℕ) → q < suc n → f (l + q) ≡ Some (get_or (a ∷ rest) q d)
      go a rest h r zero i = let z : l + 0 ≡ l = omega arith in rw z h
      go a rest h r (suc q) i = let z : l + suc q ≡ l + 1 + q = omega arith in rw z (r q (omega arith))

pub find_each : {A : Type 0} (f : ℕ → Option A) (l n : ℕ) → ((q : ℕ) → q < n → (a : A) × (f (l + q) ≡ Some a))
    → (all : List A) × (for_each f l n ≡ Some all)
unfolding for_each
find_each f l zero h = ([], refl)
find_each f l (suc n) h =
    let (a, h₁) = h 0 (omega arith) in
    let z : l + 0 ≡ l = omega arith in
    let (rest, h₂) = find_each f (l + 1) n (λ q i. let s : l + suc q ≡ l + 1 + q = omega arith in rw s at (h (suc q) (omega arith))) in
    (a ∷ rest, finds_bind _ _ (rw z at h₁) (finds_bind _ _ h₂ refl))

-- nothing is found for all where there is none for one
pub miss_one : {A : Type 0} (f : ℕ → Option A) (l n q : ℕ) → q < n → f (l + q) ≡ None → for_each f l n ≡ None
unfolding for_each ◌>>=◌
miss_one f l zero q h e = absurd (omega arith)
miss_one f l (suc n) zero h e = let z : l + 0 ≡ l = omega arith in rw (rw z at e)
miss_one f l (suc n) (suc q) h e =
    let z : l + suc q ≡ l + 1 + q = omega arith in
    rest_missed (f l) (miss_one f (l + 1) n q (omega arith) (rw z at e))
  where
    rest_missed : (o : Option _) → for_each f (l + 1) n ≡ None → (o >>= λ a. for_each f (l + 1) n >>= λ rest. Some (a ∷ rest)) ≡ None
    rest_missed None m = refl
    rest_missed (Some a) m = rw m

-- ------------------------------------------------------------------ the maps of the steps

module _ (columns : List (List ℕ)) where
  map_wide_lem : (i : ℕ) → length (map_of_step columns i) ≡ length columns
  unfolding map_of_step
  map_wide_lem i = simp length-map

  map_at : (i : ℕ) (p : Location) → share (map_of_step columns i) p ≡ get_or (get_or columns p.0 []) i 0
  unfolding map_of_step share
  map_at i p = get_or-map (λ (posts : List ℕ). get_or posts i 0) columns p.0 []

  pub maps_counted_lem : (i n : ℕ) → length (maps_of_steps columns i n) ≡ n
  unfolding maps_of_steps
  maps_counted_lem i zero = refl
  maps_counted_lem i (suc n) = ap suc (maps_counted_lem (i + 1) n)

  maps_at_lem : (i n j : ℕ) → j < n → get_or (maps_of_steps columns i n) j [] ≡ map_of_step columns (i + j)
  unfolding maps_of_steps
  maps_at_lem i zero j l = absurd (omega arith)
  maps_at_lem i (suc n) zero l = let z : i + 0 ≡ i = omega arith in rw z
  maps_at_lem i (suc n) (suc j) l = let z : i + suc j ≡ i + 1 + j = omega arith in rw z (maps_at_lem (i + 1) n j (omega arith))

  pub maps_wide : (n j : ℕ) → j < n → length (get_or (maps_of_steps columns 0 n) j []) ≡ length columns
  maps_wide n j l = rw (maps_at_lem 0 n j l) (map_wide_lem (0 + j))

  pub maps_share : (n j : ℕ) → j < n → (p : Location) → share (get_or (maps_of_steps columns 0 n) j []) p ≡ get_or (get_or columns p.0 []) j 0
  maps_share n j l p = let z : 0 + j ≡ j = omega arith in rw (maps_at_lem 0 n j l, z) (map_at j p)
