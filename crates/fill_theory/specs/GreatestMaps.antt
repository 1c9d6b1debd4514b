-- The pass at each location, and the maps that its posts make. proofs/Filling.antt shows that these are the greatest after-maps.
use Rattle.std.specs.Prelude.{List, [], ◌∷◌, map, ℕ, zero, suc, ◌+◌, length, get_or, Option, Some}
use Rattle.spec.specs.Program.{Program}
use Rattle.spec.specs.Split.{Map, Split}
use Rattle.spec.specs.declared.Location.{Location}
use Rattle.fill_theory.specs.Found.{◌>>=◌, for_each}
use Rattle.fill_theory.specs.Pass.{posts_of_roots}
use Rattle.fill_theory.specs.FlowOf.{roots_of}

-- the greatest posts of all steps at location l
unfoldable pub posts_at : Program → Split → (l : ℕ) → Option (List ℕ)
posts_at P S l = let here : Location = record { 0 = l } in posts_of_roots (roots_of S here P)

-- the map of step i, from the posts at each location
unfoldable pub map_of_step : (columns : List (List ℕ)) → (i : ℕ) → Map
map_of_step columns i = map (λ (posts : List ℕ). get_or posts i 0) columns

-- the maps of n steps from step i on
unfoldable pub maps_of_steps : (columns : List (List ℕ)) → (i n : ℕ) → List Map
maps_of_steps columns i zero = []
maps_of_steps columns i (suc n) = map_of_step columns i ∷ maps_of_steps columns (i + 1) n

unfoldable pub greatest_maps : Program → Split → Option (List Map)
greatest_maps P S = do
  columns ← for_each (posts_at P S) 0 S.header.locations
  Some (maps_of_steps columns 0 (length P.steps))
