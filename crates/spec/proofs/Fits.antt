-- In a split whose numbers are in range, what a type says is of the sheet, whatever number the type is asked for by: its location,
-- and its maps. Where a type has none the first is shown, which every sheet has.
use mathlib.Core.Path.{◌≡◌, refl}
use mathlib.Core.List.{List, [], ◌∷◌}
use Prim.Native.Nat.{ℕ, ◌<◌}
use native.Mathlib.Omega.{arith}
use native.Mathlib.Decide.{dec_lt}
use lib.ListN.{length, get_or, get_or-eq_default}
use Rattle.spec.specs.Program.{Program}
use Rattle.spec.specs.Split.{Split, type_at}
use Rattle.spec.specs.Kinds.{ref_location, maps, first_map, second_map}
use Rattle.spec.specs.Ranges.{AllBelow, InRange}
use Rattle.spec.specs.declared.MapNumber.{MapNumber}
use Rattle.spec.specs.declared.TypeNumber.{TypeNumber}
use Rattle.spec.specs.declared.TypeLine.{TypeLine}
use Rattle.spec.specs.declared.TypeLine.TheVariants.{Int, Ref, Lock, Tid, Sem, Rwlock}

first_of : (n : ℕ) (ms : List MapNumber) → 0 < n → AllBelow n ms → (get_or ms 0 (record { 0 = 0 })).0 < n
first_of n [] some h = some
first_of n (m ∷ ms) some h = h.0

second_of_lem : (n : ℕ) (ms : List MapNumber) → 0 < n → AllBelow n ms → (get_or ms 1 (record { 0 = 0 })).0 < n
second_of_lem n [] some h = some
second_of_lem n (m ∷ ms) some h = first_of n ms some h.1

module _ {P : Program} {S : Split} (R : InRange P S) where
  pub some_map : 0 < length S.maps
  some_map = omega (arith, R.maps_counted, R.maps_few.0)

  -- what holds of int and of each type line of the sheet holds of whatever a number stands for
  of_each_type : (Q : TypeLine → Type 0) → Q Int → ((t : ℕ) → t < length S.types → Q (get_or S.types t Int)) → (t : TypeNumber) → Q (type_at S t)
  unfolding type_at
  of_each_type Q absent each t = by_cases (dec_lt t.0 (length S.types))
    where
      by_cases : Dec (t.0 < length S.types) → Q (get_or S.types t.0 Int)
      by_cases (yes l) = each t.0 l
      by_cases (no l) = rw (get_or-eq_default S.types Int {n = t.0} (omega (arith, l))) absent

  pub maps_fit : (t : TypeNumber) → AllBelow (length S.maps) (maps (type_at S t))
  maps_fit = of_each_type (λ x. AllBelow (length S.maps) (maps x)) tt R.type_maps

  pub first_below : (x : TypeLine) → AllBelow (length S.maps) (maps x) → (first_map x).0 < length S.maps
  unfolding first_map
  first_below x h = first_of (length S.maps) (maps x) some_map h

  pub second_below : (x : TypeLine) → AllBelow (length S.maps) (maps x) → (second_map x).0 < length S.maps
  unfolding second_map
  second_below x h = second_of_lem (length S.maps) (maps x) some_map h

  pub first_fits : (t : TypeNumber) → (first_map (type_at S t)).0 < length S.maps
  first_fits t = first_below (type_at S t) (maps_fit t)

  pub second_fits : (t : TypeNumber) → (second_map (type_at S t)).0 < length S.maps
  second_fits t = second_below (type_at S t) (maps_fit t)

  pub place_fits : (t : TypeNumber) → (ref_location (type_at S t)).0 < S.header.locations
  unfolding ref_location
  place_fits = of_each_type (λ x. (ref_location x).0 < S.header.locations) R.locations.0 (λ t l. of_line t l _ refl)
    where
      of_line : (t : ℕ) → t < length S.types → (x : TypeLine) → get_or S.types t Int ≡ x → (ref_location x).0 < S.header.locations
      of_line t l Int e = R.locations.0
      of_line t l (Ref p c) e = (R.ref_place t p c l e).0
      of_line t l (Lock i o) e = R.locations.0
      of_line t l (Tid k) e = R.locations.0
      of_line t l (Sem k) e = R.locations.0
      of_line t l (Rwlock r w) e = R.locations.0
