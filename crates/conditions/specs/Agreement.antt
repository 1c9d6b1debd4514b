-- Agreement of types and loads of locks, by what the work space w holds of types and of maps of n locations. proofs/Agreement.antt shows that it
-- is document 02's for the split that the work space holds.
use Rattle.std.specs.Prelude.{Bool, true, false, ◌&&◌, List, [], ◌∷◌, ℕ, zero, suc, eqb, ltb}
use Rattle.spec.specs.Choice.{when◌then◌else◌}
use Rattle.spec.specs.Kinds.{ref, lock, kind_of, is, ref_location, content, maps, first_map, second_map}
use Rattle.spec.specs.declared.MapNumber.{MapNumber}
use Rattle.spec.specs.declared.TypeNumber.{TypeNumber}
use Rattle.spec.specs.declared.TypeLine.{TypeLine}
use Rattle.workspace.specs.Layout.{type_at}
use Rattle.conditions.specs.Relation as relation
use Rattle.conditions.specs.declared.Relation.{Relation}
use Rattle.conditions.specs.declared.Relation.TheVariants.{Equal, AtLeast}

module _ (w : List ℕ) (n : ℕ) where
  -- at each location
  abbrev everywhere : Relation → Bool
  everywhere = relation.everywhere w n

  -- maps that hold equal numbers, one by one
  unfoldable pub maps_agree : List MapNumber → List MapNumber → Bool
  maps_agree [] [] = true
  maps_agree [] (m ∷ ms) = false
  maps_agree (k ∷ ks) [] = false
  maps_agree (k ∷ ks) (m ∷ ms) = everywhere (Equal k m) && maps_agree ks ms

  -- the types of two lines agree; `contents` says which contents do
  unfoldable pub lines_agree : (contents : TypeNumber → TypeNumber → Bool) → TypeLine → TypeLine → Bool
  lines_agree contents x y =
      is (kind_of x) y
      && (when is ref x
      then eqb (ref_location x).0 (ref_location y).0 && contents (content x) (content y)
      else maps_agree (maps x) (maps y))

  -- a type numbered below the bound agrees with another: with itself, and else as the lines say. A content agrees only if it is
  -- numbered below its ref, as each is in a sheet.
  unfoldable pub agree_below : (bound : ℕ) → TypeNumber → TypeNumber → Bool
  agree_below zero t u = false
  agree_below (suc bound) t u =
      when eqb t.0 u.0
      then true
      else lines_agree (λ c d. ltb c.0 t.0 && agree_below bound c d) (type_at w t) (type_at w u)

  unfoldable pub agree_in : TypeNumber → TypeNumber → Bool
  agree_in t u = agree_below (suc t.0) t u

  -- what a var line may show of the type of its let's value
  unfoldable pub may_show_in : (shown own : TypeNumber) → Bool
  may_show_in t u =
      let x = type_at w t in
      let y = type_at w u in
      when is lock x && is lock y
      then everywhere (AtLeast (first_map y) (first_map x)) && everywhere (AtLeast (second_map x) (second_map y))
      else agree_in t u

  -- 44: out of a lock type is nowhere below in
  unfoldable pub takes_enough_in : TypeLine → Bool
  takes_enough_in x = when is lock x then everywhere (AtLeast (second_map x) (first_map x)) else true
