-- Relations between maps that stand in the work space, location by location, and access to one location.
use Rattle.std.specs.Prelude.{Bool, false, List, ℕ, ◌+◌, ◌*◌, ◌<◌, eqb, leb, length, Option}
use Rattle.spec.specs.Choice.{when◌then◌else◌}
use Rattle.spec.specs.Maps.{lowest, at_least, ◌+ᵐ◌, ◌×ᵐ◌, over_whole, holds_everywhere}
use Rattle.spec.specs.Conditions.{Condition, A}
use Rattle.spec.specs.declared.Location.{Location}
use Rattle.spec.specs.declared.MapNumber.{MapNumber}
use Rattle.workspace.specs.Layout.{maps_at, stride, map_cell, map_from}
use Rattle.conditions.specs.declared.Relation.{Relation}
use Rattle.conditions.specs.declared.Relation.TheVariants.{Equal, AtLeast, Covers, Sum, Within}

-- whether a relation holds at a location
unfoldable pub holds_at : (w : List ℕ) → Relation → (l : ℕ) → Bool
holds_at w (Equal a b) l = eqb (map_cell w a l) (map_cell w b l)
holds_at w (AtLeast a b) l = leb (map_cell w b l) (map_cell w a l)
holds_at w (Covers a k b) l = leb (k * map_cell w b l) (map_cell w a l)
holds_at w (Sum a b c) l = eqb (map_cell w a l + map_cell w b l) (map_cell w c l)
holds_at w (Within a d) l = leb (map_cell w a l) d

-- the work space has a number of a map, and those of a relation
abbrev pub HasCell : (w : List ℕ) → MapNumber → (l : ℕ) → Type 0
HasCell w m l = maps_at + stride * m.0 + l < length w

unfoldable pub HasCells : (w : List ℕ) → Relation → (l : ℕ) → Type 0
HasCells w (Equal a b) l = HasCell w a l × HasCell w b l
HasCells w (AtLeast a b) l = HasCell w a l × HasCell w b l
HasCells w (Covers a k b) l = HasCell w a l × HasCell w b l
HasCells w (Sum a b c) l = HasCell w a l × HasCell w b l × HasCell w c l
HasCells w (Within a d) l = HasCell w a l

-- the lowest of n locations from l on at which a relation fails
unfoldable pub fails_from : (w : List ℕ) → Relation → (l n : ℕ) → Option ℕ
fails_from w (Equal a b) l n = lowest eqb l (map_from w a l n) (map_from w b l n)
fails_from w (AtLeast a b) l n = lowest at_least l (map_from w a l n) (map_from w b l n)
fails_from w (Covers a k b) l n = lowest at_least l (map_from w a l n) (k ×ᵐ map_from w b l n)
fails_from w (Sum a b c) l n = lowest eqb l (map_from w a l n +ᵐ map_from w b l n) (map_from w c l n)
fails_from w (Within a d) l n = over_whole d l (map_from w a l n)

-- how many of n locations a map is asked about: all of them if the work space has as many of its numbers, and else none
unfoldable pub held : (w : List ℕ) → MapNumber → (n : ℕ) → ℕ
held w m n = when leb (maps_at + stride * m.0 + n) (length w) then n else 0

-- how many of n locations a relation is asked about
unfoldable pub asked : (w : List ℕ) → Relation → (n : ℕ) → ℕ
asked w (Equal a b) n = held w a (held w b n)
asked w (AtLeast a b) n = held w a (held w b n)
asked w (Covers a k b) n = held w a (held w b n)
asked w (Sum a b c) n = held w a (held w b (held w c n))
asked w (Within a d) n = held w a n

-- the lowest of n locations at which a relation fails
unfoldable pub fails : (w : List ℕ) (n : ℕ) → Relation → Option ℕ
fails w n r = fails_from w r 0 (asked w r n)

-- whether a relation that each map has to itself is asked of a map and itself
unfoldable pub of_itself : Relation → Bool
of_itself (Equal a b) = eqb a.0 b.0
of_itself (AtLeast a b) = eqb a.0 b.0
of_itself (Covers a k b) = false
of_itself (Sum a b c) = false
of_itself (Within a d) = false

-- whether a relation holds at each of n locations
unfoldable pub everywhere : (w : List ℕ) (n : ℕ) → Relation → Bool
everywhere w n r = holds_everywhere (fails w n r)

-- a map has at least so much of a location
abbrev pub has_at_least : (w : List ℕ) → MapNumber → Location → (least : ℕ) → Condition
has_at_least w m p least = A (leb least (map_cell w m p.0)) p
