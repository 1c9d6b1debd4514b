-- A line of a type and a line of a map, as their readers see them.
use Rattle.std.specs.Prelude.{List, [], ◌∷◌, Bool, ℕ, nat_le, replicate, Option, None, Some}
use Rattle.std.specs.List.{list_all}
use Rattle.spec.specs.Choice.{when◌then◌else◌}
use Rattle.spec.specs.Text.{Field}
use Rattle.spec.specs.Reading.{LineResult, Range, ◌to◌, below, all_in_range, numbers}
use Rattle.spec.specs.Split.{Map, lock_of, out_range, nth_map, nth_type, nth_location}
use Rattle.spec.specs.declared.Header.{Header}
use Rattle.spec.specs.declared.Heading.{Heading}
use Rattle.spec.specs.declared.TypeLine.{TypeLine}
use Rattle.spec.specs.declared.TypeLine.TheVariants as declared_type
use Rattle.keywords.specs.declared.TypeWord.{TypeWord}
use Rattle.keywords.specs.declared.TypeWord.TheVariants as kind

-- ------------------------------------------------------------------ types

-- the ranges of the two numbers of each kind
unfoldable pub type_ranges : TypeWord → Header → (own : ℕ) → List Range
type_ranges kind.Int H own = (0 to 0) ∷ (0 to 0) ∷ []
type_ranges kind.Ref H own = below H.locations ∷ below own ∷ []
type_ranges kind.Lock H own = below H.maps ∷ out_range H.heading H.maps ∷ []
type_ranges kind.Tid H own = below H.maps ∷ (0 to 0) ∷ []
type_ranges kind.Sem H own = below H.maps ∷ (0 to 0) ∷ []
type_ranges kind.Rwlock H own = below H.maps ∷ below H.maps ∷ []

-- the type that they make
unfoldable pub type_made : TypeWord → Heading → List ℕ → TypeLine
type_made kind.Int h ns = declared_type.Int
type_made kind.Ref h ns = declared_type.Ref (nth_location 0 ns) (nth_type 1 ns)
type_made kind.Lock h ns = lock_of h ns
type_made kind.Tid h ns = declared_type.Tid (nth_map 0 ns)
type_made kind.Sem h ns = declared_type.Sem (nth_map 0 ns)
type_made kind.Rwlock h ns = declared_type.Rwlock (nth_map 0 ns) (nth_map 1 ns)

-- a kind with its two numbers, where they are in their ranges
unfoldable pub type_seen : TypeWord → Header → (own : ℕ) → List ℕ → Option TypeLine
type_seen k H own ns = when all_in_range (type_ranges k H own) ns then Some (type_made k H.heading ns) else None

-- ------------------------------------------------------------------ maps

-- the range of each number of a map
unfoldable pub cells : ℕ → List Range
cells n = replicate n (0 to 1000000000)

-- whether no number of a map is larger than a map can have
unfoldable pub cells_fit : List ℕ → Bool
cells_fit m = list_all (λ cell. nat_le cell 1000000000) m

-- a line of so many numbers of a map
unfoldable pub cell_line : ℕ → List Field → LineResult Map
cell_line n fs = numbers (cells n) fs
