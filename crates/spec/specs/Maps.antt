-- Maps are compared and added number by number.
use Rattle.std.specs.Prelude.{[], ◌∷◌, Bool, true, false, ℕ, ◌+◌, ◌*◌, eqb, leb, get_or, Option, None, Some}
use Rattle.spec.specs.Choice.{when◌then◌else◌}
use Rattle.spec.specs.Split.{Map}
use Rattle.spec.specs.declared.Location.{Location}

-- the lowest location, counted from i, at which a test of two maps fails; two maps of a sheet are of one length, L
unfoldable pub lowest : (ℕ → ℕ → Bool) → (i : ℕ) → Map → Map → Option ℕ
lowest test i [] [] = None
lowest test i [] (b ∷ n) = Some i
lowest test i (a ∷ m) [] = Some i
lowest test i (a ∷ m) (b ∷ n) = when test a b then lowest test (i + 1) m n else Some i

unfoldable pub at_least : ℕ → ℕ → Bool
at_least a b = leb b a

-- where two maps fail to be equal, where the first fails to be at least the second: `None` says that they are
infix 4 ◌=ᵐ◌ ◌≥ᵐ◌
unfoldable pub ◌=ᵐ◌ : Map → Map → Option ℕ
m =ᵐ n = lowest eqb 0 m n

unfoldable pub ◌≥ᵐ◌ : Map → Map → Option ℕ
m ≥ᵐ n = lowest at_least 0 m n

-- whether nothing is found
unfoldable pub holds_everywhere : Option ℕ → Bool
holds_everywhere None = true
holds_everywhere (Some l) = false

unfoldable pub same_numbers : Map → Map → Bool
same_numbers m n = holds_everywhere (m =ᵐ n)

-- the shorter map ends the sum: never seen, both have L numbers
infixl 60 ◌+ᵐ◌
unfoldable pub ◌+ᵐ◌ : Map → Map → Map
[] +ᵐ n = []
(a ∷ m) +ᵐ [] = []
(a ∷ m) +ᵐ (b ∷ n) = (a + b) ∷ (m +ᵐ n)

-- k times a map
infixl 70 ◌×ᵐ◌
unfoldable pub ◌×ᵐ◌ : ℕ → Map → Map
k ×ᵐ [] = []
k ×ᵐ (a ∷ m) = (k * a) ∷ (k ×ᵐ m)

-- what a map has of a location; past its end, which no location of a sheet is, nothing
unfoldable pub share : Map → Location → ℕ
share m p = get_or m p.0 0

-- where a map has more than the whole, d parts
unfoldable pub over_whole : (d i : ℕ) → Map → Option ℕ
over_whole d i [] = None
over_whole d i (a ∷ m) = when leb a d then over_whole d (i + 1) m else Some i
