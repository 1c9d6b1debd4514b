-- What relations between maps that stand in the work space say of the maps.
use mathlib.Core.Path.{◌≡◌, refl, sym, ◌∙◌}
use mathlib.Core.List.{List, [], ◌∷◌}
use Prim.Native.Nat.{ℕ, ◌+◌}
use lib.Dec.{eqb}
use Rattle.spec.specs.Split.{Map, Split}
use Rattle.spec.specs.Maps.{lowest, ◌=ᵐ◌, ◌≥ᵐ◌, ◌+ᵐ◌, ◌×ᵐ◌, over_whole}
use Rattle.spec.proofs.Tests.{eqb_sym}
use Rattle.spec.specs.declared.MapNumber.{MapNumber}
use Rattle.workspace.specs.Layout.{map_in}
use Rattle.workspace.proofs.Shown.{Stands}
use Rattle.conditions.specs.Relation.{held, asked, fails_from, fails}
use Rattle.conditions.specs.declared.Relation.TheVariants.{Equal, AtLeast, Covers, Sum, Within}
use Rattle.conditions.proofs.Relations.{held_whole}

-- equality of maps may be asked either way round
equal_sym : (i : ℕ) (m n : Map) → lowest eqb i m n ≡ lowest eqb i n m
unfolding lowest
equal_sym i [] [] = refl
equal_sym i [] (b ∷ n) = refl
equal_sym i (a ∷ m) [] = refl
equal_sym i (a ∷ m) (b ∷ n) = rw (eqb_sym a b, equal_sym (i + 1) m n)

-- a map that stands in the work space is asked about at every location
held_all : {w : List ℕ} {S : Split} {m : MapNumber} {x : Map} → Stands w S m x → held w m S.header.locations ≡ S.header.locations
held_all {w} p = sym (held_whole w _ _ p.fits)

-- in a sheet of n locations
module _ {w : List ℕ} {S : Split} {n : ℕ} (located : n ≡ S.header.locations) where
  pub within_shown : {a : MapNumber} {x : Map} → Stands w S a x → (d : ℕ) → fails w n (Within a d) ≡ over_whole d 0 x
  unfolding map_in fails asked fails_from
  within_shown p d = rw (located, held_all p, p.is)

  module _ {a b : MapNumber} {x y : Map} (p : Stands w S a x) (q : Stands w S b y) where
    pub equal_shown : fails w n (Equal a b) ≡ (x =ᵐ y)
    unfolding map_in fails asked fails_from ◌=ᵐ◌
    equal_shown = rw (located, held_all q, held_all p, p.is, q.is)

    pub at_least_shown : fails w n (AtLeast a b) ≡ (x ≥ᵐ y)
    unfolding map_in fails asked fails_from ◌≥ᵐ◌
    at_least_shown = rw (located, held_all q, held_all p, p.is, q.is)

    pub covers_shown : (k : ℕ) → fails w n (Covers a k b) ≡ (x ≥ᵐ k ×ᵐ y)
    unfolding map_in fails asked fails_from ◌≥ᵐ◌
    covers_shown k = rw (located, held_all q, held_all p, p.is, q.is)

    module _ {c : MapNumber} {z : Map} (r : Stands w S c z) where
      pub sum_shown : fails w n (Sum a b c) ≡ (x +ᵐ y =ᵐ z)
      unfolding map_in fails asked fails_from ◌=ᵐ◌
      sum_shown = rw (located, held_all r, held_all q, held_all p, p.is, q.is, r.is)

      pub is_sum_shown : fails w n (Sum a b c) ≡ (z =ᵐ x +ᵐ y)
      unfolding ◌=ᵐ◌
      is_sum_shown = sum_shown ∙ equal_sym 0 (x +ᵐ y) z
