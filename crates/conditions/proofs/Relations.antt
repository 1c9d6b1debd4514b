-- A relation between maps, one location at a time, as the loops over locations go through them.
use Rattle.std.proofs.Common.{None, Some}
use mathlib.Core.Path.{◌≡◌, refl, sym}
use mathlib.Core.Bool.{Bool, true, false}
use mathlib.Core.List.{List}
use Prim.Native.Nat.{ℕ, zero, suc, ◌+◌, ◌*◌, ◌-◌, ◌<◌, ◌≤◌}
use native.Mathlib.Omega.{arith}
use lib.Dec.{leb}
use lib.ListN.{length}
use borrow.Author.Tests.{eqb-true, eq-eqb, le-leb, leb-true}
use Rattle.spec.specs.Choice.{when◌then◌else◌}
use Rattle.spec.specs.Maps.{lowest, at_least, ◌+ᵐ◌, ◌×ᵐ◌, over_whole}
use Rattle.spec.specs.declared.MapNumber.{MapNumber}
use Rattle.spec.proofs.Clashes.{true_is_not_false}
use Rattle.workspace.specs.Layout.{maps_at, stride, map_cell, map_from}
use Rattle.conditions.specs.Relation.{HasCell, HasCells, holds_at, held, asked, of_itself, fails_from, fails}
use Rattle.conditions.specs.declared.Relation.{Relation}
use Rattle.conditions.specs.declared.Relation.TheVariants.{Equal, AtLeast, Covers, Sum, Within}

-- what is left from location l of n on begins with l
left : (l n : ℕ) → l < n → n - l ≡ suc (n - (l + 1))
left l n h = omega arith

module _ (w : List ℕ) where
  one_more : (r : Relation) (l n : ℕ)
      → fails_from w r l (suc n) ≡ (when holds_at w r l then fails_from w r (l + 1) n else Some l)
  unfolding fails_from holds_at map_from lowest at_least ◌+ᵐ◌ ◌×ᵐ◌ over_whole
  one_more (Equal a b) l n = refl
  one_more (AtLeast a b) l n = refl
  one_more (Covers a k b) l n = refl
  one_more (Sum a b c) l n = refl
  one_more (Within a d) l n = refl

  at_end_lem : (r : Relation) (l : ℕ) → fails_from w r l 0 ≡ None
  unfolding fails_from map_from lowest ◌+ᵐ◌ ◌×ᵐ◌ over_whole
  at_end_lem (Equal a b) l = refl
  at_end_lem (AtLeast a b) l = refl
  at_end_lem (Covers a k b) l = refl
  at_end_lem (Sum a b c) l = refl
  at_end_lem (Within a d) l = refl

  module _ (r : Relation) (l n : ℕ) where
    pub fails_later : l < n → holds_at w r l ≡ true → fails_from w r l (n - l) ≡ fails_from w r (l + 1) (n - (l + 1))
    fails_later h e = rw (left l n h, one_more r l (n - (l + 1)), e)

    pub fails_here : l < n → holds_at w r l ≡ false → fails_from w r l (n - l) ≡ Some l
    fails_here h e = rw (left l n h, one_more r l (n - (l + 1)), e)

    pub fails_nowhere : n ≤ l → fails_from w r l (n - l) ≡ None
    fails_nowhere h =
        let none_left : n - l ≡ 0 = omega arith in
        rw (none_left, at_end_lem r l)

  cell_of_one : (a b : MapNumber) (l : ℕ) → a.0 ≡ b.0 → map_cell w a l ≡ map_cell w b l
  unfolding map_cell
  cell_of_one a b l e = rw e

  -- a map and itself
  itself_holds : (r : Relation) → of_itself r ≡ true → (l : ℕ) → holds_at w r l ≡ true
  unfolding of_itself holds_at
  itself_holds (Equal a b) e l = eq-eqb (map_cell w a l) (map_cell w b l) (cell_of_one a b l (eqb-true a.0 b.0 e))
  itself_holds (AtLeast a b) e l =
      let one = cell_of_one a b l (eqb-true a.0 b.0 e) in
      le-leb (map_cell w b l) (map_cell w a l) (omega arith)
  itself_holds (Covers a k b) e l = true_is_not_false (sym e)
  itself_holds (Sum a b c) e l = true_is_not_false (sym e)
  itself_holds (Within a d) e l = true_is_not_false (sym e)

  itself_nowhere : (r : Relation) → of_itself r ≡ true → (l n : ℕ) → fails_from w r l n ≡ None
  itself_nowhere r e l zero = at_end_lem r l
  itself_nowhere r e l (suc n) = rw (one_more r l n, itself_holds r e l) (itself_nowhere r e (l + 1) n)

  pub itself_fails_nowhere : (r : Relation) → of_itself r ≡ true → (n : ℕ) → fails w n r ≡ None
  unfolding fails
  itself_fails_nowhere r e n = itself_nowhere r e 0 (asked w r n)

  -- ---------------------------------------------------------------- what the work space has of the maps

  pub held_whole : (m : MapNumber) (n : ℕ) → maps_at + stride * m.0 + n ≤ length w → n ≡ held w m n
  unfolding held
  held_whole m n h = rw (le-leb _ _ h)

  held_within : (m : MapNumber) (l n : ℕ) → l < held w m n → (l < n) × HasCell w m l
  unfolding held
  held_within m l n = either (leb (maps_at + stride * m.0 + n) (length w)) refl
    where
      either : (b : Bool) → leb (maps_at + stride * m.0 + n) (length w) ≡ b → l < (when b then n else 0) → (l < n) × HasCell w m l
      either true e h =
          let below : l < n = h in
          (below, omega (arith, leb-true (maps_at + stride * m.0 + n) (length w) e))
      either false e h =
          let none_below : l < 0 = h in
          absurd (omega arith)

  two : (a b : MapNumber) (l n : ℕ) → l < held w a (held w b n) → (l < n) × (HasCell w a l × HasCell w b l)
  two a b l n h =
      let x = held_within a l _ h in
      let y = held_within b l n x.0 in
      (y.0, (x.1, y.1))

  within : (r : Relation) (l n : ℕ) → l < asked w r n → (l < n) × HasCells w r l
  unfolding asked HasCells
  within (Equal a b) l n h = two a b l n h
  within (AtLeast a b) l n h = two a b l n h
  within (Covers a k b) l n h = two a b l n h
  within (Sum a b c) l n h =
      let x = held_within a l _ h in
      let y = two b c l n x.0 in
      (y.0, (x.1, y.1.0, y.1.1))
  within (Within a d) l n h = held_within a l n h

  pub asked_within : (r : Relation) (l n k : ℕ) → k ≡ asked w r n → l < k → HasCells w r l
  asked_within r l n k e h = (within r l n (omega (arith, e, h))).1
