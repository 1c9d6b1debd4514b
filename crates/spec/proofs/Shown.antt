-- What a var line may show: a type that agrees with that of its let's value, or of a lock one that gives no more and takes no less.
use mathlib.Core.Path.{◌≡◌, refl}
use mathlib.Core.Bool.{Bool, true, false, ◌&&◌}
use mathlib.Core.Logic.{◌↔◌}
use Rattle.spec.specs.Choice.{when◌then◌else◌}
use Rattle.spec.specs.Split.{Split, type_at, map_at}
use Rattle.spec.specs.Maps.{◌≥ᵐ◌, holds_everywhere}
use Rattle.spec.specs.Figure5.{◌⊒◌}
use Rattle.spec.specs.Agreement.{agree}
use Rattle.spec.specs.Kinds.{lock, is, second_map}
use Rattle.spec.specs.Conditions.{looser_lock, may_show}
use Rattle.spec.specs.declared.TypeNumber.{TypeNumber}
use Rattle.spec.specs.declared.MapNumber.{MapNumber}
use Rattle.spec.specs.declared.TypeLine.TheVariants as declared_type
use Rattle.spec.proofs.Tests.{both_true}
use Rattle.spec.proofs.Maps.{nowhere_none, none_nowhere, none_covers, covers_none, covers_itself}
use Rattle.spec.proofs.TypeKinds.{is_of, of_is, first_told, second_told}
use Rattle.spec.proofs.Agreement.{agree_reflexive, locks_same_maps}

module _ (S : Split) where
  -- the type t, shown of a value of the type u
  pub data Shown (t u : TypeNumber) : Type 0 where
    agreeing : agree S t u ≡ true → Shown t u
    looser : {i o j p : MapNumber} → type_at S t ≡ declared_type.Lock i o → type_at S u ≡ declared_type.Lock j p
        → map_at S j ⊒ map_at S i → map_at S o ⊒ map_at S p → Shown t u

  locks_show : (t u : TypeNumber) → is lock (type_at S t) ≡ true → is lock (type_at S u) ≡ true → looser_lock S (type_at S t) (type_at S u) ≡ true → Shown t u
  unfolding looser_lock
  locks_show t u x y h =
      let (first, second) = both_true _ (holds_everywhere (map_at S (second_map (type_at S t)) ≥ᵐ map_at S (second_map (type_at S u)))) h in
      looser (is_of lock _ x) (is_of lock _ y) (none_covers (nowhere_none _ first)) (none_covers (nowhere_none _ second))

  may_show_lem : (t u : TypeNumber) → may_show S t u ≡ true → Shown t u
  unfolding may_show
  may_show_lem t u h = by_kind (is lock (type_at S t) && is lock (type_at S u)) refl h
    where
      by_kind : (b : Bool) → (is lock (type_at S t) && is lock (type_at S u)) ≡ b
          → (when b then looser_lock S (type_at S t) (type_at S u) else agree S t u) ≡ true → Shown t u
      by_kind true k h = let (x, y) = both_true _ _ k in locks_show t u x y h
      by_kind false k h = agreeing h

  looser_locks : (t u : TypeNumber) {i o j p : MapNumber} → type_at S t ≡ declared_type.Lock i o → type_at S u ≡ declared_type.Lock j p
      → map_at S j ⊒ map_at S i → map_at S o ⊒ map_at S p → looser_lock S (type_at S t) (type_at S u) ≡ true
  unfolding looser_lock
  looser_locks t u {i} {o} {j} {p} x y gives takes =
      rw (first_told S x, first_told S y, second_told S x, second_told S y, none_nowhere (map_at S j ≥ᵐ map_at S i) (covers_none gives))
      (none_nowhere (map_at S o ≥ᵐ map_at S p) (covers_none takes))

  shown_may : (t u : TypeNumber) → Shown t u → may_show S t u ≡ true
  unfolding may_show
  shown_may t u (looser x y gives takes) = rw (of_is x, of_is y) (looser_locks t u x y gives takes)
  shown_may t u (agreeing h) = by_kind (is lock (type_at S t) && is lock (type_at S u)) refl
    where
      by_kind : (b : Bool) → (is lock (type_at S t) && is lock (type_at S u)) ≡ b
          → (when b then looser_lock S (type_at S t) (type_at S u) else agree S t u) ≡ true
      by_kind false k = h
      by_kind true k =
          let (x, y) = both_true _ _ k in
          let (first, second) = locks_same_maps S t u (is_of lock _ x) (is_of lock _ y) h in
          looser_locks t u (is_of lock _ x) (is_of lock _ y) (rw first (covers_itself _)) (rw second (covers_itself _))

  pub may_show_exactly : (t u : TypeNumber) → may_show S t u ≡ true ↔ Shown t u
  may_show_exactly t u = (may_show_lem t u, shown_may t u)

  -- "Pairs accepted before remain accepted": what agrees may be shown
  pub may_show_itself : (t : TypeNumber) → may_show S t t ≡ true
  may_show_itself t = shown_may t t (agreeing (agree_reflexive S t))
