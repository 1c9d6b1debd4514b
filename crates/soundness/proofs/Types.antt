-- The type of the calculus that a type's number stands for.
use Rattle.std.proofs.Common.{Some}
use mathlib.Core.Path.{◌≡◌, sym, ap, subst, ◌∙◌}
use mathlib.Core.List.{[], ◌∷◌, map}
use mathlib.Core.Bool.{true}
use Prim.Native.Nat.{ℕ}
use native.Mathlib.Omega.{arith}
use native.Mathlib.Decide.{ℕ_discrete}
use lib.Dec.{eqb}
use lib.ListN.{length, get_or}
use borrow.Author.Tests.{eq-eqb, ne_eqb}
use Rattle.spec.specs.Choice.{when◌then◌else◌}
use Rattle.spec.specs.Expression.{among}
use Rattle.spec.specs.Program.{Program}
use Rattle.spec.specs.Split.{Split}
use Rattle.spec.specs.Conditions.{type_in, type_at, map_at, may_show}
use Rattle.spec.specs.Conditions as conditions
use Rattle.spec.specs.Kinds.{int, ref, lock, tid, sem, rwlock, same_kind, is, ref_location, content, maps}
use Rattle.spec.specs.Agreement.{Tree, plain, ref_to, tree_of, tree, agree}
use Rattle.spec.specs.Ranges.{AllBelow, InRange}
use Rattle.spec.specs.declared.TypeNumber.{TypeNumber}
use Rattle.spec.specs.declared.MapNumber.{MapNumber}
use Rattle.spec.specs.declared.Location.{Location}
use Rattle.spec.specs.declared.TypeLine.{TypeLine}
use Rattle.spec.specs.declared.TypeLine.TheVariants as declared_type
use Rattle.spec.proofs.Fits.{maps_fit}
use Rattle.spec.proofs.Wide.{map_wide_lem}
use Rattle.spec.proofs.Agreement.{agree_same_tree, tree_of_type}
use Rattle.spec.proofs.Shown.{Shown, agreeing, looser, may_show_exactly}
use Rattle.calculus.specs.Expression.{choose}
use Rattle.calculus.specs.Figure5.{Ty, int_type, ref_type, lock_type, tid_type, sem_type, rwlock_type, ◌<:◌, as_it_is, looser as looser_lock, Env, empty, bind}
use Rattle.soundness.proofs.Capabilities.{cap, covers_cap}

-- the type of the calculus that a tree is: its maps as capabilities. No type is a ref without a content.
meaning : Tree → Ty
meaning (plain int ms) = int_type
meaning (plain ref ms) = int_type
meaning (plain lock ms) = lock_type (cap (get_or ms 0 [])) (cap (get_or ms 1 []))
meaning (plain tid ms) = tid_type (cap (get_or ms 0 []))
meaning (plain sem ms) = sem_type (cap (get_or ms 0 []))
meaning (plain rwlock ms) = rwlock_type (cap (get_or ms 0 [])) (cap (get_or ms 1 []))
meaning (ref_to p c) = ref_type p.0 (meaning c)

module _ (S : Split) where
  pub means : TypeNumber → Ty
  means t = meaning (tree S t)

  -- types that agree are one type of the calculus: they are the same tree
  pub agree_means : (t u : TypeNumber) → agree S t u ≡ true → means t ≡ means u
  unfolding means
  agree_means t u h = ap meaning ((agree_same_tree S t u).0 h)

  -- the types of the variables in scope, as trees
  abbrev pub environment : conditions.Env → Env
  environment [] = empty
  environment (b ∷ Γ) = bind (environment Γ) b.0 (means b.1)

module _ {P : Program} (S : Split) (R : InRange P S) where
  pub means_int : (t : TypeNumber) → type_at S t ≡ declared_type.Int → means S t ≡ int_type
  unfolding means meaning tree_of is same_kind
  means_int t e = ap meaning (tree_of_type S R t declared_type.Int e)

  pub means_lock : (t : TypeNumber) (i o : MapNumber) → type_at S t ≡ declared_type.Lock i o → means S t ≡ lock_type (cap (map_at S i)) (cap (map_at S o))
  unfolding means meaning tree_of is same_kind
  means_lock t i o e = ap meaning (tree_of_type S R t (declared_type.Lock i o) e)

  pub means_tid : (t : TypeNumber) (k : MapNumber) → type_at S t ≡ declared_type.Tid k → means S t ≡ tid_type (cap (map_at S k))
  unfolding means meaning tree_of is same_kind
  means_tid t k e = ap meaning (tree_of_type S R t (declared_type.Tid k) e)

  pub means_sem : (t : TypeNumber) (k : MapNumber) → type_at S t ≡ declared_type.Sem k → means S t ≡ sem_type (cap (map_at S k))
  unfolding means meaning tree_of is same_kind
  means_sem t k e = ap meaning (tree_of_type S R t (declared_type.Sem k) e)

  pub means_rwlock : (t : TypeNumber) (r w : MapNumber) → type_at S t ≡ declared_type.Rwlock r w → means S t ≡ rwlock_type (cap (map_at S r)) (cap (map_at S w))
  unfolding means meaning tree_of is same_kind
  means_rwlock t r w e = ap meaning (tree_of_type S R t (declared_type.Rwlock r w) e)

  -- what a var line may show is what a variable may be shown as
  pub shown_means : (t u : TypeNumber) → may_show S t u ≡ true → means S u <: means S t
  shown_means t u h = by_cases ((may_show_exactly S t u).0 h)
    where
      by_cases : Shown S t u → means S u <: means S t
      by_cases (agreeing a) = rw (agree_means S t u a) as_it_is
      by_cases (looser {i = i} {o = o} {j = j} {p = p} x y gives takes) =
          rw (means_lock t i o x, means_lock u j p y) (looser_lock (covers_cap gives) (covers_cap takes))

  -- a ref to a type that agrees with its content
  pub means_ref : (t : TypeNumber) (p : Location) (c u : TypeNumber) → type_at S t ≡ declared_type.Ref p c → agree S c u ≡ true
      → means S t ≡ ref_type p.0 (means S u)
  unfolding means meaning tree_of tree is same_kind ref_location content
  means_ref t p c u e h = ap meaning (tree_of_type S R t (declared_type.Ref p c) e) ∙ ap (ref_type p.0) (agree_means S c u h)

  -- ------------------------------------------------------------------ every map has every location

  -- the maps of a type's line are of the sheet
  loads : (t : TypeNumber) (x : TypeLine) → type_at S t ≡ x → AllBelow (length S.maps) (maps x)
  loads t x e = subst (λ y. AllBelow (length S.maps) (maps y)) e (maps_fit R t)

  pub lock_wide : (t : TypeNumber) (i o : MapNumber) → type_at S t ≡ declared_type.Lock i o
      → (length (map_at S i) ≡ S.header.locations) × (length (map_at S o) ≡ S.header.locations)
  lock_wide t i o e = let (first, (second, none_left)) = loads t (declared_type.Lock i o) e in (map_wide_lem R i first, map_wide_lem R o second)

  pub tid_wide : (t : TypeNumber) (k : MapNumber) → type_at S t ≡ declared_type.Tid k → length (map_at S k) ≡ S.header.locations
  tid_wide t k e = map_wide_lem R k (loads t (declared_type.Tid k) e).0

  pub sem_wide : (t : TypeNumber) (k : MapNumber) → type_at S t ≡ declared_type.Sem k → length (map_at S k) ≡ S.header.locations
  sem_wide t k e = map_wide_lem R k (loads t (declared_type.Sem k) e).0

  pub rwlock_wide : (t : TypeNumber) (r w : MapNumber) → type_at S t ≡ declared_type.Rwlock r w
      → (length (map_at S r) ≡ S.header.locations) × (length (map_at S w) ≡ S.header.locations)
  rwlock_wide t r w e = let (first, (second, none_left)) = loads t (declared_type.Rwlock r w) e in (map_wide_lem R r first, map_wide_lem R w second)

  -- ------------------------------------------------------------------ variables

  -- the type of a variable in scope
  pub variable_typed : (Γ : conditions.Env) (v : ℕ) → among v (map (λ b. b.0) Γ) ≡ true → environment S Γ v ≡ Some (means S (type_in Γ v))
  unfolding among type_in
  variable_typed [] v h = let clash : ◌≡◌ {A = ℕ} 0 1 = cc in absurd (omega arith)
  variable_typed (b ∷ Γ) v h = by_cases (λ k. variable_typed Γ v k) (ℕ_discrete v b.0)
    where
      by_cases : (among v (map (λ c. c.0) Γ) ≡ true → environment S Γ v ≡ Some (means S (type_in Γ v))) → (d : Dec (v ≡ b.0)) → choose d (Some (means S b.1)) (environment S Γ v) ≡ Some (means S (when eqb b.0 v then b.1 else type_in Γ v))
      by_cases others (yes e) = rw (eq-eqb b.0 v (sym e))
      by_cases others (no n) = rw (ne_eqb b.0 v (λ e. n (sym e))) (others (rw (ne_eqb v b.0 n) at h))
