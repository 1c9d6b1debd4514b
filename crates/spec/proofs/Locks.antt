-- 44 is passed exactly when the out of each lock line is nowhere below its in.
use Rattle.std.proofs.Common.{Ok}
use mathlib.Core.Path.{◌≡◌, refl}
use mathlib.Core.List.{List, [], ◌∷◌}
use mathlib.Core.Bool.{Bool, true, false}
use Prim.Native.Nat.{ℕ, zero, suc, ◌+◌}
use native.Mathlib.Omega.{arith}
use lib.ListN.{get_or}
use Rattle.spec.specs.Choice.{when◌then◌else◌}
use Rattle.spec.specs.Split.{Split, type_at, map_at}
use Rattle.spec.specs.Maps.{◌≥ᵐ◌, holds_everywhere}
use Rattle.spec.specs.Kinds.{lock, same_kind, is, first_map, second_map}
use Rattle.spec.specs.Figure5.{◌⊒◌}
use Rattle.spec.specs.Accepted.{LocksTakeEnough}
use Rattle.spec.specs.Verdict.{takes_enough, all_take_enough, locks_take_enough}
use Rattle.spec.specs.declared.MapNumber.{MapNumber}
use Rattle.spec.specs.declared.TypeLine.{TypeLine}
use Rattle.spec.specs.declared.TypeLine.TheVariants as declared_type
use Rattle.spec.specs.declared.Refusal.TheVariants.{LockTakesLess}
use Rattle.spec.proofs.Outcomes.{bind_goes_on, goes_on_bind, demand_goes_on, goes_on_demand}
use Rattle.spec.proofs.TypeKinds.{is_of}
use Rattle.spec.proofs.Maps.{nowhere_none, none_nowhere, none_covers, covers_none}

module _ (S : Split) where
  -- of one line
  abbrev Enough : TypeLine → Type 0
  Enough x = (i o : MapNumber) → x ≡ declared_type.Lock i o → map_at S o ⊒ map_at S i

  line_enough : (x : TypeLine) → takes_enough S x ≡ true → Enough x
  unfolding takes_enough is same_kind first_map second_map
  line_enough x h i o e = none_covers (nowhere_none (map_at S o ≥ᵐ map_at S i) (rw e at h))

  enough_line : (x : TypeLine) → Enough x → takes_enough S x ≡ true
  unfolding takes_enough
  enough_line x h = by_kind (is lock x) refl
    where
      by_kind : (b : Bool) → is lock x ≡ b → (when b then holds_everywhere (map_at S (second_map x) ≥ᵐ map_at S (first_map x)) else true) ≡ true
      by_kind true e = none_nowhere (map_at S (second_map x) ≥ᵐ map_at S (first_map x)) (covers_none (h (first_map x) (second_map x) (is_of lock x e)))
      by_kind false e = refl

  all_enough : {t : Unit {0}} (k : ℕ) (xs : List TypeLine) → all_take_enough S k xs ≡ Ok t → (n : ℕ) → Enough (get_or xs n declared_type.Int)
  unfolding all_take_enough
  all_enough k [] h n = λ i o e. let clash : ◌≡◌ {A = ℕ} 0 1 = cc in absurd (omega arith)
  all_enough k (x ∷ xs) h zero = line_enough x (demand_goes_on _ _ (bind_goes_on _ _ h).1)
  all_enough k (x ∷ xs) h (suc n) = all_enough (k + 1) xs (bind_goes_on _ _ h).2 n

  enough_all : (k : ℕ) (xs : List TypeLine) → ((n : ℕ) → Enough (get_or xs n declared_type.Int)) → all_take_enough S k xs ≡ Ok tt
  unfolding all_take_enough
  enough_all k [] h = refl
  enough_all k (x ∷ xs) h = goes_on_bind _ _ (goes_on_demand _ (LockTakesLess k) (enough_line x (h 0))) (enough_all (k + 1) xs (λ n. h (suc n)))

  pub locks_take_enough_lem : {t : Unit {0}} → locks_take_enough S ≡ Ok t → LocksTakeEnough S
  unfolding locks_take_enough type_at
  locks_take_enough_lem h t = all_enough 2 S.types h t.0

  pub enough_taken : LocksTakeEnough S → locks_take_enough S ≡ Ok tt
  unfolding locks_take_enough type_at
  enough_taken h = enough_all 2 S.types (λ n. h (record { 0 = n }))
