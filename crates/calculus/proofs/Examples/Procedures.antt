-- Programs with procedures: Figure 5 derives them, so they are safe, and they run to their end.
use Rattle.std.proofs.Common.{Some}
use Prim.Native.Nat.{ℕ}
use mathlib.Core.Path.{◌≡◌, refl}
use mathlib.Core.List.{[], ◌∷◌}
use native.Mathlib.Decide.{ℕ_discrete}
use native.Mathlib.Omega.{arith}
use Rattle.calculus.specs.Expression.{int}
use Rattle.calculus.specs.State.{opened, cell, a_lock, State}
use Rattle.calculus.specs.Reduction.{reduce, attempt, run, start_state}
use Rattle.calculus.specs.Claim.{at_lock, Safe, InEitherOrder}
use Rattle.calculus.specs.Capability.{◌≈◌⊕◌}
use Rattle.calculus.specs.Figure5.{Ty, int_type, lock_type, as_it_is, Signature, Signatures, Env, empty, bind, ◌∣◌∣◌∣◌⊢◌∶◌∣◌, VAR, INT, LET, IF, NEWT, SPAWN, REF, WRITE, NEWL, LCK, ULCK, CALL, no_procedures, procedure, Derivation}
use Rattle.calculus.specs.Examples.{constant, holding}
use Rattle.calculus.specs.ProcedureExamples.{purge, purges_locked, purging, moves_purging_to_call, moves_purging_to_end, purge_again, purging_again, moves_purging_again}
use Rattle.calculus.proofs.Laws.Order.{≥-refl}
use Rattle.calculus.proofs.Safety.{derived_is_safe, derived_is_in_either_order}
use Rattle.calculus.proofs.Examples.Derivations.{sum_at_each, holding_sum, holding_at_most, x_type, y_type}
use Rattle.calculus.proofs.Examples.Halts.{HaltsWaiting, waiting}

-- It asks for the whole of x and gives it back.
abbrev purge_signature : Signature
purge_signature = record { before = holding 1 0; argument = x_type; after = holding 1 0; result = int_type }

-- ---- Two threads that hand over a lock

purge_derived : (S : Signatures) → 1 ∣ S ∣ bind empty 0 x_type ∣ holding 1 0 ⊢ purge.body ∶ int_type ∣ holding 1 0
unfolding ℕ_discrete
purge_derived S = WRITE {Ψ₂ = holding 1 0} {τ = int_type} {ρ = 0} (VAR refl as_it_is) INT (omega arith)

abbrev l_type : Ty
l_type = lock_type (holding 1 0) (holding 1 0)

-- What a thread has of y it keeps over its call, and has again afterwards.
purges_locked_derived : (Γ : Env) (y : ℕ) → Γ 1 ≡ Some x_type → Γ 2 ≡ Some l_type →
    1 ∣ purge_signature ∷ [] ∣ Γ ∣ holding 0 y ⊢ purges_locked ∶ int_type ∣ holding 0 y
unfolding ℕ_discrete
purges_locked_derived Γ y x l =
    let locked : holding 1 y ≈ holding 0 y ⊕ holding 1 0 = sum_at_each refl (omega arith) (λ ρ. refl) in
    let kept : holding 1 y ≈ holding 1 0 ⊕ holding 0 y = sum_at_each refl (omega arith) (λ ρ. refl) in
    LET {τ₁ = int_type} (LCK (VAR l as_it_is) locked) (LET {τ₁ = int_type} (CALL refl (VAR x as_it_is) kept kept) (ULCK (VAR l as_it_is) locked))

-- The other thread has nothing of y, and the first has the whole.
pub purging_derived : Derivation 1 (purge_signature ∷ []) (holding 1 1) purging
unfolding ℕ_discrete
purging_derived = record {
  τ = int_type;
  Ψ₁ = holding 0 1;
  root = LET {τ₁ = x_type} (REF INT)
      (LET {τ₁ = l_type} (NEWL ≥-refl (holding_sum 0 1 1 0))
      (LET {τ₁ = y_type} (REF INT)
      (LET {τ₁ = int_type} (SPAWN {Ψ₁ = holding 0 0} NEWT (purges_locked_derived _ 0 refl refl) ≥-refl (holding_sum 0 1 0 0))
      (LET {τ₁ = int_type} (purges_locked_derived _ 1 refl refl)
      (WRITE {Ψ₂ = holding 0 1} {τ = int_type} {ρ = 1} (VAR refl as_it_is) INT (omega arith))))));
  bodies = procedure (purge_derived _) ≥-refl no_procedures;
}

pub purging_is_safe : Safe purging
purging_is_safe = derived_is_safe (omega arith) purging_derived (holding_at_most 1 1 1 (omega arith) (omega arith))

pub purging_is_in_either_order : InEitherOrder purging
purging_is_in_either_order = derived_is_in_either_order (omega arith) purging_derived (holding_at_most 1 1 1 (omega arith) (omega arith))

-- While the other thread is in its call, the first waits for the lock.
abbrev in_call : State
in_call = run (purge ∷ []) moves_purging_to_call (start_state purging)

pub purging_waits_for_lock : HaltsWaiting in_call 0
unfolding start_state run attempt reduce ℕ_discrete
purging_waits_for_lock = waiting in_call 0 refl (at_lock 2 refl refl)

-- Both threads have finished, x is purged, y is written and the lock is open.
abbrev purged : State
purged = run (purge ∷ []) moves_purging_to_end in_call

pub purging_ends : purged.threads ≡ (record { tid = 0; body = constant 0 } ∷ record { tid = 4; body = constant 0 } ∷ [])
unfolding start_state run attempt reduce ℕ_discrete
purging_ends = refl

pub purging_purges : purged.names 1 ≡ cell (int 0)
unfolding start_state run attempt reduce ℕ_discrete
purging_purges = refl

pub purging_writes : purged.names 3 ≡ cell (int 1)
unfolding start_state run attempt reduce ℕ_discrete
purging_writes = refl

pub purging_unlocks : purged.names 2 ≡ a_lock opened
unfolding start_state run attempt reduce ℕ_discrete
purging_unlocks = refl

-- ---- A procedure that calls itself and another

abbrev both_signatures : Signatures
both_signatures = purge_signature ∷ purge_signature ∷ []

purge_again_derived : 1 ∣ both_signatures ∣ bind empty 2 x_type ∣ holding 1 0 ⊢ purge_again.body ∶ int_type ∣ holding 1 0
unfolding ℕ_discrete
purge_again_derived =
    let none_kept = holding_sum 1 0 0 0 in
    LET {τ₁ = int_type} (CALL refl (VAR refl as_it_is) none_kept none_kept)
    (IF (CALL refl (VAR refl as_it_is) none_kept none_kept) ≥-refl INT ≥-refl)

pub purging_again_derived : Derivation 1 both_signatures (holding 1 0) purging_again
unfolding ℕ_discrete
purging_again_derived = record {
  τ = int_type;
  Ψ₁ = holding 1 0;
  root = LET {τ₁ = x_type} (REF INT) (CALL refl (VAR refl as_it_is) (holding_sum 1 0 0 0) (holding_sum 1 0 0 0));
  bodies = procedure purge_again_derived ≥-refl (procedure (purge_derived _) ≥-refl no_procedures);
}

pub purging_again_is_safe : Safe purging_again
purging_again_is_safe = derived_is_safe (omega arith) purging_again_derived (holding_at_most 1 1 0 (omega arith) (omega arith))

abbrev purged_again : State
purged_again = run (purge_again ∷ purge ∷ []) moves_purging_again (start_state purging_again)

pub purging_again_ends : purged_again.threads ≡ (record { tid = 0; body = constant 0 } ∷ [])
unfolding start_state run attempt reduce ℕ_discrete
purging_again_ends = refl

pub purging_again_purges : purged_again.names 1 ≡ cell (int 0)
unfolding start_state run attempt reduce ℕ_discrete
purging_again_purges = refl
