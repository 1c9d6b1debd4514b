-- The out inequality as Section 3.1.6 prints it is unsound: were a variable shown so, Figure 5 would derive a program that races.
use Rattle.std.proofs.Common.{Some}
use Prim.Native.Nat.{ℕ}
use mathlib.Core.Path.{◌≡◌, refl}
use mathlib.Core.List.{[]}
use native.Mathlib.Decide.{ℕ_discrete}
use native.Mathlib.Omega.{arith}
use Rattle.calculus.specs.Expression.{var}
use Rattle.calculus.specs.Capability.{Cap, nothing, ◌≥ᶜ◌}
use Rattle.calculus.specs.Figure5.{Ty, int_type, ref_type, lock_type, as_it_is, Signatures, Env, empty, ◌∣◌∣◌∣◌⊢◌∶◌∣◌, VAR, INT, LET, NEWT, SPAWN, REF, WRITE, NEWL, LCK, ULCK}
use Rattle.calculus.specs.Examples.{holding, unlock_for_nothing}
use Rattle.calculus.proofs.Laws.Order.{≥-refl}
use Rattle.calculus.proofs.Examples.Derivations.{plain_derived, holding_sum, holding_at_most, holding_at_least}
use Rattle.calculus.proofs.Examples.Races.{unlock_for_nothing_has_no_derivation}

-- As printed, a lock may be shown as one that hands out no more and takes no more.
infix 40 ◌printed_as◌
pub data ◌printed_as◌ : Ty → Ty → Type 0 where
  as_printed : {Ψᵢ Ψₒ Ψᵢ' Ψₒ' : Cap} → Ψᵢ ≥ᶜ Ψᵢ' → Ψₒ ≥ᶜ Ψₒ' → lock_type Ψᵢ Ψₒ printed_as lock_type Ψᵢ' Ψₒ'

-- VAR with the printed inequality, as a rule beside those of Figure 5.
abbrev pub PrintedVAR : Type 0
PrintedVAR = (D : ℕ) (S : Signatures) (Γ : Env) (Ψ : Cap) (x : ℕ) (σ τ : Ty) → Γ x ≡ Some σ → σ printed_as τ → D ∣ S ∣ Γ ∣ Ψ ⊢ var x ∶ τ ∣ Ψ

-- The lock lends the whole of x. Where it is unlocked it is shown as one that lends nothing, so the thread that unlocks it keeps the whole.
pub unlock_for_nothing_derived_as_printed : PrintedVAR → 1 ∣ [] ∣ empty ∣ holding 1 0 ⊢ unlock_for_nothing.root ∶ int_type ∣ holding 1 0
unfolding ℕ_discrete
unlock_for_nothing_derived_as_printed printed =
    let whole = holding_sum 0 0 1 0 in
    let less : holding 1 0 ≥ᶜ holding 0 0 = record { at = holding_at_least 0 0 1 0 (omega arith) (omega arith) } in
    LET {τ₁ = ref_type 0 int_type} (REF INT)
    (LET {τ₁ = lock_type (holding 1 0) (holding 1 0)} (NEWL ≥-refl whole)
    (LET {τ₁ = int_type}
    (SPAWN {Ψ₁ = nothing} {Ψ₃ = holding 0 0} NEWT
    (LET {τ₁ = int_type} (LCK (VAR refl as_it_is) whole) (WRITE {Ψ₂ = holding 1 0} {τ = int_type} {ρ = 0} (VAR refl as_it_is) INT (omega arith)))
    (record { at = λ ρ. omega arith }) (holding_sum 0 0 0 0))
    (LET {τ₁ = int_type} (LCK (VAR refl as_it_is) whole)
    (LET {τ₁ = int_type} (ULCK (printed 1 _ _ _ 1 _ (lock_type (holding 0 0) (holding 0 0)) refl (as_printed less less)) (holding_sum 1 0 0 0))
    (WRITE {Ψ₂ = holding 1 0} {τ = int_type} {ρ = 0} (VAR refl as_it_is) INT (omega arith))))))

-- So the rule does not hold.
pub printed_var_is_unsound : ¬ PrintedVAR
printed_var_is_unsound printed =
    unlock_for_nothing_has_no_derivation 1 _ _ (omega arith) (holding_at_most 1 1 0 (omega arith) (omega arith))
    (plain_derived (unlock_for_nothing_derived_as_printed printed))
