-- Both premises of `derived_is_safe` are needed: without either, Figure 5 derives a program that races (Races.antt).
use mathlib.Core.Path.{refl}
use mathlib.Core.List.{[]}
use native.Mathlib.Decide.{ℕ_discrete}
use native.Mathlib.Omega.{arith}
use Rattle.calculus.specs.Capability.{nothing, ◌≈◌⊕◌}
use Rattle.calculus.specs.Figure5.{int_type, ref_type, tid_type, as_it_is, empty, ◌∣◌∣◌∣◌⊢◌∶◌∣◌, VAR, INT, LET, NEWT, SPAWN, REF, WRITE, READ}
use Rattle.calculus.specs.Examples.{holding, figure2a, one_identifier}
use Rattle.calculus.proofs.Laws.Order.{≥-refl}
use Rattle.calculus.proofs.Examples.Derivations.{holding_sum}

-- A start of more than the whole: one for each thread.
pub figure_2a_derived_from_two : 1 ∣ [] ∣ empty ∣ holding 2 0 ⊢ figure2a.root ∶ int_type ∣ holding 1 0
unfolding ℕ_discrete
figure_2a_derived_from_two =
    LET {τ₁ = ref_type 0 int_type} (REF INT)
    (LET {τ₁ = int_type}
    (SPAWN {Ψ₁ = nothing} {Ψ₃ = holding 1 0} NEWT (READ {Ψ₁ = holding 1 0} {ρ = 0} (VAR refl as_it_is) (omega arith))
    (record { at = λ ρ. omega arith }) (holding_sum 1 0 1 0))
    (WRITE {Ψ₂ = holding 1 0} {τ = int_type} {ρ = 0} (VAR refl as_it_is) INT (omega arith)))

-- A whole of 0: nothing is enough to write.
pub one_identifier_derived_from_nothing : 0 ∣ [] ∣ empty ∣ nothing ⊢ one_identifier.root ∶ int_type ∣ nothing
unfolding ℕ_discrete
one_identifier_derived_from_nothing =
    let none_left : nothing ≈ nothing ⊕ nothing = record { at = λ ρ. omega arith } in
    LET {τ₁ = ref_type 0 int_type} (REF INT)
    (LET {τ₁ = tid_type nothing} NEWT
    (LET {τ₁ = int_type}
    (SPAWN (VAR refl as_it_is) (WRITE {Ψ₂ = nothing} {τ = int_type} {ρ = 0} (VAR refl as_it_is) INT (omega arith)) ≥-refl none_left)
    (SPAWN (VAR refl as_it_is) (WRITE {Ψ₂ = nothing} {τ = int_type} {ρ = 0} (VAR refl as_it_is) INT (omega arith)) ≥-refl none_left)))
