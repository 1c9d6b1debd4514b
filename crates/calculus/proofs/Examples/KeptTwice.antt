-- What the caller keeps back is counted once: were it counted twice, Figure 5 would derive a program that races.
use Rattle.std.proofs.Common.{Some, slice_get}
use Prim.Native.Nat.{ℕ}
use mathlib.Core.Path.{◌≡◌, refl}
use mathlib.Core.List.{[], ◌∷◌}
use native.Mathlib.Decide.{ℕ_discrete}
use native.Mathlib.Omega.{arith}
use Rattle.calculus.specs.Expression.{call, Exp, unary}
use Rattle.calculus.specs.Capability.{Cap, nothing, ◌≈◌⊕◌}
use Rattle.calculus.specs.Figure5.{int_type, as_it_is, Signature, Signatures, Env, ◌∣◌∣◌∣◌⊢◌∶◌∣◌, VAR, INT, LET, NEWT, SPAWN, REF, WRITE, no_procedures, procedure, Derivation}
use Rattle.calculus.specs.Examples.{holding}
use Rattle.calculus.specs.ProcedureExamples.{kept_twice}
use Rattle.calculus.proofs.Laws.Order.{≥-refl}
use Rattle.calculus.proofs.Examples.Derivations.{holding_sum, holding_at_most, x_type}
use Rattle.calculus.proofs.Examples.Races.{kept_twice_has_no_derivation}

-- CALL with Ψkeep given back twice, as a rule beside those of Figure 5.
abbrev pub TwiceCALL : Type 0
TwiceCALL = (D : ℕ) (S : Signatures) (Γ : Env) (Ψ Ψ₁ Ψ₂ Ψ₃ Ψkeep : Cap) (f : ℕ) (g : Signature) (e : Exp) → slice_get S f ≡ Some g →
    D ∣ S ∣ Γ ∣ Ψ ⊢ e ∶ g.argument ∣ Ψ₁ → Ψ₁ ≈ g.before ⊕ Ψkeep → Ψ₂ ≈ g.after ⊕ Ψkeep → Ψ₃ ≈ Ψ₂ ⊕ Ψkeep →
    D ∣ S ∣ Γ ∣ Ψ ⊢ unary (call f) e ∶ g.result ∣ Ψ₃

abbrev pause_signature : Signature
pause_signature = record { before = holding 0 0; argument = int_type; after = holding 0 0; result = int_type }

-- The first thread keeps the whole of x over its call, and has twice the whole after it.
pub kept_twice_derived_with_twice : TwiceCALL → Derivation 1 (pause_signature ∷ []) (holding 1 0) kept_twice
unfolding ℕ_discrete
kept_twice_derived_with_twice twice = record {
  τ = int_type;
  Ψ₁ = holding 1 0;
  root = LET {τ₁ = x_type} (REF INT)
      (LET {τ₁ = int_type}
      (twice 1 _ _ _ _ _ (holding 2 0) (holding 1 0) 0 pause_signature _ refl INT (holding_sum 0 0 1 0) (holding_sum 0 0 1 0) (holding_sum 1 0 1 0))
      (LET {τ₁ = int_type}
      (SPAWN {Ψ₁ = nothing} {Ψ₃ = holding 1 0} NEWT (WRITE {Ψ₂ = holding 1 0} {τ = int_type} {ρ = 0} (VAR refl as_it_is) INT (omega arith))
      (record { at = λ ρ. omega arith }) (holding_sum 1 0 1 0))
      (WRITE {Ψ₂ = holding 1 0} {τ = int_type} {ρ = 0} (VAR refl as_it_is) INT (omega arith))));
  bodies = procedure (VAR refl as_it_is) ≥-refl no_procedures;
}

-- So the rule does not hold.
pub twice_call_is_unsound : ¬ TwiceCALL
twice_call_is_unsound twice =
    kept_twice_has_no_derivation 1 _ _ (omega arith) (holding_at_most 1 1 0 (omega arith) (omega arith)) (kept_twice_derived_with_twice twice)
