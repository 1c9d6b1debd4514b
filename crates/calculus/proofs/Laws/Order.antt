-- Laws of capabilities: more and less, gains and payments.
use Prim.Native.Nat.{ℕ, ◌+◌, ◌≤◌}
use native.Mathlib.Omega.{arith}
use Rattle.calculus.specs.Capability.{Cap, ◌≥ᶜ◌, ◌≈◌⊕◌}

infixl 60 ◌+ᶜ◌
abbrev pub ◌+ᶜ◌ : Cap → Cap → Cap
(Ψ₁ +ᶜ Ψ₂) ρ = Ψ₁ ρ + Ψ₂ ρ

-- Φ is at most Ψ and K together: what a thread may have after it gains K.
pub record Gains (Φ Ψ K : Cap) : Type 0 where
  pub at : (ρ : ℕ) → Φ ρ ≤ Ψ ρ + K ρ

-- Φ and K together are at most Ψ: what a thread may have after it pays K.
pub record Pays (Φ Ψ K : Cap) : Type 0 where
  pub at : (ρ : ℕ) → Φ ρ + K ρ ≤ Ψ ρ

pub ≥-trans : {Ψ₁ Ψ₂ Ψ₃ : Cap} → Ψ₁ ≥ᶜ Ψ₂ → Ψ₂ ≥ᶜ Ψ₃ → Ψ₁ ≥ᶜ Ψ₃
≥-trans h k = record { at = λ ρ. omega (arith, h.at ρ, k.at ρ) }

pub ≥-refl : {Ψ : Cap} → Ψ ≥ᶜ Ψ
≥-refl = record { at = λ ρ. omega arith }

pub gains_weakens : {Φ Φ' Ψ Ψ' K : Cap} → Gains Φ Ψ K → Ψ' ≥ᶜ Ψ → Φ ≥ᶜ Φ' → Gains Φ' Ψ' K
gains_weakens h a b = record { at = λ ρ. omega (arith, h.at ρ, a.at ρ, b.at ρ) }

pub pays_weakens : {Φ Φ' Ψ Ψ' K : Cap} → Pays Φ Ψ K → Ψ' ≥ᶜ Ψ → Φ ≥ᶜ Φ' → Pays Φ' Ψ' K
pays_weakens h a b = record { at = λ ρ. omega (arith, h.at ρ, a.at ρ, b.at ρ) }

pub gains_at_most : {Φ Ψ K : Cap} → Gains Φ Ψ K → Ψ +ᶜ K ≥ᶜ Φ
gains_at_most h = record { at = λ ρ. omega (arith, h.at ρ) }

pub sum_gains : {Φ Ψ K : Cap} → Φ ≈ Ψ ⊕ K → Gains Φ Ψ K
sum_gains h = record { at = λ ρ. omega (arith, h.at ρ) }

pub sum_pays : {Φ Ψ K : Cap} → Ψ ≈ Φ ⊕ K → Pays Φ Ψ K
sum_pays h = record { at = λ ρ. omega (arith, h.at ρ) }

-- The same with F beside both.
pub ≥-frames : {Ψ Φ : Cap} (F : Cap) → Ψ ≥ᶜ Φ → Ψ +ᶜ F ≥ᶜ Φ +ᶜ F
≥-frames F h = record { at = λ ρ. omega (arith, h.at ρ) }

pub gains_frames : {Φ Ψ K : Cap} (F : Cap) → Gains Φ Ψ K → Gains (Φ +ᶜ F) (Ψ +ᶜ F) K
gains_frames F h = record { at = λ ρ. omega (arith, h.at ρ) }

pub pays_frames : {Φ Ψ K : Cap} (F : Cap) → Pays Φ Ψ K → Pays (Φ +ᶜ F) (Ψ +ᶜ F) K
pays_frames F h = record { at = λ ρ. omega (arith, h.at ρ) }
