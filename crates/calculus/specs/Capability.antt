-- Capability mappings of Section 2.2; document 01's "maps".
use Rattle.std.specs.Prelude.{ℕ, ◌+◌, ◌*◌, ◌≤◌, ◌≡◌}

-- How much of each location is held. The number a stands for a/D, so D itself stands for 1; a location that no sheet has is
-- a location like any other.
abbrev pub Cap : Type 0
Cap = ℕ → ℕ

-- The null capability.
abbrev pub nothing : Cap
nothing ρ = 0

-- k times Ψ.
infixl 70 ◌×ᶜ◌
abbrev pub ◌×ᶜ◌ : ℕ → Cap → Cap
(k ×ᶜ Ψ) ρ = k * Ψ ρ

-- Ψ₁ ≥ Ψ₂ of Section 2.2: at least as much of every location.
infix 40 ◌≥ᶜ◌
pub record ◌≥ᶜ◌ (Ψ₁ Ψ₂ : Cap) : Type 0 where
  pub at : (ρ : ℕ) → Ψ₂ ρ ≤ Ψ₁ ρ

-- Ψ = Ψ₁ + Ψ₂, location by location. It says Ψ₁ = Ψ − Ψ₂ too, where that difference is defined.
infix 40 ◌≈◌⊕◌
pub record ◌≈◌⊕◌ (Ψ Ψ₁ Ψ₂ : Cap) : Type 0 where
  pub at : (ρ : ℕ) → Ψ ρ ≡ Ψ₁ ρ + Ψ₂ ρ
