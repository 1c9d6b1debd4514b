-- More names and variables, and a value put for a variable: what is typed stays typed.
use Rattle.std.proofs.Common.{None, Some}
use Prim.Native.Nat.{ℕ}
use mathlib.Core.Path.{◌≡◌, sym, ◌∙◌}
use mathlib.Core.Logic.{◌≢◌, ◌⊎◌, inl, inr}
use native.Mathlib.Decide.{ℕ_discrete}
use Rattle.calculus.specs.Expression.{Value, Exp, value, var, choose, substitute}
use Rattle.calculus.specs.Capability.{Cap, ◌≥ᶜ◌}
use Rattle.calculus.specs.Figure5.{Ty, ◌<:◌, Signatures, Env, empty, bind}
use Rattle.calculus.proofs.Laws.Maps.{some_injective, none_is_not_some}
use Rattle.calculus.proofs.Typing.{ValueTyped, int_typed, name_typed, value_subtype, Typed, value_typed, var_typed, let_typed, if_typed, while_typed, spawn_typed, write_typed, unary_typed, nullary_typed}

-- ---- More names and more variables

-- What the first environment knows, the second knows alike.
infix 40 ◌⊆◌
abbrev pub ◌⊆◌ : Env → Env → Type 0
Γ ⊆ Γ' = (x : ℕ) (τ : Ty) → Γ x ≡ Some τ → Γ' x ≡ Some τ

pub ⊆-refl : (Γ : Env) → Γ ⊆ Γ
⊆-refl Γ x τ h = h

bind_grows : (Γ Γ' : Env) (x : ℕ) (σ : Ty) → Γ ⊆ Γ' → bind Γ x σ ⊆ bind Γ' x σ
bind_grows Γ Γ' x σ s y τ = by_cases (ℕ_discrete y x)
  where
    by_cases : (d : Dec (y ≡ x)) → choose d (Some σ) (Γ y) ≡ Some τ → choose d (Some σ) (Γ' y) ≡ Some τ
    by_cases (yes p) h = h
    by_cases (no p) h = s y τ h

pub value_grows : {N N' : Env} {v : Value} {τ : Ty} → N ⊆ N' → ValueTyped N v τ → ValueTyped N' v τ
value_grows s int_typed = int_typed
value_grows s (name_typed {n = n} {σ = σ} h f) = name_typed (s n σ h) f

pub typing_grows : {D : ℕ} {S : Signatures} {N N' Γ Γ' : Env} {Ψ Φ : Cap} {e : Exp} {τ : Ty} → N ⊆ N' → Γ ⊆ Γ' → Typed D S N Γ Ψ e τ Φ →
    Typed D S N' Γ' Ψ e τ Φ
typing_grows n g (value_typed v h) = value_typed (value_grows n v) h
typing_grows n g (var_typed {x = x} {σ = σ} v f h) = var_typed (g x σ v) f h
typing_grows n g (let_typed {x = x} {σ = σ} e₁ e₂) = let_typed (typing_grows n g e₁) (typing_grows n (bind_grows _ _ x σ g) e₂)
typing_grows n g (if_typed e₁ e₂) = if_typed (typing_grows n g e₁) (typing_grows n g e₂)
typing_grows n g (while_typed e h k) = while_typed (typing_grows n g e) h k
typing_grows n g (spawn_typed e₁ e₂ h) = spawn_typed (typing_grows n g e₁) (typing_grows n g e₂) h
typing_grows n g (write_typed e₁ e₂ h k) = write_typed (typing_grows n g e₁) (typing_grows n g e₂) h k
typing_grows n g (unary_typed e o) = unary_typed (typing_grows n g e) o
typing_grows n g (nullary_typed o) = nullary_typed o

-- ---- A value for a variable

-- What Γ knows of y: it is x, of type σ, or Γ' knows it.
abbrev Known : Env → ℕ → Ty → ℕ → Ty → Type 0
Known Γ' x σ y τ = ((y ≡ x) × (σ ≡ τ)) ⊎ ((y ≢ x) × (Γ' y ≡ Some τ))

-- Γ is Γ' and x of type σ.
abbrev Extends : Env → Env → ℕ → Ty → Type 0
Extends Γ Γ' x σ = (y : ℕ) (τ : Ty) → Γ y ≡ Some τ → Known Γ' x σ y τ

bind_other_extends : (Γ Γ' : Env) (x y : ℕ) (σ υ : Ty) → y ≢ x → Extends Γ Γ' x σ → Extends (bind Γ y υ) (bind Γ' y υ) x σ
bind_other_extends Γ Γ' x y σ υ d c z τ = by_cases (ℕ_discrete z y)
  where
    by_cases : (q : Dec (z ≡ y)) → choose q (Some υ) (Γ z) ≡ Some τ → ((z ≡ x) × (σ ≡ τ)) ⊎ ((z ≢ x) × (choose q (Some υ) (Γ' z) ≡ Some τ))
    by_cases (yes p) h = inr ((λ r. d (sym p ∙ r)), h)
    by_cases (no p) h = c z τ h

bind_same_grows : (Γ Γ' : Env) (x y : ℕ) (σ υ : Ty) → y ≡ x → Extends Γ Γ' x σ → bind Γ y υ ⊆ bind Γ' y υ
bind_same_grows Γ Γ' x y σ υ e c z τ = by_cases (ℕ_discrete z y)
  where
    elsewhere : z ≢ y → Known Γ' x σ z τ → Γ' z ≡ Some τ
    elsewhere p (inl r) = absurd (p (r.0 ∙ sym e))
    elsewhere p (inr r) = r.1

    by_cases : (q : Dec (z ≡ y)) → choose q (Some υ) (Γ z) ≡ Some τ → choose q (Some υ) (Γ' z) ≡ Some τ
    by_cases (yes p) h = h
    by_cases (no p) h = elsewhere p (c z τ h)

pub bind_extends_empty : (x : ℕ) (σ : Ty) → Extends (bind empty x σ) empty x σ
bind_extends_empty x σ y τ = by_cases (ℕ_discrete y x)
  where
    by_cases : (d : Dec (y ≡ x)) → choose d (Some σ) None ≡ Some τ → ((y ≡ x) × (σ ≡ τ)) ⊎ ((y ≢ x) × (None ≡ Some τ))
    by_cases (yes e) k = inl (e, some_injective k)
    by_cases (no e) k = none_is_not_some k

variable_keeps : {D : ℕ} {S : Signatures} {N Γ' : Env} {Ψ Φ : Cap} {v : Value} {σ υ τ : Ty} (x y : ℕ) (d : Dec (y ≡ x)) → ValueTyped N v σ →
    Known Γ' x σ y υ → υ <: τ → Ψ ≥ᶜ Φ → Typed D S N Γ' Ψ (choose d (value v) (var y)) τ Φ
variable_keeps x y (yes p) t (inl r) f h = value_typed (value_subtype (rw r.1 at t) f) h
variable_keeps x y (yes p) t (inr r) f h = absurd (r.0 p)
variable_keeps x y (no p) t (inl r) f h = absurd (p r.0)
variable_keeps x y (no p) t (inr r) f h = var_typed r.1 f h

pub substitution_keeps : {D : ℕ} {S : Signatures} {N Γ : Env} {Ψ Φ : Cap} {e : Exp} {τ σ : Ty} {v : Value} (Γ' : Env) (x : ℕ) →
    ValueTyped N v σ → Extends Γ Γ' x σ → Typed D S N Γ Ψ e τ Φ → Typed D S N Γ' Ψ (substitute x v e) τ Φ
substitution_keeps Γ' x t c (value_typed w h) = value_typed w h
substitution_keeps Γ' x t c (var_typed {x = y} {σ = υ} w f h) = variable_keeps x y (ℕ_discrete y x) t (c y υ w) f h
substitution_keeps {D} {S} {N} {v} Γ' x t c (let_typed {Γ = Γ} {Ψ₁ = Ψ₁} {Φ = Φ} {x = y} {e₂ = e₂} {σ = υ} {τ = τ} a b) =
    let e₂_keeps : (q : Dec (y ≡ x)) → Typed D S N (bind Γ' y υ) Ψ₁ (choose q e₂ (substitute x v e₂)) τ Φ =
    λ q. elim q as (λ d. Typed D S N (bind Γ' y υ) Ψ₁ (choose d e₂ (substitute x v e₂)) τ Φ) [
      | yes p ↦ typing_grows (⊆-refl N) (bind_same_grows Γ Γ' x y _ υ p c) b
      | no p ↦ substitution_keeps (bind Γ' y υ) x t (bind_other_extends Γ Γ' x y _ υ p c) b
    ] in
    let_typed (substitution_keeps Γ' x t c a) (e₂_keeps (ℕ_discrete y x))
substitution_keeps Γ' x t c (if_typed a b) = if_typed (substitution_keeps Γ' x t c a) (substitution_keeps Γ' x t c b)
substitution_keeps Γ' x t c (while_typed a h k) = while_typed (substitution_keeps Γ' x t c a) h k
substitution_keeps Γ' x t c (spawn_typed a b h) = spawn_typed (substitution_keeps Γ' x t c a) (substitution_keeps Γ' x t c b) h
substitution_keeps Γ' x t c (write_typed a b h k) = write_typed (substitution_keeps Γ' x t c a) (substitution_keeps Γ' x t c b) h k
substitution_keeps Γ' x t c (unary_typed a o) = unary_typed (substitution_keeps Γ' x t c a) o
substitution_keeps Γ' x t c (nullary_typed o) = nullary_typed o
