-- Figure 5: Γ, Ψ ⊢ e : τ, Ψ', one constructor a word, in the printed order and with the printed names; then the rules of Section 3.1.4
-- for semaphores, of Figure 8 for read-write locks and of Section 3.1.3 for calls, under the names of their words. Locks are those of
-- Section 3.1.6.
use Rattle.std.specs.Prelude.{ℕ, ◌≤◌, ◌<◌, ◌≡◌, List, [], ◌∷◌, Option, None, Some, slice_get}
use Rattle.calculus.specs.Expression.{int, rdlock, rdunlock, wrlock, wrunlock, join, ref, read, lock, unlock, post, wait, hold, call, newtid, newlock, newsem, newrwlock, Exp, value, var, let_in, if, while, spawn, write, unary, nullary, Procedure, Program}
use Rattle.calculus.specs.State.{update}
use Rattle.calculus.specs.Capability.{Cap, ◌×ᶜ◌, ◌≥ᶜ◌, ◌≈◌⊕◌}

-- The types of Section 2.2 and of Section 3.1.4, as trees. A lock has two capabilities, Ψᵢ and Ψₒ of Section 3.1.6: `lock` hands out
-- Ψᵢ, `newlock` and `unlock` take Ψₒ.
pub data Ty : Type 0 where
  int_type : Ty
  ref_type : ℕ → Ty → Ty
  lock_type : (Ψᵢ Ψₒ : Cap) → Ty
  tid_type : Cap → Ty
  sem_type : Cap → Ty
  rwlock_type : (Ψr Ψw : Cap) → Ty

-- What a variable of the first type may be shown as: a lock as one that hands out no more and takes no less, anything else as it is.
-- Section 3.1.6 prints the second inequality the other way round; "that lets a thread lock, give back nothing and lock again, so ours
-- holds" (request (ix)).
infix 40 ◌<:◌
pub data ◌<:◌ : Ty → Ty → Type 0 where
  as_it_is : {τ : Ty} → τ <: τ
  looser : {Ψᵢ Ψₒ Ψᵢ' Ψₒ' : Cap} → Ψᵢ ≥ᶜ Ψᵢ' → Ψₒ' ≥ᶜ Ψₒ → lock_type Ψᵢ Ψₒ <: lock_type Ψᵢ' Ψₒ'

-- What a procedure asks of its callers and gives them: Section 3.1.3's (Ψpre, τ) → (Ψpost, τret), under the names of request (xiv).
pub record Signature : Type 0 where
  pub before : Cap
  pub argument : Ty
  pub after : Cap
  pub result : Ty

-- One for each procedure, in its place.
abbrev pub Signatures : Type 0
Signatures = List Signature

-- Γ, the types of the variables that are bound.
abbrev pub Env : Type 0
Env = ℕ → Option Ty

abbrev pub empty : Env
empty x = None

-- Γ[x ↦ τ]
abbrev pub bind : Env → ℕ → Ty → Env
bind Γ x τ = update Γ x (Some τ)

-- D ∣ S ∣ Γ ∣ Ψ ⊢ e ∶ τ ∣ Ψ' is the printed Γ, Ψ ⊢ e : τ, Ψ', with D for the printed 1, and with S for the signatures of the procedures.
-- A printed difference is the sum that defines it: Ψ₂ − Ψ₃ is the Ψ₅ with Ψ₂ ≈ Ψ₅ ⊕ Ψ₃, and where there is none the rule does not apply.
--
-- NEWL asks that a lock hands out no more than it takes. No other rule has to: every lock has been made, and what it is shown as hands
-- out no more and takes no less.
infix 20 ◌∣◌∣◌∣◌⊢◌∶◌∣◌
pub data ◌∣◌∣◌∣◌⊢◌∶◌∣◌ (D : ℕ) (S : Signatures) : Env → Cap → Exp → Ty → Cap → Type 0 where
  VAR : {Γ : Env} {Ψ : Cap} {x : ℕ} {σ τ : Ty} → Γ x ≡ Some σ → σ <: τ → D ∣ S ∣ Γ ∣ Ψ ⊢ var x ∶ τ ∣ Ψ
  INT : {Γ : Env} {Ψ : Cap} {n : ℕ} → D ∣ S ∣ Γ ∣ Ψ ⊢ value (int n) ∶ int_type ∣ Ψ
  LET : {Γ : Env} {Ψ Ψ₁ Ψ₂ : Cap} {x : ℕ} {e₁ e₂ : Exp} {τ₁ τ₂ : Ty} →
      D ∣ S ∣ Γ ∣ Ψ ⊢ e₁ ∶ τ₁ ∣ Ψ₁ → D ∣ S ∣ bind Γ x τ₁ ∣ Ψ₁ ⊢ e₂ ∶ τ₂ ∣ Ψ₂ →
      D ∣ S ∣ Γ ∣ Ψ ⊢ let_in x e₁ e₂ ∶ τ₂ ∣ Ψ₂
  IF : {Γ : Env} {Ψ Ψ₁ Ψ₂ Ψ₃ : Cap} {e₁ e₂ : Exp} {τ : Ty} →
      D ∣ S ∣ Γ ∣ Ψ ⊢ e₁ ∶ τ ∣ Ψ₁ → Ψ₁ ≥ᶜ Ψ₃ → D ∣ S ∣ Γ ∣ Ψ ⊢ e₂ ∶ τ ∣ Ψ₂ → Ψ₂ ≥ᶜ Ψ₃ →
      D ∣ S ∣ Γ ∣ Ψ ⊢ if e₁ e₂ ∶ τ ∣ Ψ₃
  WHILE : {Γ : Env} {Ψ Ψ₁ Ψ₂ : Cap} {e : Exp} {τ : Ty} →
      D ∣ S ∣ Γ ∣ Ψ₁ ⊢ e ∶ τ ∣ Ψ₂ → Ψ₂ ≥ᶜ Ψ₁ → Ψ ≥ᶜ Ψ₁ →
      D ∣ S ∣ Γ ∣ Ψ ⊢ while e ∶ int_type ∣ Ψ₁
  NEWT : {Γ : Env} {Ψ Ψ₁ : Cap} → D ∣ S ∣ Γ ∣ Ψ ⊢ nullary newtid ∶ tid_type Ψ₁ ∣ Ψ
  SPAWN : {Γ : Env} {Ψ Ψ₁ Ψ₂ Ψ₃ Ψ₄ Ψ₅ : Cap} {e₁ e₂ : Exp} {τ : Ty} →
      D ∣ S ∣ Γ ∣ Ψ ⊢ e₁ ∶ tid_type Ψ₁ ∣ Ψ₂ → D ∣ S ∣ Γ ∣ Ψ₃ ⊢ e₂ ∶ τ ∣ Ψ₄ → Ψ₄ ≥ᶜ Ψ₁ → Ψ₂ ≈ Ψ₅ ⊕ Ψ₃ →
      D ∣ S ∣ Γ ∣ Ψ ⊢ spawn e₁ e₂ ∶ int_type ∣ Ψ₅
  JOIN : {Γ : Env} {Ψ Ψ₁ Ψ₂ Ψ₃ : Cap} {e : Exp} →
      D ∣ S ∣ Γ ∣ Ψ ⊢ e ∶ tid_type Ψ₁ ∣ Ψ₂ → Ψ₃ ≈ Ψ₂ ⊕ Ψ₁ →
      D ∣ S ∣ Γ ∣ Ψ ⊢ unary join e ∶ int_type ∣ Ψ₃
  REF : {Γ : Env} {Ψ Ψ₁ : Cap} {e : Exp} {τ : Ty} {ρ : ℕ} →
      D ∣ S ∣ Γ ∣ Ψ ⊢ e ∶ τ ∣ Ψ₁ →
      D ∣ S ∣ Γ ∣ Ψ ⊢ unary ref e ∶ ref_type ρ τ ∣ Ψ₁
  WRITE : {Γ : Env} {Ψ Ψ₁ Ψ₂ : Cap} {e₁ e₂ : Exp} {τ : Ty} {ρ : ℕ} →
      D ∣ S ∣ Γ ∣ Ψ ⊢ e₁ ∶ ref_type ρ τ ∣ Ψ₁ → D ∣ S ∣ Γ ∣ Ψ₁ ⊢ e₂ ∶ τ ∣ Ψ₂ → D ≤ Ψ₂ ρ →
      D ∣ S ∣ Γ ∣ Ψ ⊢ write e₁ e₂ ∶ int_type ∣ Ψ₂
  READ : {Γ : Env} {Ψ Ψ₁ : Cap} {e : Exp} {τ : Ty} {ρ : ℕ} →
      D ∣ S ∣ Γ ∣ Ψ ⊢ e ∶ ref_type ρ τ ∣ Ψ₁ → 0 < Ψ₁ ρ →
      D ∣ S ∣ Γ ∣ Ψ ⊢ unary read e ∶ τ ∣ Ψ₁
  NEWL : {Γ : Env} {Ψ Ψᵢ Ψₒ Ψ₂ : Cap} → Ψₒ ≥ᶜ Ψᵢ → Ψ ≈ Ψ₂ ⊕ Ψₒ → D ∣ S ∣ Γ ∣ Ψ ⊢ nullary newlock ∶ lock_type Ψᵢ Ψₒ ∣ Ψ₂
  LCK : {Γ : Env} {Ψ Ψᵢ Ψₒ Ψ₂ Ψ₃ : Cap} {e : Exp} →
      D ∣ S ∣ Γ ∣ Ψ ⊢ e ∶ lock_type Ψᵢ Ψₒ ∣ Ψ₂ → Ψ₃ ≈ Ψ₂ ⊕ Ψᵢ →
      D ∣ S ∣ Γ ∣ Ψ ⊢ unary lock e ∶ int_type ∣ Ψ₃
  ULCK : {Γ : Env} {Ψ Ψᵢ Ψₒ Ψ₂ Ψ₃ : Cap} {e : Exp} →
      D ∣ S ∣ Γ ∣ Ψ ⊢ e ∶ lock_type Ψᵢ Ψₒ ∣ Ψ₂ → Ψ₂ ≈ Ψ₃ ⊕ Ψₒ →
      D ∣ S ∣ Γ ∣ Ψ ⊢ unary unlock e ∶ int_type ∣ Ψ₃
  NEWSEM : {Γ : Env} {Ψ Ψ₁ : Cap} → D ∣ S ∣ Γ ∣ Ψ ⊢ nullary newsem ∶ sem_type Ψ₁ ∣ Ψ
  POST : {Γ : Env} {Ψ Ψ₁ Ψ₂ Ψ₃ : Cap} {e : Exp} →
      D ∣ S ∣ Γ ∣ Ψ ⊢ e ∶ sem_type Ψ₁ ∣ Ψ₂ → Ψ₂ ≈ Ψ₃ ⊕ Ψ₁ →
      D ∣ S ∣ Γ ∣ Ψ ⊢ unary post e ∶ int_type ∣ Ψ₃
  WAIT : {Γ : Env} {Ψ Ψ₁ Ψ₂ Ψ₃ : Cap} {e : Exp} →
      D ∣ S ∣ Γ ∣ Ψ ⊢ e ∶ sem_type Ψ₁ ∣ Ψ₂ → Ψ₃ ≈ Ψ₂ ⊕ Ψ₁ →
      D ∣ S ∣ Γ ∣ Ψ ⊢ unary wait e ∶ int_type ∣ Ψ₃
  -- N bounds the reading holds, not the threads: "one thread may read twice".
  NEWRWLOCK : {Γ : Env} {Ψ Ψr Ψw Ψ₂ : Cap} {N : ℕ} →
      Ψw ≥ᶜ N ×ᶜ Ψr → Ψ ≈ Ψ₂ ⊕ Ψw →
      D ∣ S ∣ Γ ∣ Ψ ⊢ nullary (newrwlock N) ∶ rwlock_type Ψr Ψw ∣ Ψ₂
  RDLOCK : {Γ : Env} {Ψ Ψr Ψw Ψ₂ Ψ₃ : Cap} {e : Exp} →
      D ∣ S ∣ Γ ∣ Ψ ⊢ e ∶ rwlock_type Ψr Ψw ∣ Ψ₂ → Ψ₃ ≈ Ψ₂ ⊕ Ψr →
      D ∣ S ∣ Γ ∣ Ψ ⊢ unary (hold rdlock) e ∶ int_type ∣ Ψ₃
  RDUNLOCK : {Γ : Env} {Ψ Ψr Ψw Ψ₂ Ψ₃ : Cap} {e : Exp} →
      D ∣ S ∣ Γ ∣ Ψ ⊢ e ∶ rwlock_type Ψr Ψw ∣ Ψ₂ → Ψ₂ ≈ Ψ₃ ⊕ Ψr →
      D ∣ S ∣ Γ ∣ Ψ ⊢ unary (hold rdunlock) e ∶ int_type ∣ Ψ₃
  WRLOCK : {Γ : Env} {Ψ Ψr Ψw Ψ₂ Ψ₃ : Cap} {e : Exp} →
      D ∣ S ∣ Γ ∣ Ψ ⊢ e ∶ rwlock_type Ψr Ψw ∣ Ψ₂ → Ψ₃ ≈ Ψ₂ ⊕ Ψw →
      D ∣ S ∣ Γ ∣ Ψ ⊢ unary (hold wrlock) e ∶ int_type ∣ Ψ₃
  WRUNLOCK : {Γ : Env} {Ψ Ψr Ψw Ψ₂ Ψ₃ : Cap} {e : Exp} →
      D ∣ S ∣ Γ ∣ Ψ ⊢ e ∶ rwlock_type Ψr Ψw ∣ Ψ₂ → Ψ₂ ≈ Ψ₃ ⊕ Ψw →
      D ∣ S ∣ Γ ∣ Ψ ⊢ unary (hold wrunlock) e ∶ int_type ∣ Ψ₃
  -- What the caller has beside `before` it keeps back, and has it again beside `after`. A procedure is named by its number and is no value.
  CALL : {Γ : Env} {Ψ Ψ₁ Ψ₂ Ψkeep : Cap} {f : ℕ} {g : Signature} {e : Exp} →
      slice_get S f ≡ Some g → D ∣ S ∣ Γ ∣ Ψ ⊢ e ∶ g.argument ∣ Ψ₁ → Ψ₁ ≈ g.before ⊕ Ψkeep → Ψ₂ ≈ g.after ⊕ Ψkeep →
      D ∣ S ∣ Γ ∣ Ψ ⊢ unary (call f) e ∶ g.result ∣ Ψ₂

-- ---- Programs

-- Each procedure with the signature in its place: the body starts with `before` and leaves at least `after`, and the parameter has the
-- argument's type, "as if a let had bound it". Each signature has a procedure, so whatever CALL finds is there.
pub data BodiesDerived (D : ℕ) (S : Signatures) : List Procedure → Signatures → Type 0 where
  no_procedures : BodiesDerived D S [] []
  procedure : {p : Procedure} {ps : List Procedure} {g : Signature} {gs : Signatures} {Ψ₁ : Cap} →
      D ∣ S ∣ bind empty p.parameter g.argument ∣ g.before ⊢ p.body ∶ g.result ∣ Ψ₁ → Ψ₁ ≥ᶜ g.after → BodiesDerived D S ps gs →
      BodiesDerived D S (p ∷ ps) (g ∷ gs)

-- A derivation of the program, with Ψ at the start.
pub record Derivation (D : ℕ) (S : Signatures) (Ψ : Cap) (p : Program) : Type 0 where
  pub τ : Ty
  pub Ψ₁ : Cap
  pub root : D ∣ S ∣ empty ∣ Ψ ⊢ p.root ∶ τ ∣ Ψ₁
  pub bodies : BodiesDerived D S p.procedures S
