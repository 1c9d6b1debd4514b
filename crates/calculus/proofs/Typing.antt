-- The typing of expressions at run time, with weakening in each rule. Figure 5 gives it.
use Rattle.std.proofs.Common.{Some, slice_get}
use Prim.Native.Nat.{ℕ, ◌≤◌, ◌<◌}
use mathlib.Core.Path.{◌≡◌}
use native.Mathlib.Nat.{le_trans}
use Rattle.calculus.specs.Expression.{Value, int, name, HoldWord, rdlock, rdunlock, wrlock, wrunlock, Unary, join, ref, read, lock, unlock, post, wait, hold, call, Nullary, newtid, newlock, newsem, newrwlock, Exp, value, var, let_in, if, while, spawn, write, unary, nullary}
use Rattle.calculus.specs.Capability.{Cap, ◌×ᶜ◌, ◌≥ᶜ◌}
use Rattle.calculus.specs.Figure5.{Ty, int_type, ref_type, lock_type, tid_type, sem_type, rwlock_type, ◌<:◌, as_it_is, looser, Signature, Signatures, Env, bind, ◌∣◌∣◌∣◌⊢◌∶◌∣◌, VAR, INT, LET, IF, WHILE, NEWT, SPAWN, JOIN, REF, WRITE, READ, NEWL, LCK, ULCK, NEWSEM, POST, WAIT, NEWRWLOCK, RDLOCK, RDUNLOCK, WRLOCK, WRUNLOCK, CALL}
use Rattle.calculus.proofs.Laws.Order.{Gains, Pays, ≥-trans, ≥-refl, gains_weakens, pays_weakens, sum_gains, sum_pays}

-- ---- Values

pub subtype_trans : {σ τ υ : Ty} → σ <: τ → τ <: υ → σ <: υ
subtype_trans as_it_is g = g
subtype_trans (looser i o) as_it_is = looser i o
subtype_trans (looser i o) (looser i' o') = looser (≥-trans i i') (≥-trans o' o)

-- N has the types of the names. A name may be shown as a variable of its type may.
pub data ValueTyped (N : Env) : Value → Ty → Type 0 where
  int_typed : {k : ℕ} → ValueTyped N (int k) int_type
  name_typed : {n : ℕ} {σ τ : Ty} → N n ≡ Some σ → σ <: τ → ValueTyped N (name n) τ

pub value_subtype : {N : Env} {v : Value} {σ τ : Ty} → ValueTyped N v σ → σ <: τ → ValueTyped N v τ
value_subtype int_typed as_it_is = int_typed
value_subtype (name_typed h f) g = name_typed h (subtype_trans f g)

-- The own type of a name that is shown as a lock.
pub record OwnLock (N : Env) (n : ℕ) (Ψᵢ' Ψₒ' : Cap) : Type 0 where
  pub Ψᵢ : Cap
  pub Ψₒ : Cap
  pub known : N n ≡ Some (lock_type Ψᵢ Ψₒ)
  pub no_more_out : Ψᵢ ≥ᶜ Ψᵢ'
  pub no_less_in : Ψₒ' ≥ᶜ Ψₒ

pub own_lock : {N : Env} {n : ℕ} {σ : Ty} {Ψᵢ' Ψₒ' : Cap} → N n ≡ Some σ → σ <: lock_type Ψᵢ' Ψₒ' → OwnLock N n Ψᵢ' Ψₒ'
own_lock h as_it_is = record { Ψᵢ = _; Ψₒ = _; known = h; no_more_out = ≥-refl; no_less_in = ≥-refl }
own_lock h (looser i o) = record { Ψᵢ = _; Ψₒ = _; known = h; no_more_out = i; no_less_in = o }

-- ---- Expressions

-- HoldTyped Ψr Ψw w Ψ Φ: on a read-write lock that lends Ψr to a reader and Ψw to a writer, with Ψ before and Φ after.
pub data HoldTyped (Ψr Ψw : Cap) : HoldWord → Cap → Cap → Type 0 where
  rdlock_typed : {Ψ Φ : Cap} → Gains Φ Ψ Ψr → HoldTyped Ψr Ψw rdlock Ψ Φ
  rdunlock_typed : {Ψ Φ : Cap} → Pays Φ Ψ Ψr → HoldTyped Ψr Ψw rdunlock Ψ Φ
  wrlock_typed : {Ψ Φ : Cap} → Gains Φ Ψ Ψw → HoldTyped Ψr Ψw wrlock Ψ Φ
  wrunlock_typed : {Ψ Φ : Cap} → Pays Φ Ψ Ψw → HoldTyped Ψr Ψw wrunlock Ψ Φ

-- UnaryTyped D S o σ Ψ τ Φ: on a part of type σ, with Ψ before and Φ after, the word o has type τ.
pub data UnaryTyped (D : ℕ) (S : Signatures) : Unary → Ty → Cap → Ty → Cap → Type 0 where
  join_typed : {K Ψ Φ : Cap} → Gains Φ Ψ K → UnaryTyped D S join (tid_type K) Ψ int_type Φ
  ref_typed : {τ : Ty} {ρ : ℕ} {Ψ Φ : Cap} → Ψ ≥ᶜ Φ → UnaryTyped D S ref τ Ψ (ref_type ρ τ) Φ
  read_typed : {τ : Ty} {ρ : ℕ} {Ψ Φ : Cap} → 0 < Ψ ρ → Ψ ≥ᶜ Φ → UnaryTyped D S read (ref_type ρ τ) Ψ τ Φ
  lock_typed : {Ψᵢ Ψₒ Ψ Φ : Cap} → Gains Φ Ψ Ψᵢ → UnaryTyped D S lock (lock_type Ψᵢ Ψₒ) Ψ int_type Φ
  unlock_typed : {Ψᵢ Ψₒ Ψ Φ : Cap} → Pays Φ Ψ Ψₒ → UnaryTyped D S unlock (lock_type Ψᵢ Ψₒ) Ψ int_type Φ
  post_typed : {K Ψ Φ : Cap} → Pays Φ Ψ K → UnaryTyped D S post (sem_type K) Ψ int_type Φ
  wait_typed : {K Ψ Φ : Cap} → Gains Φ Ψ K → UnaryTyped D S wait (sem_type K) Ψ int_type Φ
  hold_typed : {w : HoldWord} {Ψr Ψw Ψ Φ : Cap} → HoldTyped Ψr Ψw w Ψ Φ → UnaryTyped D S (hold w) (rwlock_type Ψr Ψw) Ψ int_type Φ
  call_typed : {f : ℕ} {g : Signature} {Ψ Ψkeep Φ : Cap} → slice_get S f ≡ Some g → Pays g.before Ψ Ψkeep → Gains Φ g.after Ψkeep →
      UnaryTyped D S (call f) g.argument Ψ g.result Φ

pub data NullaryTyped : Nullary → Cap → Ty → Cap → Type 0 where
  newtid_typed : {K Ψ Φ : Cap} → Ψ ≥ᶜ Φ → NullaryTyped newtid Ψ (tid_type K) Φ
  newlock_typed : {Ψᵢ Ψₒ Ψ Φ : Cap} → Ψₒ ≥ᶜ Ψᵢ → Pays Φ Ψ Ψₒ → NullaryTyped newlock Ψ (lock_type Ψᵢ Ψₒ) Φ
  newsem_typed : {K Ψ Φ : Cap} → Ψ ≥ᶜ Φ → NullaryTyped newsem Ψ (sem_type K) Φ
  newrwlock_typed : {N : ℕ} {Ψr Ψw Ψ Φ : Cap} → Ψw ≥ᶜ N ×ᶜ Ψr → Pays Φ Ψ Ψw → NullaryTyped (newrwlock N) Ψ (rwlock_type Ψr Ψw) Φ

-- Typed D S N Γ Ψ e τ Φ: with these types of names and variables e has type τ, can be run with Ψ, and leaves at least Φ.
pub data Typed (D : ℕ) (S : Signatures) (N : Env) : Env → Cap → Exp → Ty → Cap → Type 0 where
  value_typed : {Γ : Env} {Ψ Φ : Cap} {v : Value} {τ : Ty} → ValueTyped N v τ → Ψ ≥ᶜ Φ → Typed D S N Γ Ψ (value v) τ Φ
  var_typed : {Γ : Env} {Ψ Φ : Cap} {x : ℕ} {σ τ : Ty} → Γ x ≡ Some σ → σ <: τ → Ψ ≥ᶜ Φ → Typed D S N Γ Ψ (var x) τ Φ
  let_typed : {Γ : Env} {Ψ Ψ₁ Φ : Cap} {x : ℕ} {e₁ e₂ : Exp} {σ τ : Ty} →
      Typed D S N Γ Ψ e₁ σ Ψ₁ → Typed D S N (bind Γ x σ) Ψ₁ e₂ τ Φ → Typed D S N Γ Ψ (let_in x e₁ e₂) τ Φ
  if_typed : {Γ : Env} {Ψ Φ : Cap} {e₁ e₂ : Exp} {τ : Ty} →
      Typed D S N Γ Ψ e₁ τ Φ → Typed D S N Γ Ψ e₂ τ Φ → Typed D S N Γ Ψ (if e₁ e₂) τ Φ
  while_typed : {Γ : Env} {Ψ Ψ₁ Φ : Cap} {e : Exp} {τ : Ty} →
      Typed D S N Γ Ψ₁ e τ Ψ₁ → Ψ ≥ᶜ Ψ₁ → Ψ₁ ≥ᶜ Φ → Typed D S N Γ Ψ (while e) int_type Φ
  spawn_typed : {Γ : Env} {Ψ Ψ₂ Ψ₃ Φ K : Cap} {e₁ e₂ : Exp} {τ : Ty} →
      Typed D S N Γ Ψ e₁ (tid_type K) Ψ₂ → Typed D S N Γ Ψ₃ e₂ τ K → Pays Φ Ψ₂ Ψ₃ → Typed D S N Γ Ψ (spawn e₁ e₂) int_type Φ
  write_typed : {Γ : Env} {Ψ Ψ₁ Ψ₂ Φ : Cap} {e₁ e₂ : Exp} {τ : Ty} {ρ : ℕ} →
      Typed D S N Γ Ψ e₁ (ref_type ρ τ) Ψ₁ → Typed D S N Γ Ψ₁ e₂ τ Ψ₂ → D ≤ Ψ₂ ρ → Ψ₂ ≥ᶜ Φ → Typed D S N Γ Ψ (write e₁ e₂) int_type Φ
  unary_typed : {Γ : Env} {Ψ Ψ₁ Φ : Cap} {o : Unary} {e : Exp} {σ τ : Ty} →
      Typed D S N Γ Ψ e σ Ψ₁ → UnaryTyped D S o σ Ψ₁ τ Φ → Typed D S N Γ Ψ (unary o e) τ Φ
  nullary_typed : {Γ : Env} {Ψ Φ : Cap} {o : Nullary} {τ : Ty} → NullaryTyped o Ψ τ Φ → Typed D S N Γ Ψ (nullary o) τ Φ

-- ---- Weakening: more before and less after

hold_weakens : {Ψr Ψw : Cap} {w : HoldWord} {Ψ Ψ' Φ Φ' : Cap} → HoldTyped Ψr Ψw w Ψ Φ → Ψ' ≥ᶜ Ψ → Φ ≥ᶜ Φ' → HoldTyped Ψr Ψw w Ψ' Φ'
hold_weakens (rdlock_typed h) a b = rdlock_typed (gains_weakens h a b)
hold_weakens (rdunlock_typed h) a b = rdunlock_typed (pays_weakens h a b)
hold_weakens (wrlock_typed h) a b = wrlock_typed (gains_weakens h a b)
hold_weakens (wrunlock_typed h) a b = wrunlock_typed (pays_weakens h a b)

pub unary_weakens : {D : ℕ} {S : Signatures} {o : Unary} {σ τ : Ty} {Ψ Ψ' Φ Φ' : Cap} → UnaryTyped D S o σ Ψ τ Φ → Ψ' ≥ᶜ Ψ → Φ ≥ᶜ Φ' →
    UnaryTyped D S o σ Ψ' τ Φ'
unary_weakens (join_typed h) a b = join_typed (gains_weakens h a b)
unary_weakens (ref_typed h) a b = ref_typed (≥-trans a (≥-trans h b))
unary_weakens (read_typed {ρ = ρ} g h) a b = read_typed {ρ = ρ} (le_trans g (a.at ρ)) (≥-trans a (≥-trans h b))
unary_weakens (lock_typed h) a b = lock_typed (gains_weakens h a b)
unary_weakens (unlock_typed h) a b = unlock_typed (pays_weakens h a b)
unary_weakens (post_typed h) a b = post_typed (pays_weakens h a b)
unary_weakens (wait_typed h) a b = wait_typed (gains_weakens h a b)
unary_weakens (hold_typed h) a b = hold_typed (hold_weakens h a b)
unary_weakens (call_typed s h k) a b = call_typed s (pays_weakens h a ≥-refl) (gains_weakens k ≥-refl b)

pub nullary_weakens : {o : Nullary} {τ : Ty} {Ψ Ψ' Φ Φ' : Cap} → NullaryTyped o Ψ τ Φ → Ψ' ≥ᶜ Ψ → Φ ≥ᶜ Φ' → NullaryTyped o Ψ' τ Φ'
nullary_weakens (newtid_typed h) a b = newtid_typed (≥-trans a (≥-trans h b))
nullary_weakens (newlock_typed g h) a b = newlock_typed g (pays_weakens h a b)
nullary_weakens (newsem_typed h) a b = newsem_typed (≥-trans a (≥-trans h b))
nullary_weakens (newrwlock_typed g h) a b = newrwlock_typed g (pays_weakens h a b)

pub typing_weakens : {D : ℕ} {S : Signatures} {N Γ : Env} {Ψ Ψ' Φ Φ' : Cap} {e : Exp} {τ : Ty} → Typed D S N Γ Ψ e τ Φ → Ψ' ≥ᶜ Ψ → Φ ≥ᶜ Φ' →
    Typed D S N Γ Ψ' e τ Φ'
typing_weakens (value_typed v h) a b = value_typed v (≥-trans a (≥-trans h b))
typing_weakens (var_typed v f h) a b = var_typed v f (≥-trans a (≥-trans h b))
typing_weakens (let_typed e₁ e₂) a b = let_typed (typing_weakens e₁ a ≥-refl) (typing_weakens e₂ ≥-refl b)
typing_weakens (if_typed e₁ e₂) a b = if_typed (typing_weakens e₁ a b) (typing_weakens e₂ a b)
typing_weakens (while_typed e g h) a b = while_typed e (≥-trans a g) (≥-trans h b)
typing_weakens (spawn_typed e₁ e₂ h) a b = spawn_typed (typing_weakens e₁ a ≥-refl) e₂ (pays_weakens h ≥-refl b)
typing_weakens (write_typed e₁ e₂ g h) a b = write_typed (typing_weakens e₁ a ≥-refl) e₂ g (≥-trans h b)
typing_weakens (unary_typed e o) a b = unary_typed (typing_weakens e a ≥-refl) (unary_weakens o ≥-refl b)
typing_weakens (nullary_typed o) a b = nullary_typed (nullary_weakens o a b)

-- ---- Figure 5 gives it

pub derived_is_typed : {D : ℕ} {S : Signatures} {Γ : Env} {Ψ Φ : Cap} {e : Exp} {τ : Ty} (N : Env) → D ∣ S ∣ Γ ∣ Ψ ⊢ e ∶ τ ∣ Φ → Typed D S N Γ Ψ e τ Φ
derived_is_typed N (VAR h f) = var_typed h f ≥-refl
derived_is_typed N INT = value_typed int_typed ≥-refl
derived_is_typed N (LET e₁ e₂) = let_typed (derived_is_typed N e₁) (derived_is_typed N e₂)
derived_is_typed N (IF e₁ g e₂ h) =
    if_typed (typing_weakens (derived_is_typed N e₁) ≥-refl g) (typing_weakens (derived_is_typed N e₂) ≥-refl h)
derived_is_typed N (WHILE e g h) = while_typed (typing_weakens (derived_is_typed N e) ≥-refl g) h ≥-refl
derived_is_typed N NEWT = nullary_typed (newtid_typed ≥-refl)
derived_is_typed N (SPAWN e₁ e₂ g h) = spawn_typed (derived_is_typed N e₁) (typing_weakens (derived_is_typed N e₂) ≥-refl g) (sum_pays h)
derived_is_typed N (JOIN e h) = unary_typed (derived_is_typed N e) (join_typed (sum_gains h))
derived_is_typed N (REF e) = unary_typed (derived_is_typed N e) (ref_typed ≥-refl)
derived_is_typed N (WRITE e₁ e₂ g) = write_typed (derived_is_typed N e₁) (derived_is_typed N e₂) g ≥-refl
derived_is_typed N (READ e g) = unary_typed (derived_is_typed N e) (read_typed g ≥-refl)
derived_is_typed N (NEWL g h) = nullary_typed (newlock_typed g (sum_pays h))
derived_is_typed N (LCK e h) = unary_typed (derived_is_typed N e) (lock_typed (sum_gains h))
derived_is_typed N (ULCK e h) = unary_typed (derived_is_typed N e) (unlock_typed (sum_pays h))
derived_is_typed N NEWSEM = nullary_typed (newsem_typed ≥-refl)
derived_is_typed N (POST e h) = unary_typed (derived_is_typed N e) (post_typed (sum_pays h))
derived_is_typed N (WAIT e h) = unary_typed (derived_is_typed N e) (wait_typed (sum_gains h))
derived_is_typed N (NEWRWLOCK g h) = nullary_typed (newrwlock_typed g (sum_pays h))
derived_is_typed N (RDLOCK e h) = unary_typed (derived_is_typed N e) (hold_typed (rdlock_typed (sum_gains h)))
derived_is_typed N (RDUNLOCK e h) = unary_typed (derived_is_typed N e) (hold_typed (rdunlock_typed (sum_pays h)))
derived_is_typed N (WRLOCK e h) = unary_typed (derived_is_typed N e) (hold_typed (wrlock_typed (sum_gains h)))
derived_is_typed N (WRUNLOCK e h) = unary_typed (derived_is_typed N e) (hold_typed (wrunlock_typed (sum_pays h)))
derived_is_typed N (CALL s e h k) = unary_typed (derived_is_typed N e) (call_typed s (sum_pays h) (sum_gains k))
