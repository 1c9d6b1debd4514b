-- The threads of a state and what they hold together.
use Rattle.std.proofs.Common.{Some, slice_get}
use Prim.Native.Nat.{ℕ, zero, suc}
use mathlib.Core.Path.{◌≡◌, refl, ap}
use mathlib.Core.Logic.{◌≢◌}
use mathlib.Core.List.{List, [], ◌∷◌, ◌++◌}
use native.Mathlib.Omega.{arith}
use lib.ListN.{set}
use Rattle.calculus.specs.State.{Thread, remove}
use Rattle.calculus.specs.Capability.{Cap, nothing, ◌≥ᶜ◌}
use Rattle.calculus.specs.Figure5.{Ty, tid_type, Signatures, Env, empty}
use Rattle.calculus.proofs.Laws.Maps.{some_injective, none_is_not_some}
use Rattle.calculus.proofs.Laws.Order.{◌+ᶜ◌, Pays, ≥-refl, pays_weakens}
use Rattle.calculus.proofs.Typing.{Typed}
use Rattle.calculus.proofs.Substitution.{◌⊆◌, ⊆-refl, typing_grows}

-- ---- Threads

-- A thread that holds Ψ ends with what its identifier lends to the thread that joins it (Section 2.2, the rule for t.e).
pub record ThreadTyped (D : ℕ) (S : Signatures) (N : Env) (t : Thread) (Ψ : Cap) : Type 0 where
  pub K : Cap
  pub τ : Ty
  pub known : N t.tid ≡ Some (tid_type K)
  pub typed : Typed D S N empty Ψ t.body τ K

thread_grows : {D : ℕ} {S : Signatures} {N N' : Env} {t : Thread} {Ψ : Cap} → N ⊆ N' → ThreadTyped D S N t Ψ → ThreadTyped D S N' t Ψ
thread_grows {t} s h = record {
  K = h.K;
  τ = h.τ;
  known = s t.tid (tid_type h.K) h.known;
  typed = typing_grows s (⊆-refl empty) h.typed;
}

-- The threads hold at most Ω together.
pub data Pool (D : ℕ) (S : Signatures) (N : Env) : List Thread → Cap → Type 0 where
  pool_nil : {Ω : Cap} → Pool D S N [] Ω
  pool_cons : {t : Thread} {ts : List Thread} {Ψ Φ Ω : Cap} → ThreadTyped D S N t Ψ → Pool D S N ts Φ → Pays Ψ Ω Φ → Pool D S N (t ∷ ts) Ω

pool_grows : {D : ℕ} {S : Signatures} {N N' : Env} {ts : List Thread} {Ω : Cap} → N ⊆ N' → Pool D S N ts Ω → Pool D S N' ts Ω
pool_grows s pool_nil = pool_nil
pool_grows s (pool_cons t ts h) = pool_cons (thread_grows s t) (pool_grows s ts) h

pub pool_weakens : {D : ℕ} {S : Signatures} {N : Env} {ts : List Thread} {Ω Ω' : Cap} → Ω' ≥ᶜ Ω → Pool D S N ts Ω → Pool D S N ts Ω'
pool_weakens s pool_nil = pool_nil
pool_weakens s (pool_cons t ts h) = pool_cons t ts (pays_weakens h s ≥-refl)

-- A new thread, with what it starts with.
pub pool_with_last : {D : ℕ} {S : Signatures} {N : Env} {t : Thread} {ts : List Thread} {Ω Ω' Ψ : Cap} →
    Pool D S N ts Ω → ThreadTyped D S N t Ψ → Pays Ω Ω' Ψ → Pool D S N (ts ++ (t ∷ [])) Ω'
pool_with_last {Ω'} pool_nil h k = pool_cons {Φ = nothing} {Ω = Ω'} h pool_nil (record { at = λ ρ. omega (arith, k.at ρ) })
pool_with_last {Ω'} {Ψ} (pool_cons {Φ = Φ} t ts l) h k =
    pool_cons {Ω = Ω'} t (pool_with_last {Ω' = Φ +ᶜ Ψ} ts h (record { at = λ ρ. omega arith }))
    (record { at = λ ρ. omega (arith, k.at ρ, l.at ρ) })

-- ---- One thread and the others

-- The thread at place i, with what it holds and what the others hold. Another may stand in its place, if it and the others hold
-- no more together; or none may.
pub record Member (D : ℕ) (S : Signatures) (N : Env) (ts : List Thread) (Ω : Cap) (i : ℕ) (t : Thread) : Type 0 where
  pub own : Cap
  pub rest : Cap
  pub split : Pays own Ω rest
  pub ok : ThreadTyped D S N t own
  pub replaced : (N' : Env) (t' : Thread) (Ψ' Ω' : Cap) → N ⊆ N' → ThreadTyped D S N' t' Ψ' → Pays Ψ' Ω' rest → Pool D S N' (set ts i t') Ω'
  pub taken_out : Pool D S N (remove ts i) rest

pub member : {D : ℕ} {S : Signatures} {N : Env} {ts : List Thread} {Ω : Cap} {t : Thread} (i : ℕ) → Pool D S N ts Ω → slice_get ts i ≡ Some t →
    Member D S N ts Ω i t
member i pool_nil h = none_is_not_some h
member zero (pool_cons {Ψ = Ψ} {Φ = Φ} t ts l) h = record {
  own = Ψ;
  rest = Φ;
  split = l;
  ok = rw (some_injective h) at t;
  replaced = λ N' t' Ψ' Ω' s k m. pool_cons k (pool_grows s ts) m;
  taken_out = ts;
}
member (suc i) (pool_cons {Ψ = Ψ} {Φ = Φ} t ts l) h = let r = member i ts h in record {
  own = r.own;
  rest = Ψ +ᶜ r.rest;
  split = record { at = λ ρ. omega (arith, l.at ρ, r.split.at ρ) };
  ok = r.ok;
  replaced = λ N' t' Ψ' Ω' s k m. pool_cons {Φ = Ψ' +ᶜ r.rest} {Ω = Ω'} (thread_grows s t)
      (r.replaced N' t' Ψ' (Ψ' +ᶜ r.rest) s k (record { at = λ ρ. omega arith })) (record { at = λ ρ. omega (arith, m.at ρ) });
  taken_out = pool_cons {Ω = Ψ +ᶜ r.rest} t r.taken_out (record { at = λ ρ. omega arith });
}

-- ---- Two threads

-- What the threads t and u hold.
pub record TwoMembers (D : ℕ) (S : Signatures) (N : Env) (Ω : Cap) (t u : Thread) : Type 0 where
  pub left : Cap
  pub right : Cap
  pub left_ok : ThreadTyped D S N t left
  pub right_ok : ThreadTyped D S N u right
  pub both : Pays left Ω right

pub two_members : {D : ℕ} {S : Signatures} {N : Env} {ts : List Thread} {Ω : Cap} {t u : Thread} (i j : ℕ) → i ≢ j → Pool D S N ts Ω →
    slice_get ts i ≡ Some t → slice_get ts j ≡ Some u → TwoMembers D S N Ω t u
two_members i j d pool_nil h k = none_is_not_some h
two_members zero zero d (pool_cons t ts l) h k = absurd (d refl)
two_members zero (suc j) d (pool_cons {Ψ = Ψ} t ts l) h k = let r = member j ts k in record {
  left = Ψ;
  right = r.own;
  left_ok = rw (some_injective h) at t;
  right_ok = r.ok;
  both = record { at = λ ρ. omega (arith, l.at ρ, r.split.at ρ) };
}
two_members (suc i) zero d (pool_cons {Ψ = Ψ} t ts l) h k = let r = member i ts h in record {
  left = r.own;
  right = Ψ;
  left_ok = r.ok;
  right_ok = rw (some_injective k) at t;
  both = record { at = λ ρ. omega (arith, l.at ρ, r.split.at ρ) };
}
two_members (suc i) (suc j) d (pool_cons t ts l) h k = let r = two_members i j (λ e. d (ap suc e)) ts h k in record {
  left = r.left;
  right = r.right;
  left_ok = r.left_ok;
  right_ok = r.right_ok;
  both = record { at = λ ρ. omega (arith, l.at ρ, r.both.at ρ) };
}
