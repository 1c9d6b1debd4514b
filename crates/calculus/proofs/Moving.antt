-- One thread of a well-typed state moves: the three ways in which a word changes the state, and that each keeps it well typed.
use Rattle.std.proofs.Common.{Option, None, Some}
use Prim.Native.Nat.{ℕ, ◌+◌, ◌≤◌}
use mathlib.Core.Path.{◌≡◌, refl, sym, ap, ◌∙◌}
use mathlib.Core.Path.{subst as along}
use native.Mathlib.Decide.{ℕ_discrete}
use native.Mathlib.Omega.{arith}
use lib.ListN.{set}
use Rattle.calculus.specs.Expression.{name, Exp, value, plug, choose}
use Rattle.calculus.specs.State.{Slot, unused, Thread, State, Move, update}
use Rattle.calculus.specs.Reduction.{if_unused, becomes, named}
use Rattle.calculus.specs.Capability.{Cap, ◌≥ᶜ◌}
use Rattle.calculus.specs.Figure5.{Ty, tid_type, as_it_is, Signatures, Env, empty, bind}
use Rattle.calculus.proofs.Laws.Maps.{some_injective, none_is_not_some, bind_is_some, update_same, update_other}
use Rattle.calculus.proofs.Laws.Order.{◌+ᶜ◌}
use Rattle.calculus.proofs.Laws.Questions.{unused_tells}
use Rattle.calculus.proofs.Typing.{name_typed, Typed, value_typed}
use Rattle.calculus.proofs.Substitution.{◌⊆◌, ⊆-refl}
use Rattle.calculus.proofs.Pool.{Pool, pool_weakens, Member}
use Rattle.calculus.proofs.Invariant.{SlotTyped, slot_unused, load, keeps, WellTyped, threads_change_keeps, name_change_keeps}

-- The place of the next word of t, the thread that moves: whatever has the word's type σ and leaves what it leaves, Φ, may stand there.
pub record Place (D : ℕ) (S : Signatures) (s : State) (I : WellTyped D S s) (m : Move) (t : Thread)
    (h : Member D S I.N s.threads I.held m.thread t) (σ : Ty) (Φ : Cap) : Type 0 where
  pub back : (N' : Env) (Ψ' : Cap) (e' : Exp) → I.N ⊆ N' → Typed D S N' empty Ψ' e' σ Φ →
      Typed D S N' empty Ψ' (plug t.body e') h.ok.τ h.ok.K

-- The state that a reduction is told to give.
pub told : {D : ℕ} {S : Signatures} {a b : State} → WellTyped D S a → Some a ≡ Some b → WellTyped D S b
told {D} {S} I q = along (λ z. WellTyped D S z) (some_injective q) I

-- The new name n is known beside the others.
fresh_grows : (N : Env) (n : ℕ) (τ : Ty) → N n ≡ None → N ⊆ bind N n τ
fresh_grows N n τ h x σ = by_cases (ℕ_discrete x n)
  where
    by_cases : (d : Dec (x ≡ n)) → N x ≡ Some σ → choose d (Some τ) (N x) ≡ Some σ
    by_cases (yes e) k = none_is_not_some (sym h ∙ ap N (sym e) ∙ k)
    by_cases (no e) k = k

unused_has_no_type : {N : Env} {o : Option Ty} → SlotTyped N unused o → o ≡ None
unused_has_no_type slot_unused = refl

module _ {D : ℕ} {S : Signatures} {s : State} {I : WellTyped D S s} {m : Move} {t : Thread}
    {h : Member D S I.N s.threads I.held m.thread t} {σ : Ty} {Φ : Cap} (M : Place D S s I m t h σ Φ) where
  -- The threads, when the one that moves has e' in the place of its word and holds Ψ'.
  pub moved_pool : (N' : Env) (Ψ' : Cap) (e' : Exp) → I.N ⊆ N' → Typed D S N' empty Ψ' e' σ Φ →
      Pool D S N' (set s.threads m.thread (record { tid = t.tid; body = plug t.body e' })) (Ψ' +ᶜ h.rest)
  moved_pool N' Ψ' e' grows typed =
      h.replaced N' (record { tid = t.tid; body = plug t.body e' }) Ψ' (Ψ' +ᶜ h.rest) grows
      (record {
        K = h.ok.K;
        τ = h.ok.τ;
        known = grows t.tid (tid_type h.ok.K) h.ok.known;
        typed = M.back N' Ψ' e' grows typed;
      })
      (record { at = λ ρ. omega arith })

  -- The word changes nothing but its thread.
  pub thread_alone_keeps : {s' : State} (e' : Exp) → Typed D S I.N empty h.own e' σ Φ →
      Some (becomes s m t s.names e') ≡ Some s' → WellTyped D S s'
  thread_alone_keeps e' typed =
      told (threads_change_keeps I (pool_weakens (record { at = λ ρ. omega (arith, h.split.at ρ) })
      (moved_pool I.N h.own e' (⊆-refl I.N) typed)))

  -- The word changes the slot of a name of type τ. What the thread holds and the slot keeps, together, must not grow.
  pub slot_change_keeps : {s' : State} (n : ℕ) (after : Slot) (τ : Ty) (Ψ' : Cap) (e' : Exp) → I.N n ≡ Some τ → SlotTyped I.N after (Some τ) →
      Typed D S I.N empty Ψ' e' σ Φ →
      ((ρ : ℕ) → Ψ' ρ + keeps after (load (Some τ)) ρ ≤ h.own ρ + keeps (s.names n) (load (Some τ)) ρ) →
      Some (becomes s m t (update s.names n after) e') ≡ Some s' → WellTyped D S s'
  slot_change_keeps n after τ Ψ' e' known ok typed no_more =
      told (name_change_keeps I n after I.N (Ψ' +ᶜ h.rest) (⊆-refl I.N) (λ x z. refl) (rw known ok)
      (λ ρ. omega (arith, no_more ρ, h.split.at ρ, ap (λ o. keeps after (load o) ρ) known, ap (λ o. keeps (s.names n) (load o) ρ) known))
      (moved_pool I.N Ψ' e' (⊆-refl I.N) typed))

  -- The word becomes the name listed, of a new thing. What the new thing keeps, the thread pays.
  pub new_name_keeps : {s' : State} (new : Slot) (Ψ' : Cap) →
      (I.N ⊆ bind I.N m.fresh σ → SlotTyped (bind I.N m.fresh σ) new (Some σ)) → Ψ' ≥ᶜ Φ →
      ((ρ : ℕ) → Ψ' ρ + keeps new (load (Some σ)) ρ ≤ h.own ρ) → named s m t new ≡ Some s' → WellTyped D S s'
  new_name_keeps new Ψ' ok enough no_more q =
      let n = m.fresh in
      let N' = bind I.N n σ in
      let (_, e, q₁) = bind_is_some (if_unused (s.names n)) q in
      let known : N' n ≡ Some σ = update_same I.N n (Some σ) in
      let grows : I.N ⊆ N' = fresh_grows I.N n σ (unused_has_no_type (rw (unused_tells (s.names n) e) at (I.slots n))) in
      told (name_change_keeps I n new N' (Ψ' +ᶜ h.rest) grows (λ x z. update_other I.N n x (Some σ) z) (rw known (ok grows))
      (λ ρ. omega (arith, no_more ρ, h.split.at ρ, ap (λ o. keeps new (load o) ρ) known))
      (moved_pool N' Ψ' (value (name n)) grows (value_typed (name_typed known as_it_is) enough))) q₁
