-- Well-typed states (Definition 2.3), and the two ways in which a change keeps them well typed.
use Rattle.std.proofs.Common.{Option, None, Some}
use Prim.Native.Nat.{ℕ, suc, ◌+◌, ◌-◌, ◌*◌, ◌≤◌, max}
use mathlib.Core.Path.{◌≡◌, refl, ap, ◌∙◌}
use mathlib.Core.Logic.{◌≢◌}
use mathlib.Core.List.{List}
use native.Mathlib.Decide.{ℕ_discrete}
use native.Mathlib.Omega.{arith}
use Rattle.calculus.specs.Expression.{Value, choose}
use Rattle.calculus.specs.State.{LockState, opened, closed, Inside, readers, writer, Slot, unused, identifier, cell, a_lock, semaphore, rwlock, Thread, State, update}
use Rattle.calculus.specs.Capability.{Cap, nothing, ◌×ᶜ◌, ◌≥ᶜ◌}
use Rattle.calculus.specs.Figure5.{Ty, int_type, ref_type, lock_type, tid_type, sem_type, rwlock_type, Signatures, Env}
use Rattle.calculus.proofs.Laws.Maps.{update_same, update_other, update_above}
use Rattle.calculus.proofs.Typing.{ValueTyped}
use Rattle.calculus.proofs.Substitution.{◌⊆◌, value_grows}
use Rattle.calculus.proofs.Pool.{Pool}
use Rattle.calculus.proofs.Laws.Total.{total, total_with_one_changed}

-- ---- Slots

-- A slot has the type that its name has; a name has none until it is used. A lock's type does not change as it opens and
-- closes, and hands out no more than it takes; a read-write lock takes a share for each of its reading places.
pub data SlotTyped (N : Env) : Slot → Option Ty → Type 0 where
  slot_unused : SlotTyped N unused None
  slot_identifier : {K : Cap} → SlotTyped N identifier (Some (tid_type K))
  slot_cell : {v : Value} {ρ : ℕ} {τ : Ty} → ValueTyped N v τ → SlotTyped N (cell v) (Some (ref_type ρ τ))
  slot_lock : {l : LockState} {Ψᵢ Ψₒ : Cap} → Ψₒ ≥ᶜ Ψᵢ → SlotTyped N (a_lock l) (Some (lock_type Ψᵢ Ψₒ))
  slot_semaphore : {c : ℕ} {K : Cap} → SlotTyped N (semaphore c) (Some (sem_type K))
  slot_rwlock : {M : ℕ} {i : Inside} {Ψr Ψw : Cap} → Ψw ≥ᶜ M ×ᶜ Ψr → SlotTyped N (rwlock M i) (Some (rwlock_type Ψr Ψw))

slot_grows : {N N' : Env} {sl : Slot} {o : Option Ty} → N ⊆ N' → SlotTyped N sl o → SlotTyped N' sl o
slot_grows s slot_unused = slot_unused
slot_grows s slot_identifier = slot_identifier
slot_grows s (slot_cell t) = slot_cell (value_grows s t)
slot_grows s (slot_lock h) = slot_lock h
slot_grows s slot_semaphore = slot_semaphore
slot_grows s (slot_rwlock h) = slot_rwlock h

-- The slot of a name, read off the name's type: one row a kind of thing.
pub identifier_there : {N : Env} {sl : Slot} {K : Cap} → SlotTyped N sl (Some (tid_type K)) → sl ≡ identifier
identifier_there slot_identifier = refl

pub cell_there : {N : Env} {sl : Slot} {ρ : ℕ} {τ : Ty} → SlotTyped N sl (Some (ref_type ρ τ)) → (v : Value) × (sl ≡ cell v) × ValueTyped N v τ
cell_there (slot_cell {v = v} t) = (v, refl, t)

pub lock_there : {N : Env} {sl : Slot} {Ψᵢ Ψₒ : Cap} → SlotTyped N sl (Some (lock_type Ψᵢ Ψₒ)) → (l : LockState) × (sl ≡ a_lock l) × Ψₒ ≥ᶜ Ψᵢ
lock_there (slot_lock {l = l} h) = (l, refl, h)

pub semaphore_there : {N : Env} {sl : Slot} {K : Cap} → SlotTyped N sl (Some (sem_type K)) → (c : ℕ) × (sl ≡ semaphore c)
semaphore_there (slot_semaphore {c = c}) = (c, refl)

pub rwlock_there : {N : Env} {sl : Slot} {Ψr Ψw : Cap} → SlotTyped N sl (Some (rwlock_type Ψr Ψw)) →
    (M : ℕ) × (i : Inside) × (sl ≡ rwlock M i) × Ψw ≥ᶜ M ×ᶜ Ψr
rwlock_there (slot_rwlock {M = M} {i = i} h) = (M, i, refl, h)

-- What a thing of that type takes and can hand over: the whole of it, and a reader's share.
pub record Load : Type 0 where
  pub whole : Cap
  pub share : Cap

abbrev no_load : Load
no_load = record { whole = nothing; share = nothing }

abbrev pub load : Option Ty → Load
load None = no_load
load (Some int_type) = no_load
load (Some (ref_type ρ τ)) = no_load
load (Some (lock_type Ψᵢ Ψₒ)) = record { whole = Ψₒ; share = nothing }
load (Some (tid_type K)) = no_load
load (Some (sem_type K)) = record { whole = K; share = nothing }
load (Some (rwlock_type Ψr Ψw)) = record { whole = Ψw; share = Ψr }

-- What a slot keeps, of a thing with that load: an open lock keeps it whole, a semaphore as often as it counts, a read-write lock less
-- the shares of the reading holds that are out and nothing while a writer is in, and nothing else keeps any.
abbrev pub keeps : Slot → Load → Cap
keeps unused K = nothing
keeps identifier K = nothing
keeps (cell v) K = nothing
keeps (a_lock opened) K = K.whole
keeps (a_lock closed) K = nothing
keeps (semaphore c) K = c ×ᶜ K.whole
keeps (rwlock N (readers k)) K = λ ρ. K.whole ρ - k * K.share ρ
keeps (rwlock N writer) K = nothing

-- What the thing named n keeps of location ρ.
abbrev pub kept : (ℕ → Slot) → Env → ℕ → ℕ → ℕ
kept names N ρ n = keeps (names n) (load (N n)) ρ

-- ---- States

-- The types N of the names, and what the threads hold together, are such that every thread and every slot is typed, and of no
-- location is more than the whole, D, held and kept. Above `top` every name is unused, so names do not run out.
pub record WellTyped (D : ℕ) (S : Signatures) (s : State) : Type 0 where
  pub N : Env
  pub held : Cap
  pub pool : Pool D S N s.threads held
  pub slots : (n : ℕ) → SlotTyped N (s.names n) (N n)
  pub budget : (ρ b : ℕ) → held ρ + total (kept s.names N ρ) b ≤ D
  pub top : ℕ
  pub above : (n : ℕ) → top ≤ n → s.names n ≡ unused

-- Other threads that hold no more, and the same names.
pub threads_change_keeps : {D : ℕ} {S : Signatures} {s : State} {ts : List Thread} (I : WellTyped D S s) → Pool D S I.N ts I.held →
    WellTyped D S (record { threads = ts; names = s.names })
threads_change_keeps I P = record { N = I.N; held = I.held; pool = P; slots = I.slots; budget = I.budget; top = I.top; above = I.above }

-- Other threads, and one name n with another slot and perhaps a first type: no more may be held, and kept at n, than before.
-- This is the one place that looks into the sum over the names.
module _ {D : ℕ} {S : Signatures} {s : State} (I : WellTyped D S s) (n : ℕ) (sl : Slot) (N' : Env) (held' : Cap)
    (grows : I.N ⊆ N') (elsewhere : (m : ℕ) → m ≢ n → N' m ≡ I.N m) (ok : SlotTyped N' sl (N' n))
    (no_more : (ρ : ℕ) → held' ρ + keeps sl (load (N' n)) ρ ≤ I.held ρ + kept s.names I.N ρ n) where
  changed_slots : (m : ℕ) → SlotTyped N' (update s.names n sl m) (N' m)
  changed_slots m = by_cases (ℕ_discrete m n)
    where
      by_cases : (d : Dec (m ≡ n)) → SlotTyped N' (choose d sl (s.names m)) (N' m)
      by_cases (yes e) = rw e ok
      by_cases (no e) = rw (elsewhere m e) (slot_grows grows (I.slots m))

  kept_there : (ρ : ℕ) → kept (update s.names n sl) N' ρ n ≡ keeps sl (load (N' n)) ρ
  kept_there ρ = ap (λ z. keeps z (load (N' n)) ρ) (update_same s.names n sl)

  kept_elsewhere : (ρ m : ℕ) → m ≢ n → kept (update s.names n sl) N' ρ m ≡ kept s.names I.N ρ m
  kept_elsewhere ρ m e =
      ap (λ z. keeps z (load (N' m)) ρ) (update_other s.names n m sl e) ∙ ap (λ z. keeps (s.names m) (load z) ρ) (elsewhere m e)

  changed_budget : (ρ b : ℕ) → held' ρ + total (kept (update s.names n sl) N' ρ) b ≤ D
  changed_budget ρ b =
      let before = kept s.names I.N ρ in
      let after = kept (update s.names n sl) N' ρ in
      let (c, sum) = total_with_one_changed before after n (λ m e. omega (arith, kept_elsewhere ρ m e)) b in
      omega (arith, sum, kept_there ρ, no_more ρ, I.budget ρ c)

  pub name_change_keeps : {ts : List Thread} → Pool D S N' ts held' → WellTyped D S (record { threads = ts; names = update s.names n sl })
  name_change_keeps P = record {
    N = N';
    held = held';
    pool = P;
    slots = changed_slots;
    budget = changed_budget;
    top = max (suc n) I.top;
    above = update_above s.names n I.top sl unused I.above;
  }
