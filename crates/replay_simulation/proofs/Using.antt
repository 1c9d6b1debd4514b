-- A word that uses what its part names: in the machine a question about the slot, on numbers a function of the thing that the slot is there. Word by word and
-- slot by slot they give the same.
use Rattle.std.proofs.Common.{Option, None, Some}
use Prim.Native.Nat.{ℕ, zero, suc, ◌+◌, ◌-◌, ◌<◌}
use mathlib.Core.Path.{◌≡◌, refl}
use mathlib.Core.List.{List}
use native.Mathlib.Omega.{arith}
use native.Mathlib.Decide.{dec_lt}
use borrow.Author.Tests.{lt-ltb, le-ltb, ne_eqb}
use Rattle.spec.specs.declared.Word.TheVariants.{Unary}
use Rattle.calculus.specs.Expression as calculus
use Rattle.calculus.specs.Expression.{Value, int, name, read, lock, unlock, post, wait, hold, rdlock, rdunlock, wrlock, wrunlock, choose}
use Rattle.calculus.specs.State as state
use Rattle.calculus.specs.State.{opened, closed, readers, writer, unused, identifier, cell, a_lock, semaphore, rwlock}
use Rattle.calculus.specs.Reduction.{◌>>=◌, ◌>>◌, cell_value, lock_state, if_opened, count, one_less, rw_state, inside_after}
use Rattle.workspace.specs.Layout.{rule_of, code_of, printed}
use Rattle.replay_objects.specs.declared.Thing.TheVariants.{Rwlock}
use Rattle.replay_objects.specs.declared.StepEffect.{StepEffect}
use Rattle.replay_objects.specs.declared.StepEffect.TheVariants.{Returns, Updates}
use Rattle.replay_objects.specs.Uses.{read_of, locked_of, unlocked_of, posted_of, waited_of, rdlocked_of, rdunlocked_of, wrlocked_of, wrunlocked_of, effect_of}
use Rattle.replay_machine.specs.Environment.{Env}
use Rattle.replay_machine.specs.Control.{Frame}
use Rattle.replay_machine.specs.State.{Machine}
use Rattle.replay_machine.specs.Step.{gives, leaves, step_unary}
use Rattle.replay_simulation.proofs.Held.{code_value, part_word}
use Rattle.replay_simulation.proofs.Holds.{coded}
use Rattle.replay_simulation.proofs.Naming.{slot_of}

-- ------------------------------------------------------------------ in the machine

-- what the word becomes, or what it leaves
pub data Use : Type 0 where
  gave : Value → Use
  left : state.Slot → Use

-- the words that use what their part names and touch no thread
pub data Using : calculus.Unary → Type 0 where
  using_read : Using read
  using_lock : Using lock
  using_unlock : Using unlock
  using_post : Using post
  using_wait : Using wait
  using_rdlock : Using (hold rdlock)
  using_rdunlock : Using (hold rdunlock)
  using_wrlock : Using (hold wrlock)
  using_wrunlock : Using (hold wrunlock)

abbrev pub use_of : calculus.Unary → state.Slot → Option Use
use_of calculus.join sl = None
use_of calculus.ref sl = None
use_of read sl = cell_value sl >>= λ v. Some (gave v)
use_of lock sl = lock_state sl >>= λ l. if_opened l >>= λ u. Some (left (a_lock closed))
use_of unlock sl = lock_state sl >>= λ l. Some (left (a_lock opened))
use_of post sl = count sl >>= λ c. Some (left (semaphore (suc c)))
use_of wait sl = count sl >>= λ c. one_less c >>= λ d. Some (left (semaphore d))
use_of (calculus.call f) sl = None
use_of (hold w) sl = rw_state sl >>= λ (N, i). inside_after N w i >>= λ after. Some (left (rwlock N after))

abbrev pub name_in : Value → ℕ
name_in (int k) = 0
name_in (name n) = n

module _ (M : Machine) (i tid : ℕ) (σ : Env) (K : List Frame) where
  abbrev pub used_to : (n : ℕ) → Use → Machine
  used_to n (gave v) = gives M i tid σ K M.names v
  used_to n (left sl) = leaves M i tid σ K n sl

  abbrev Asked : calculus.Unary → (n : ℕ) → state.Slot → Option Machine
  Asked o n sl = use_of o sl >>= λ u. Some (used_to n u)

  read_asks : (n : ℕ) (sl : state.Slot) → (cell_value sl >>= λ w. Some (gives M i tid σ K M.names w)) ≡ Asked read n sl
  read_asks n unused = refl
  read_asks n identifier = refl
  read_asks n (cell v) = refl
  read_asks n (a_lock l) = refl
  read_asks n (semaphore c) = refl
  read_asks n (rwlock N x) = refl

  lock_asks : (n : ℕ) (sl : state.Slot) → (lock_state sl >>= λ l. if_opened l >> Some (leaves M i tid σ K n (a_lock closed))) ≡ Asked lock n sl
  lock_asks n unused = refl
  lock_asks n identifier = refl
  lock_asks n (cell v) = refl
  lock_asks n (a_lock opened) = refl
  lock_asks n (a_lock closed) = refl
  lock_asks n (semaphore c) = refl
  lock_asks n (rwlock N x) = refl

  unlock_asks : (n : ℕ) (sl : state.Slot) → (lock_state sl >> Some (leaves M i tid σ K n (a_lock opened))) ≡ Asked unlock n sl
  unlock_asks n unused = refl
  unlock_asks n identifier = refl
  unlock_asks n (cell v) = refl
  unlock_asks n (a_lock l) = refl
  unlock_asks n (semaphore c) = refl
  unlock_asks n (rwlock N x) = refl

  post_asks : (n : ℕ) (sl : state.Slot) → (count sl >>= λ c. Some (leaves M i tid σ K n (semaphore (suc c)))) ≡ Asked post n sl
  post_asks n unused = refl
  post_asks n identifier = refl
  post_asks n (cell v) = refl
  post_asks n (a_lock l) = refl
  post_asks n (semaphore c) = refl
  post_asks n (rwlock N x) = refl

  wait_asks : (n : ℕ) (sl : state.Slot) → (count sl >>= λ c. one_less c >>= λ d. Some (leaves M i tid σ K n (semaphore d))) ≡ Asked wait n sl
  wait_asks n unused = refl
  wait_asks n identifier = refl
  wait_asks n (cell v) = refl
  wait_asks n (a_lock l) = refl
  wait_asks n (semaphore zero) = refl
  wait_asks n (semaphore (suc c)) = refl
  wait_asks n (rwlock N x) = refl

  inside_asks : (w : calculus.HoldWord) (n N : ℕ) (o : Option state.Inside) → (o >>= λ after. Some (leaves M i tid σ K n (rwlock N after))) ≡ ((o >>= λ after. Some (left (rwlock N after))) >>= λ u. Some (used_to n u))
  inside_asks w n N None = refl
  inside_asks w n N (Some x) = refl

  hold_asks : (w : calculus.HoldWord) (n : ℕ) (sl : state.Slot) → (rw_state sl >>= λ (N, x). inside_after N w x >>= λ after. Some (leaves M i tid σ K n (rwlock N after))) ≡ Asked (hold w) n sl
  hold_asks w n unused = refl
  hold_asks w n identifier = refl
  hold_asks w n (cell v) = refl
  hold_asks w n (a_lock l) = refl
  hold_asks w n (semaphore c) = refl
  hold_asks w n (rwlock N x) = inside_asks w n N (inside_after N w x)

  pub step_asks : (o : calculus.Unary) → Using o → (v : Value) → step_unary M i tid σ K o v ≡ Asked o (name_in v) (slot_of M.names v)
  step_asks read using_read (int k) = refl
  step_asks read using_read (name n) = read_asks n (M.names n)
  step_asks lock using_lock (int k) = refl
  step_asks lock using_lock (name n) = lock_asks n (M.names n)
  step_asks unlock using_unlock (int k) = refl
  step_asks unlock using_unlock (name n) = unlock_asks n (M.names n)
  step_asks post using_post (int k) = refl
  step_asks post using_post (name n) = post_asks n (M.names n)
  step_asks wait using_wait (int k) = refl
  step_asks wait using_wait (name n) = wait_asks n (M.names n)
  step_asks (hold rdlock) using_rdlock (int k) = refl
  step_asks (hold rdlock) using_rdlock (name n) = hold_asks rdlock n (M.names n)
  step_asks (hold rdunlock) using_rdunlock (int k) = refl
  step_asks (hold rdunlock) using_rdunlock (name n) = hold_asks rdunlock n (M.names n)
  step_asks (hold wrlock) using_wrlock (int k) = refl
  step_asks (hold wrlock) using_wrlock (name n) = hold_asks wrlock n (M.names n)
  step_asks (hold wrunlock) using_wrunlock (int k) = refl
  step_asks (hold wrunlock) using_wrunlock (name n) = hold_asks wrunlock n (M.names n)
  step_asks calculus.join u v = elim u [ ]
  step_asks calculus.ref u v = elim u [ ]
  step_asks (calculus.call f) u v = elim u [ ]

-- ------------------------------------------------------------------ on numbers

-- what the code makes of it
abbrev pub effect : Option Use → Option StepEffect
effect None = None
effect (Some (gave v)) = Some (Returns (code_value v))
effect (Some (left sl)) = Some (Updates (coded sl))

-- a count that can still be raised
abbrev pub Roomy : state.Slot → Type 0
Roomy unused = Unit {0}
Roomy identifier = Unit {0}
Roomy (cell v) = Unit {0}
Roomy (a_lock l) = Unit {0}
Roomy (semaphore c) = suc c < 18446744073709551616
Roomy (rwlock N x) = Unit {0}

read_used : (sl : state.Slot) → read_of (coded sl) ≡ effect (use_of read sl)
unfolding read_of
read_used unused = refl
read_used identifier = refl
read_used (cell v) = refl
read_used (a_lock opened) = refl
read_used (a_lock closed) = refl
read_used (semaphore c) = refl
read_used (rwlock N (readers k)) = refl
read_used (rwlock N writer) = refl

lock_used : (sl : state.Slot) → locked_of (coded sl) ≡ effect (use_of lock sl)
unfolding locked_of
lock_used unused = refl
lock_used identifier = refl
lock_used (cell v) = refl
lock_used (a_lock opened) = refl
lock_used (a_lock closed) = refl
lock_used (semaphore c) = refl
lock_used (rwlock N (readers k)) = refl
lock_used (rwlock N writer) = refl

unlock_used : (sl : state.Slot) → unlocked_of (coded sl) ≡ effect (use_of unlock sl)
unfolding unlocked_of
unlock_used unused = refl
unlock_used identifier = refl
unlock_used (cell v) = refl
unlock_used (a_lock opened) = refl
unlock_used (a_lock closed) = refl
unlock_used (semaphore c) = refl
unlock_used (rwlock N (readers k)) = refl
unlock_used (rwlock N writer) = refl

post_used : (sl : state.Slot) → Roomy sl → posted_of (coded sl) ≡ effect (use_of post sl)
unfolding posted_of
post_used unused r = refl
post_used identifier r = refl
post_used (cell v) r = refl
post_used (a_lock opened) r = refl
post_used (a_lock closed) r = refl
post_used (semaphore c) r = let e : c + 1 ≡ suc c = omega arith in rw (lt-ltb c 18446744073709551615 (omega (arith, r)), e)
post_used (rwlock N (readers k)) r = refl
post_used (rwlock N writer) r = refl

wait_used : (sl : state.Slot) → waited_of (coded sl) ≡ effect (use_of wait sl)
unfolding waited_of
wait_used unused = refl
wait_used identifier = refl
wait_used (cell v) = refl
wait_used (a_lock opened) = refl
wait_used (a_lock closed) = refl
wait_used (semaphore zero) = refl
wait_used (semaphore (suc c)) = let e : suc c - 1 ≡ c = omega arith in rw (lt-ltb 0 (suc c) (omega arith), e)
wait_used (rwlock N (readers k)) = refl
wait_used (rwlock N writer) = refl

-- one reader more, if there is a place
reads_in : (N k : ℕ) (d : Dec (k < N)) → rdlocked_of (Rwlock N k) ≡ effect (choose d (Some (readers (suc k))) None >>= λ after. Some (left (rwlock N after)))
unfolding rdlocked_of
reads_in N k (yes l) = let e : k + 1 ≡ suc k = omega arith in rw (lt-ltb k N l, e)
reads_in N k (no f) = rw (le-ltb k N (omega (arith, f)))

rdlock_used : (sl : state.Slot) → rdlocked_of (coded sl) ≡ effect (use_of (hold rdlock) sl)
unfolding rdlocked_of
rdlock_used unused = refl
rdlock_used identifier = refl
rdlock_used (cell v) = refl
rdlock_used (a_lock opened) = refl
rdlock_used (a_lock closed) = refl
rdlock_used (semaphore c) = refl
rdlock_used (rwlock N (readers k)) = reads_in N k (dec_lt k N)
rdlock_used (rwlock N writer) = refl

rdunlock_used : (sl : state.Slot) → rdunlocked_of (coded sl) ≡ effect (use_of (hold rdunlock) sl)
unfolding rdunlocked_of
rdunlock_used unused = refl
rdunlock_used identifier = refl
rdunlock_used (cell v) = refl
rdunlock_used (a_lock opened) = refl
rdunlock_used (a_lock closed) = refl
rdunlock_used (semaphore c) = refl
rdunlock_used (rwlock N (readers zero)) = refl
rdunlock_used (rwlock N (readers (suc k))) = let e : suc k - 1 ≡ k = omega arith in rw (lt-ltb 0 (suc k) (omega arith), e)
rdunlock_used (rwlock N writer) = refl

wrlock_used : (sl : state.Slot) → wrlocked_of (coded sl) ≡ effect (use_of (hold wrlock) sl)
unfolding wrlocked_of
wrlock_used unused = refl
wrlock_used identifier = refl
wrlock_used (cell v) = refl
wrlock_used (a_lock opened) = refl
wrlock_used (a_lock closed) = refl
wrlock_used (semaphore c) = refl
wrlock_used (rwlock N (readers zero)) = refl
wrlock_used (rwlock N (readers (suc k))) = rw (ne_eqb (suc k) 0 (λ e. omega (arith, e)))
wrlock_used (rwlock N writer) = refl

wrunlock_used : (sl : state.Slot) → wrunlocked_of (coded sl) ≡ effect (use_of (hold wrunlock) sl)
unfolding wrunlocked_of
wrunlock_used unused = refl
wrunlock_used identifier = refl
wrunlock_used (cell v) = refl
wrunlock_used (a_lock opened) = refl
wrunlock_used (a_lock closed) = refl
wrunlock_used (semaphore c) = refl
wrunlock_used (rwlock N (readers k)) = refl
wrunlock_used (rwlock N writer) = refl

pub uses_alike : (o : calculus.Unary) → Using o → (sl : state.Slot) → Roomy sl → (v : ℕ) → effect_of (rule_of (code_of (Unary (part_word o)))) (coded sl) v ≡ effect (use_of o sl)
unfolding effect_of rule_of printed
uses_alike read using_read sl r v = read_used sl
uses_alike lock using_lock sl r v = lock_used sl
uses_alike unlock using_unlock sl r v = unlock_used sl
uses_alike post using_post sl r v = post_used sl r
uses_alike wait using_wait sl r v = wait_used sl
uses_alike (hold rdlock) using_rdlock sl r v = rdlock_used sl
uses_alike (hold rdunlock) using_rdunlock sl r v = rdunlock_used sl
uses_alike (hold wrlock) using_wrlock sl r v = wrlock_used sl
uses_alike (hold wrunlock) using_wrunlock sl r v = wrunlock_used sl
uses_alike calculus.join u sl r v = elim u [ ]
uses_alike calculus.ref u sl r v = elim u [ ]
uses_alike (calculus.call f) u sl r v = elim u [ ]
