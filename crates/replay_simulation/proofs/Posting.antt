-- A semaphore's count is at most the number of steps done, since a step raises one count by one. So the counts of a trace fit where they
-- are stored.
use Rattle.std.proofs.Common.{Some, slice_get}
use Prim.Native.Nat.{ℕ, zero, suc, ◌<◌, ◌≤◌}
use mathlib.Core.Path.{◌≡◌, refl, subst}
use mathlib.Core.Bool.{Bool, true, false}
use mathlib.Core.List.{List}
use native.Mathlib.Omega.{arith}
use native.Mathlib.Decide.{ℕ_discrete}
use Rattle.spec.specs.Program.{Program}
use Rattle.calculus.specs.Expression.{Value, Unary, join, ref, read, lock, unlock, post, wait, hold, call, choose, Nullary, newtid, newlock, newsem, newrwlock}
use Rattle.calculus.specs.State.{Slot, unused, identifier, cell, a_lock, semaphore, rwlock, Part, update}
use Rattle.calculus.specs.Reduction.{name_of, if_identifier, cell_value, lock_state, if_opened, count, one_less, rw_state, inside_after, made}
use Rattle.calculus.proofs.Laws.Maps.{some_injective, none_is_not_some, bind_is_some}
use Rattle.replay_theory.specs.Trace.{TraceLine}
use Rattle.replay_theory.specs.Run.{part_chosen, effect, things_after}
use Rattle.replay_machine.specs.Environment.{Env}
use Rattle.replay_machine.specs.Control.{Frame, Word, let_word, if_word, while_word, spawn_word, write_word, unary_word, nullary_word, unrolled_word, again_word, Control, done, at}
use Rattle.replay_machine.specs.State.{MachineThread, Machine, start_machine}
use Rattle.replay_machine.specs.Step.{lowest, step_unary, step_word, step_control, step_thread, step}
use Rattle.replay_machine.specs.Replay.{Replay, word_of, stepped, start_replay}
use Rattle.replay_simulation.proofs.Using.{Roomy}

abbrev pub Within : (k : ℕ) → Slot → Type 0
Within k a = (c : ℕ) → count a ≡ Some c → c ≤ k

-- every count is at most k
abbrev pub CountsWithin : (k : ℕ) → (ℕ → Slot) → Type 0
CountsWithin k names = (n : ℕ) → Within k (names n)

more : (k : ℕ) (names : ℕ → Slot) → CountsWithin k names → CountsWithin (suc k) names
more k names h n c e = let l = h n c e in omega arith

updated : (k : ℕ) (names : ℕ → Slot) (m : ℕ) (a : Slot) → CountsWithin k names → Within (suc k) a → CountsWithin (suc k) (update names m a)
updated k names m a h w n c e = by_name (ℕ_discrete n m) e
  where
    by_name : (d : Dec (n ≡ m)) → count (choose d a (names n)) ≡ Some c → c ≤ suc k
    by_name (yes z) e = w c e
    by_name (no z) e = more k names h n c e

made_within : (k : ℕ) (o : Nullary) → Within k (made o)
made_within k newtid c e = none_is_not_some e
made_within k newlock c e = none_is_not_some e
made_within k newsem c e = let z : 0 ≡ c = some_injective e in omega (arith, z)
made_within k (newrwlock N) c e = none_is_not_some e

one_less_below : (c d : ℕ) → one_less c ≡ Some d → d ≤ c
one_less_below zero d e = none_is_not_some e
one_less_below (suc c) d e = let z : c ≡ d = some_injective e in omega (arith, z)

module _ (k : ℕ) (M : Machine) (i tid : ℕ) (σ : Env) (K : List Frame) (h : CountsWithin k M.names) where
  told : (N N' : Machine) → CountsWithin (suc k) N.names → Some N ≡ Some N' → CountsWithin (suc k) N'.names
  told N N' w e = subst (λ (x : Machine). CountsWithin (suc k) x.names) (some_injective e) w

  same : CountsWithin (suc k) M.names
  same = more k M.names h

  unary_counts : (o : Unary) (v : Value) (N : Machine) → step_unary M i tid σ K o v ≡ Some N → CountsWithin (suc k) N.names
  unary_counts join v N q =
      let (m, _, q₁) = bind_is_some (name_of v) q in
      let (_, _, q₂) = bind_is_some (if_identifier (M.names m)) q₁ in
      let (j, _, q₃) = bind_is_some (lowest m M.threads) q₂ in
      let (u, _, q₄) = bind_is_some (slice_get M.threads j) q₃ in
      told _ N same q₄
  unary_counts ref v N q = told _ N (updated k M.names M.next (cell v) h (λ c e. none_is_not_some e)) q
  unary_counts read v N q =
      let (m, _, q₁) = bind_is_some (name_of v) q in
      let (u, _, q₂) = bind_is_some (cell_value (M.names m)) q₁ in
      told _ N same q₂
  unary_counts lock v N q =
      let (m, _, q₁) = bind_is_some (name_of v) q in
      let (l, _, q₂) = bind_is_some (lock_state (M.names m)) q₁ in
      let (_, _, q₃) = bind_is_some (if_opened l) q₂ in
      told _ N (updated k M.names m _ h (λ c e. none_is_not_some e)) q₃
  unary_counts unlock v N q =
      let (m, _, q₁) = bind_is_some (name_of v) q in
      let (l, _, q₂) = bind_is_some (lock_state (M.names m)) q₁ in
      told _ N (updated k M.names m _ h (λ c e. none_is_not_some e)) q₂
  unary_counts post v N q =
      let (m, _, q₁) = bind_is_some (name_of v) q in
      let (b, was, q₂) = bind_is_some (count (M.names m)) q₁ in
      let l = h m b was in
      told _ N (updated k M.names m (semaphore (suc b)) h (λ c e. let z : suc b ≡ c = some_injective e in omega (arith, z, l))) q₂
  unary_counts wait v N q =
      let (m, _, q₁) = bind_is_some (name_of v) q in
      let (b, was, q₂) = bind_is_some (count (M.names m)) q₁ in
      let (d, less, q₃) = bind_is_some (one_less b) q₂ in
      let l = h m b was in
      let l₁ = one_less_below b d less in
      told _ N (updated k M.names m (semaphore d) h (λ c e. let z : d ≡ c = some_injective e in omega (arith, z, l, l₁))) q₃
  unary_counts (hold w) v N q =
      let (m, _, q₁) = bind_is_some (name_of v) q in
      let (p, _, q₂) = bind_is_some (rw_state (M.names m)) q₁ in
      let (inside, _, q₃) = bind_is_some (inside_after p.0 w p.1) q₂ in
      told _ N (updated k M.names m (rwlock p.0 inside) h (λ c e. none_is_not_some e)) q₃
  unary_counts (call f) v N q = let (b, _, q₁) = bind_is_some (slice_get M.procedures f) q in told _ N same q₁

  word_counts : (c : Part) (w : Word) (N : Machine) → step_word M i tid σ K c w ≡ Some N → CountsWithin (suc k) N.names
  word_counts c (let_word q x v e) N z = told _ N same z
  word_counts c (if_word q e₁ e₂) N z = told _ N same z
  word_counts c (while_word q e) N z = told _ N same z
  word_counts c (spawn_word q v e) N z =
      let (m, _, z₁) = bind_is_some (name_of v) z in
      let (_, _, z₂) = bind_is_some (if_identifier (M.names m)) z₁ in
      told _ N same z₂
  word_counts c (write_word q v w) N z =
      let (m, _, z₁) = bind_is_some (name_of v) z in
      let (u, _, z₂) = bind_is_some (cell_value (M.names m)) z₁ in
      told _ N (updated k M.names m (cell w) h (λ c e. none_is_not_some e)) z₂
  word_counts c (unary_word q o v) N z = unary_counts o v N z
  word_counts c (nullary_word q o) N z = told _ N (updated k M.names M.next (made o) h (made_within (suc k) o)) z
  word_counts c (unrolled_word q e) N z = told _ N same z
  word_counts c (again_word q v e) N z = told _ N same z

control_counts : (k : ℕ) (M : Machine) (i : ℕ) (c : Part) (tid : ℕ) (b : Control) (N : Machine) → CountsWithin k M.names → step_control M i c tid b ≡ Some N → CountsWithin (suc k) N.names
control_counts k M i c tid (done v) N h q = none_is_not_some q
control_counts k M i c tid (at σ w K) N h q = word_counts k M i tid σ K h c w N q

thread_counts : (k : ℕ) (M : Machine) (i : ℕ) (c : Part) (t : MachineThread) (j : Bool) (N : Machine) → CountsWithin k M.names → step_thread M i c t j ≡ Some N → CountsWithin (suc k) N.names
thread_counts k M i c t true N h q = none_is_not_some q
thread_counts k M i c t false N h q = control_counts k M i c t.tid t.control N h q

step_counts : (k : ℕ) (M : Machine) (i : ℕ) (c : Part) (N : Machine) → CountsWithin k M.names → step M i c ≡ Some N → CountsWithin (suc k) N.names
unfolding step
step_counts k M i c N h q = let (t, _, q₁) = bind_is_some (slice_get M.threads i) q in thread_counts k M i c t t.joined N h q₁

pub stepped_counts : (k : ℕ) (R R' : Replay) (l : TraceLine) → CountsWithin k R.machine.names → stepped R l ≡ Some R' → CountsWithin (suc k) R'.machine.names
unfolding stepped
stepped_counts k R R' l h q =
    let (t, _, q₁) = bind_is_some (slice_get R.machine.threads l.thread) q in
    let (w, _, q₂) = bind_is_some (word_of t.joined t) q₁ in
    let (c, _, q₃) = bind_is_some (part_chosen w l.choice) q₂ in
    let (N, moves, q₄) = bind_is_some (step R.machine l.thread c) q₃ in
    let z : record { machine = N; things = things_after (effect w) R.things } ≡ R' = some_injective {a = record { machine = N; things = things_after (effect w) R.things }} q₄ in
    subst (λ (x : Replay). CountsWithin (suc k) x.machine.names) z (step_counts k R.machine l.thread c N h moves)

pub start_counts : (P : Program) → CountsWithin 0 (start_replay P).machine.names
unfolding start_replay start_machine
start_counts P n c z = by_name (ℕ_discrete n 0) z
  where
    by_name : (d : Dec (n ≡ 0)) → count (choose d identifier unused) ≡ Some c → c ≤ 0
    by_name (yes y) z = none_is_not_some z
    by_name (no y) z = none_is_not_some z

-- while fewer steps than that are done, every count can be raised
pub counts_roomy : (k : ℕ) (names : ℕ → Slot) → suc k < 18446744073709551616 → CountsWithin k names → (n : ℕ) → Roomy (names n)
counts_roomy k names low h n = by_slot (names n) (h n)
  where
    by_slot : (a : Slot) → Within k a → Roomy a
    by_slot unused w = tt
    by_slot identifier w = tt
    by_slot (cell v) w = tt
    by_slot (a_lock l) w = tt
    by_slot (semaphore c) w = let l = w c refl in omega arith
    by_slot (rwlock N x) w = tt
