-- Names in any run, of any program: a used name stays used, and names never run out.
use Rattle.std.proofs.Common.{Option, None, Some, slice_get}
use Prim.Native.Nat.{ℕ, suc, ◌≤◌, max}
use mathlib.Core.Path.{◌≡◌, refl}
use mathlib.Core.Path.{subst as along}
use mathlib.Core.Logic.{◌≢◌}
use mathlib.Core.List.{List, [], ◌∷◌}
use native.Mathlib.Decide.{ℕ_discrete}
use native.Mathlib.Omega.{arith}
use Rattle.calculus.specs.Expression.{Value, Unary, join, ref, read, lock, unlock, post, wait, hold, call, Nullary, newtid, newlock, newsem, newrwlock, Redex, let_redex, if_redex, while_redex, spawn_redex, write_redex, unary_redex, nullary_redex, next_word, choose, Procedure, Program}
use Rattle.calculus.specs.State.{LockState, opened, closed, Inside, Slot, unused, identifier, cell, a_lock, semaphore, rwlock, Thread, State, Move, update}
use Rattle.calculus.specs.Reduction.{name_of, if_unused, if_identifier, cell_value, lock_state, if_opened, count, one_less, rw_state, inside_after, if_equal, value_of, word_of, made, named, unary_reduct, reduct, reduce, or_else, attempt, states, start_state}
use Rattle.calculus.specs.Claim.{Every}
use Rattle.calculus.proofs.Laws.Maps.{some_injective, bind_is_some, update_other, update_above}

-- ---- What a reduction does to the names

-- No name has another slot than before, or one has, and is used.
pub data OneChanged (names : ℕ → Slot) : (ℕ → Slot) → Type 0 where
  none_changed : OneChanged names names
  one_changed : (n : ℕ) (sl : Slot) → sl ≢ unused → OneChanged names (update names n sl)

identifier_is_used : identifier ≢ unused
identifier_is_used h = let z : ◌≡◌ {A = ℕ} 0 1 = cc in omega (arith, z)

cell_is_used : {v : Value} → cell v ≢ unused
cell_is_used h = let z : ◌≡◌ {A = ℕ} 0 1 = cc in omega (arith, z)

lock_is_used : {l : LockState} → a_lock l ≢ unused
lock_is_used h = let z : ◌≡◌ {A = ℕ} 0 1 = cc in omega (arith, z)

semaphore_is_used : {c : ℕ} → semaphore c ≢ unused
semaphore_is_used h = let z : ◌≡◌ {A = ℕ} 0 1 = cc in omega (arith, z)

rwlock_is_used : {N : ℕ} {i : Inside} → rwlock N i ≢ unused
rwlock_is_used h = let z : ◌≡◌ {A = ℕ} 0 1 = cc in omega (arith, z)

made_is_used : (o : Nullary) → made o ≢ unused
made_is_used newtid = identifier_is_used
made_is_used newlock = lock_is_used
made_is_used newsem = semaphore_is_used
made_is_used (newrwlock N) = rwlock_is_used

module _ (P : List Procedure) (s : State) (m : Move) (t : Thread) where
  -- The state that a reduction is told to give.
  told : {a b : State} → OneChanged s.names a.names → Some a ≡ Some b → OneChanged s.names b.names
  told h q = along (λ (z : State). OneChanged s.names z.names) (some_injective q) h

  named_changes_one : (new : Slot) (s' : State) → new ≢ unused → named s m t new ≡ Some s' → OneChanged s.names s'.names
  named_changes_one new s' used q =
      let (_, _, q₁) = bind_is_some (if_unused (s.names m.fresh)) q in
      told (one_changed m.fresh new used) q₁

  unary_changes_one : (o : Unary) (v : Value) (s' : State) → unary_reduct P s m t o v ≡ Some s' → OneChanged s.names s'.names
  unary_changes_one join v s' q =
      let (n, _, q₁) = bind_is_some (name_of v) q in
      let (_, _, q₂) = bind_is_some (if_identifier (s.names n)) q₁ in
      let (u, _, q₃) = bind_is_some (slice_get s.threads m.finished) q₂ in
      let (_, _, q₄) = bind_is_some (if_equal u.tid n) q₃ in
      let (_, _, q₅) = bind_is_some (value_of (next_word u.body)) q₄ in
      told none_changed q₅
  unary_changes_one ref v s' q = named_changes_one _ s' cell_is_used q
  unary_changes_one read v s' q =
      let (n, _, q₁) = bind_is_some (name_of v) q in
      let (_, _, q₂) = bind_is_some (cell_value (s.names n)) q₁ in
      told none_changed q₂
  unary_changes_one lock v s' q =
      let (n, _, q₁) = bind_is_some (name_of v) q in
      let (l, _, q₂) = bind_is_some (lock_state (s.names n)) q₁ in
      let (_, _, q₃) = bind_is_some (if_opened l) q₂ in
      told (one_changed n (a_lock closed) lock_is_used) q₃
  unary_changes_one unlock v s' q =
      let (n, _, q₁) = bind_is_some (name_of v) q in
      let (_, _, q₂) = bind_is_some (lock_state (s.names n)) q₁ in
      told (one_changed n (a_lock opened) lock_is_used) q₂
  unary_changes_one post v s' q =
      let (n, _, q₁) = bind_is_some (name_of v) q in
      let (c, _, q₂) = bind_is_some (count (s.names n)) q₁ in
      told (one_changed n (semaphore (suc c)) semaphore_is_used) q₂
  unary_changes_one wait v s' q =
      let (n, _, q₁) = bind_is_some (name_of v) q in
      let (c, _, q₂) = bind_is_some (count (s.names n)) q₁ in
      let (left, _, q₃) = bind_is_some (one_less c) q₂ in
      told (one_changed n (semaphore left) semaphore_is_used) q₃
  unary_changes_one (hold w) v s' q =
      let (n, _, q₁) = bind_is_some (name_of v) q in
      let (p, _, q₂) = bind_is_some (rw_state (s.names n)) q₁ in
      let (after, _, q₃) = bind_is_some (inside_after p.0 w p.1) q₂ in
      told (one_changed n (rwlock p.0 after) rwlock_is_used) q₃
  unary_changes_one (call f) v s' q =
      let (_, _, q₁) = bind_is_some (slice_get P f) q in
      told none_changed q₁

  reduct_changes_one : (r : Redex) (s' : State) → reduct P s m t r ≡ Some s' → OneChanged s.names s'.names
  reduct_changes_one (let_redex x v e) s' q = told none_changed q
  reduct_changes_one (if_redex e₁ e₂) s' q = told none_changed q
  reduct_changes_one (while_redex e) s' q = told none_changed q
  reduct_changes_one (spawn_redex v e) s' q =
      let (n, _, q₁) = bind_is_some (name_of v) q in
      let (_, _, q₂) = bind_is_some (if_identifier (s.names n)) q₁ in
      told none_changed q₂
  reduct_changes_one (write_redex v w) s' q =
      let (n, _, q₁) = bind_is_some (name_of v) q in
      let (_, _, q₂) = bind_is_some (cell_value (s.names n)) q₁ in
      told (one_changed n (cell w) cell_is_used) q₂
  reduct_changes_one (unary_redex o v) s' q = unary_changes_one o v s' q
  reduct_changes_one (nullary_redex o) s' q = named_changes_one _ s' (made_is_used o) q

pub attempt_changes_one : (P : List Procedure) (s : State) (m : Move) → OneChanged s.names (attempt P s m).names
unfolding attempt reduce
attempt_changes_one P s m = by_cases (reduce P s m) refl
  where
    by_cases : (o : Option State) → reduce P s m ≡ o → OneChanged s.names (or_else o s).names
    by_cases None q = none_changed
    by_cases (Some s') q =
        let (t, _, q₁) = bind_is_some (slice_get s.threads m.thread) q in
        let (r, _, q₂) = bind_is_some (word_of (next_word t.body)) q₁ in
        reduct_changes_one P s m t r s' q₂

-- ---- A used name stays used

change_keeps_used : {f g : ℕ → Slot} → OneChanged f g → (n : ℕ) → f n ≢ unused → g n ≢ unused
change_keeps_used none_changed n h = h
change_keeps_used {f} (one_changed k sl d) n h = by_cases (ℕ_discrete n k)
  where
    by_cases : (e : Dec (n ≡ k)) → choose e sl (f n) ≢ unused
    by_cases (yes e) = d
    by_cases (no e) = h

pub used_name_stays_used : (P : List Procedure) (s : State) (m : Move) (n : ℕ) → s.names n ≢ unused → (attempt P s m).names n ≢ unused
used_name_stays_used P s m = change_keeps_used (attempt_changes_one P s m)

-- ---- Names never run out

-- From some number on every name is unused.
pub record Bounded (names : ℕ → Slot) : Type 0 where
  pub top : ℕ
  pub above : (n : ℕ) → top ≤ n → names n ≡ unused

change_keeps_bound : {f g : ℕ → Slot} → OneChanged f g → Bounded f → Bounded g
change_keeps_bound none_changed B = B
change_keeps_bound {f} (one_changed n sl d) B = record { top = max (suc n) B.top; above = update_above f n B.top sl unused B.above }

run_has_unused_names : (P : List Procedure) (ms : List Move) (s : State) → Bounded s.names →
    Every (λ s'. (n : ℕ) × (s'.names n ≡ unused)) (states P ms s)
unfolding states
run_has_unused_names P [] s B = ((B.top, B.above B.top (omega arith)), tt)
run_has_unused_names P (m ∷ ms) s B =
    ((B.top, B.above B.top (omega arith)), run_has_unused_names P ms (attempt P s m) (change_keeps_bound (attempt_changes_one P s m) B))

-- In every state on the way some name is unused.
pub names_never_run_out : (p : Program) (ms : List Move) →
    Every (λ s. (n : ℕ) × (s.names n ≡ unused)) (states p.procedures ms (start_state p))
unfolding start_state
names_never_run_out p ms =
    run_has_unused_names p.procedures ms (start_state p)
    (record { top = 1; above = λ n h. update_other (λ k. unused) 0 n identifier (omega arith) })
