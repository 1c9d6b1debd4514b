-- The machine's step.
use Rattle.std.specs.Prelude.{ℕ, suc, Bool, true, false, not, ◌&&◌, List, [], ◌∷◌, ◌++◌, eqb, set, Option, None, Some, option_map, slice_get}
use Rattle.spec.specs.Expression.{Position, Expr}
use Rattle.calculus.specs.Expression.{Value, int, name, Unary, join, ref, read, lock, unlock, post, wait, hold, call}
use Rattle.calculus.specs.State.{opened, closed, Slot, cell, a_lock, semaphore, rwlock, Part, first, second, update}
use Rattle.calculus.specs.Reduction.{◌>>=◌, ◌>>◌, name_of, if_identifier, cell_value, lock_state, if_opened, count, one_less, rw_state, inside_after, made}
use Rattle.replay_machine.specs.Environment.{Env, zeros}
use Rattle.replay_machine.specs.Control.{Frame, mark_frame, Word, let_word, if_word, while_word, spawn_word, write_word, unary_word, nullary_word, unrolled_word, again_word, Control, done, at, return, enter, run_part}
use Rattle.replay_machine.specs.State.{MachineThread, Machine, running}

-- ---- The lowest finished thread with an identifier

abbrev pub is_done : Control → Bool
is_done (done v) = true
is_done (at σ w K) = false

abbrev pub joinable : (tid : ℕ) → MachineThread → Bool
joinable n t = not t.joined && (eqb t.tid n && is_done t.control)

abbrev pub first_or : Bool → Option ℕ → Option ℕ
first_or true o = Some 0
first_or false o = option_map suc o

unfoldable pub lowest : (tid : ℕ) → List MachineThread → Option ℕ
lowest n [] = None
lowest n (t ∷ ts) = first_or (joinable n t) (lowest n ts)

-- ---- Steps of one thread

abbrev pub zero_value : Value
zero_value = int 0

abbrev pub part_of : Part → Expr → Expr → Expr
part_of first e₁ e₂ = e₁
part_of second e₁ e₂ = e₂

-- The part of the `if` that a `while` became.
abbrev pub unrolled_part : Part → Env → Position → Expr → List Frame → Control
unrolled_part first σ k e K = run_part σ k e K
unrolled_part second σ k e K = return σ zero_value K

-- The machine in which thread i, with identifier tid, has gone on to b, with these names.
abbrev pub goes_to : Machine → (i tid : ℕ) → (ℕ → Slot) → Control → Machine
goes_to M i tid names b = record { procedures = M.procedures; threads = set M.threads i (running tid b); names = names; next = M.next }

abbrev pub add_thread : MachineThread → Machine → Machine
add_thread t M = record { procedures = M.procedures; threads = M.threads ++ (t ∷ []); names = M.names; next = M.next }

abbrev pub as_joined : MachineThread → MachineThread
as_joined t = record { tid = t.tid; joined = true; control = t.control }

abbrev pub mark_joined : ℕ → MachineThread → Machine → Machine
mark_joined j t M = record { procedures = M.procedures; threads = set M.threads j (as_joined t); names = M.names; next = M.next }

-- Thread i of M, with identifier tid, is at a word in the environment σ, within the frames K.
module _ (M : Machine) (i tid : ℕ) (σ : Env) (K : List Frame) where
  -- The word becomes a value.
  abbrev pub gives : (ℕ → Slot) → Value → Machine
  gives names v = goes_to M i tid names (return σ v K)

  -- The word has done its work on the name n, and becomes 0.
  abbrev pub leaves : ℕ → Slot → Machine
  leaves n slot = gives (update M.names n slot) zero_value

  -- A new thing has the next name.
  abbrev pub creates : Slot → Machine
  creates new = record {
    procedures = M.procedures;
    threads = set M.threads i (running tid (return σ (name M.next) K));
    names = update M.names M.next new;
    next = suc M.next;
  }

  -- The body of a procedure knows its argument alone, and the caller's environment is kept for its end.
  abbrev pub step_unary : Unary → Value → Option Machine
  step_unary join v = do
    n ← name_of v
    if_identifier (M.names n)
    j ← lowest n M.threads
    u ← slice_get M.threads j
    Some (mark_joined j u (gives M.names zero_value))
  step_unary ref v = Some (creates (cell v))
  step_unary read v = do
    n ← name_of v
    w ← cell_value (M.names n)
    Some (gives M.names w)
  step_unary lock v = do
    n ← name_of v
    l ← lock_state (M.names n)
    if_opened l
    Some (leaves n (a_lock closed))
  step_unary unlock v = do
    n ← name_of v
    lock_state (M.names n)
    Some (leaves n (a_lock opened))
  step_unary post v = do
    n ← name_of v
    c ← count (M.names n)
    Some (leaves n (semaphore (suc c)))
  step_unary wait v = do
    n ← name_of v
    c ← count (M.names n)
    left ← one_less c
    Some (leaves n (semaphore left))
  step_unary (hold w) v = do
    n ← name_of v
    (N, inside) ← rw_state (M.names n)
    after ← inside_after N w inside
    Some (leaves n (rwlock N after))
  step_unary (call f) v = do
    p ← slice_get M.procedures f
    Some (goes_to M i tid M.names (enter (update zeros p.parameter v) p.body (mark_frame σ ∷ K)))

  abbrev pub step_word : Part → Word → Option Machine
  step_word c (let_word k x v e) = Some (goes_to M i tid M.names (enter (update σ x v) e K))
  step_word c (if_word k e₁ e₂) = Some (goes_to M i tid M.names (enter σ (part_of c e₁ e₂) K))
  step_word c (while_word k e) = Some (goes_to M i tid M.names (at σ (unrolled_word k e) K))
  step_word c (spawn_word k v e) = do
    n ← name_of v
    if_identifier (M.names n)
    Some (add_thread (running n (enter σ e [])) (gives M.names zero_value))
  step_word c (write_word k v w) = do
    n ← name_of v
    cell_value (M.names n)
    Some (leaves n (cell w))
  step_word c (unary_word k o v) = step_unary o v
  step_word c (nullary_word k o) = Some (creates (made o))
  step_word c (unrolled_word k e) = Some (goes_to M i tid M.names (unrolled_part c σ k e K))
  step_word c (again_word k v e) = Some (goes_to M i tid M.names (at σ (while_word k e) K))

-- ---- Steps

abbrev pub step_control : Machine → (i : ℕ) → Part → (tid : ℕ) → Control → Option Machine
step_control M i c tid (done v) = None
step_control M i c tid (at σ w K) = step_word M i tid σ K c w

abbrev pub step_thread : Machine → (i : ℕ) → Part → MachineThread → Bool → Option Machine
step_thread M i c t true = None
step_thread M i c t false = step_control M i c t.tid t.control

-- The machine after thread i moves, taking part c of an `if`, if it can.
unfoldable pub step : Machine → (i : ℕ) → Part → Option Machine
step M i c = do
  t ← slice_get M.threads i
  step_thread M i c t t.joined
