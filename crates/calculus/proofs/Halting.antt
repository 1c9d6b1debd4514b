-- A thread that halts in a well-typed state has finished, or waits: progress.
use Rattle.std.proofs.Common.{Option, None, Some, slice_get}
use Prim.Native.Nat.{ℕ, zero, suc}
use mathlib.Core.Path.{◌≡◌, refl, ap}
use mathlib.Core.Logic.{◌⊎◌, inl, inr}
use mathlib.Core.List.{List}
use native.Mathlib.Omega.{arith}
use Rattle.calculus.specs.Expression.{Value, name, HoldWord, Unary, join, ref, read, lock, unlock, post, wait, hold, call, Redex, unary_redex, Next, is_value, at_variable, at_word, next_word, Procedure}
use Rattle.calculus.specs.State.{LockState, opened, closed, Inside, Slot, identifier, a_lock, semaphore, rwlock, Thread, State, first, Move}
use Rattle.calculus.specs.Reduction.{if_unused, if_identifier, cell_value, lock_state, count, rw_state, inside_after, if_equal, value_of, word_of, named, reduct, reduce}
use Rattle.calculus.specs.Claim.{ThreadAt, Finished, finished, Waits, at_join, at_lock, at_wait, at_hold, Halts, HaltsWell}
use Rattle.calculus.specs.Capability.{Cap}
use Rattle.calculus.specs.Figure5.{Ty, ref_type, tid_type, as_it_is, Signatures, empty}
use Rattle.calculus.proofs.Laws.Maps.{some_is_not_none, bind_goes_on}
use Rattle.calculus.proofs.Laws.NextWord.{next_is_value}
use Rattle.calculus.proofs.Laws.Questions.{equal_complete}
use Rattle.calculus.proofs.Typing.{ValueTyped, name_typed, OwnLock, own_lock, UnaryTyped, join_typed, ref_typed, read_typed, lock_typed, unlock_typed, post_typed, wait_typed, hold_typed, call_typed}
use Rattle.calculus.proofs.Focus.{RedexTyped, let_redex_typed, if_redex_typed, while_redex_typed, spawn_redex_typed, write_redex_typed, unary_redex_typed, nullary_redex_typed, focus, closed_has_no_variable}
use Rattle.calculus.proofs.Bodies.{BodiesTyped}
use Rattle.calculus.proofs.Pool.{member}
use Rattle.calculus.proofs.Invariant.{identifier_there, cell_there, lock_there, semaphore_there, rwlock_there, WellTyped}

-- ---- Halts

-- The move of thread i that lists those things.
abbrev listed : ℕ → ℕ → ℕ → Move
listed i j n = record { thread = i; part = first; finished = j; fresh = n }

-- In each lemma below the thread t halts. A word whose questions all have answers does not halt; where an answer may be missing, the
-- thread waits.
module _ {D : ℕ} {S : Signatures} {s : State} (P : List Procedure) (bodies : BodiesTyped D S P) (I : WellTyped D S s) (i : ℕ) (t : Thread)
    (there : ThreadAt s i t) (halts : Halts P s i) where
  -- Whatever a move of the thread lists, its next word does not reduce.
  no_reduct : {r : Redex} → next_word t.body ≡ at_word r → (j n : ℕ) → reduct P s (listed i j n) t r ≡ None
  unfolding reduce
  no_reduct word j n =
      let from_here = bind_goes_on (slice_get s.threads i) _ there (halts (listed i j n) refl) in
      bind_goes_on (word_of (next_word t.body)) _ (ap word_of word) from_here

  -- A word that makes a new thing goes ahead: some name is unused.
  named_goes_ahead : {A : Type 0} (new : Slot) → named s (listed i 0 I.top) t new ≡ None → A
  named_goes_ahead new h =
      some_is_not_none (bind_goes_on (if_unused (s.names I.top)) _ (ap if_unused (I.above I.top (omega arith))) h)

  -- So does a word on a cell.
  cell_has_content : {ρ n : ℕ} {τ : Ty} → I.N n ≡ Some (ref_type ρ τ) → (v : Value) × (cell_value (s.names n) ≡ Some v)
  cell_has_content {n} known = let (v, found, _) = cell_there (rw known at (I.slots n)) in (v, ap cell_value found)

  join_waits : {K : Cap} {n : ℕ} → next_word t.body ≡ at_word (unary_redex join (name n)) → I.N n ≡ Some (tid_type K) → Waits s t
  join_waits {n} word known = at_join n word kind none_finished
    where
      kind : s.names n ≡ identifier
      kind = identifier_there (rw known at (I.slots n))

      none_finished : (j : ℕ) (u : Thread) → ThreadAt s j u → u.tid ≡ n → ¬ Finished u
      none_finished j u at_j same (finished v ended) =
          let h₁ = bind_goes_on (if_identifier (s.names n)) _ (ap if_identifier kind) (no_reduct word j 0) in
          let h₂ = bind_goes_on (slice_get s.threads j) _ at_j h₁ in
          let h₃ = bind_goes_on (if_equal u.tid n) _ (equal_complete u.tid n same) h₂ in
          some_is_not_none (bind_goes_on (value_of (next_word u.body)) _ (ap (λ e. value_of (next_word e)) ended) h₃)

  -- A name that is shown as a lock is one.
  lock_named : {n : ℕ} {Ψᵢ Ψₒ : Cap} → OwnLock I.N n Ψᵢ Ψₒ → (l : LockState) × (s.names n ≡ a_lock l)
  lock_named {n} own = let (l, found, _) = lock_there (rw own.known at (I.slots n)) in (l, found)

  -- A `lock` whose lock is open goes ahead.
  lock_waits : {n : ℕ} (l : LockState) → next_word t.body ≡ at_word (unary_redex lock (name n)) → s.names n ≡ a_lock l → Waits s t
  lock_waits {n} opened word found = some_is_not_none (bind_goes_on (lock_state (s.names n)) _ (ap lock_state found) (no_reduct word 0 0))
  lock_waits {n} closed word found = at_lock n word found

  -- A `wait` whose count is above 0 goes ahead.
  wait_waits : {n : ℕ} (c : ℕ) → next_word t.body ≡ at_word (unary_redex wait (name n)) → s.names n ≡ semaphore c → Waits s t
  wait_waits {n} zero word found = at_wait n word found
  wait_waits {n} (suc c) word found = some_is_not_none (bind_goes_on (count (s.names n)) _ (ap count found) (no_reduct word 0 0))

  -- A word of a read-write lock goes ahead unless the lock does not let it.
  hold_waits : {n M : ℕ} {k : Inside} (w : HoldWord) → next_word t.body ≡ at_word (unary_redex (hold w) (name n)) → s.names n ≡ rwlock M k →
      (o : Option Inside) → inside_after M w k ≡ o → Waits s t
  hold_waits {n} {M} {k} w word found None stays = at_hold n M w k word found stays
  hold_waits {n} {M} {k} w word found (Some after) turned =
      let h = bind_goes_on (rw_state (s.names n)) _ (ap rw_state found) (no_reduct word 0 0) in
      some_is_not_none (bind_goes_on (inside_after M w k) _ turned h)

  unary_halts : {σ τ : Ty} {Ψ Φ : Cap} {v : Value} (o : Unary) → next_word t.body ≡ at_word (unary_redex o v) →
      UnaryTyped D S o σ Ψ τ Φ → ValueTyped I.N v σ → Waits s t
  unary_halts join word (join_typed gains) (name_typed known as_it_is) = join_waits word known
  unary_halts ref word (ref_typed enough) typed = named_goes_ahead _ (no_reduct word 0 I.top)
  unary_halts read word (read_typed some_of_it enough) (name_typed {n = n} known as_it_is) =
      some_is_not_none (bind_goes_on (cell_value (s.names n)) _ (cell_has_content known).1 (no_reduct word 0 0))
  unary_halts lock word (lock_typed gains) (name_typed {n = n} known shown) =
      let (l, found) = lock_named {n = n} (own_lock known shown) in lock_waits l word found
  unary_halts unlock word (unlock_typed pays) (name_typed {n = n} known shown) =
      let (l, found) = lock_named {n = n} (own_lock known shown) in
      some_is_not_none (bind_goes_on (lock_state (s.names n)) _ (ap lock_state found) (no_reduct word 0 0))
  unary_halts post word (post_typed pays) (name_typed {n = n} known as_it_is) =
      let (c, found) = semaphore_there (rw known at (I.slots n)) in
      some_is_not_none (bind_goes_on (count (s.names n)) _ (ap count found) (no_reduct word 0 0))
  unary_halts wait word (wait_typed gains) (name_typed {n = n} known as_it_is) =
      let (c, found) = semaphore_there (rw known at (I.slots n)) in wait_waits c word found
  unary_halts (hold w) word (hold_typed typed) (name_typed {n = n} known as_it_is) =
      let (M, k, found, _) = rwlock_there (rw known at (I.slots n)) in hold_waits w word found (inside_after M w k) refl
  unary_halts (call f) word (call_typed {g = g} known pays gains) argument =
      some_is_not_none (bind_goes_on (slice_get P f) _ (bodies f g known).there (no_reduct word 0 0))

  redex_halts : {σ : Ty} {Ψ Φ : Cap} {r : Redex} → next_word t.body ≡ at_word r → RedexTyped D S I.N empty Ψ Φ r σ → Waits s t
  redex_halts word (let_redex_typed v_typed e_typed) = some_is_not_none (no_reduct word 0 0)
  redex_halts word (if_redex_typed e₁_typed e₂_typed) = some_is_not_none (no_reduct word 0 0)
  redex_halts word (while_redex_typed typed enough left) = some_is_not_none (no_reduct word 0 0)
  redex_halts word (spawn_redex_typed (name_typed {n = n} known as_it_is) typed pays) =
      let kind = ap if_identifier (identifier_there (rw known at (I.slots n))) in
      some_is_not_none (bind_goes_on (if_identifier (s.names n)) _ kind (no_reduct word 0 0))
  redex_halts word (write_redex_typed (name_typed {n = n} known as_it_is) typed whole enough) =
      some_is_not_none (bind_goes_on (cell_value (s.names n)) _ (cell_has_content known).1 (no_reduct word 0 0))
  redex_halts word (unary_redex_typed {o = o} v_typed o_typed) = unary_halts o word o_typed v_typed
  redex_halts word (nullary_redex_typed o_typed) = named_goes_ahead _ (no_reduct word 0 I.top)

  next_halts : (q : Next) → next_word t.body ≡ q → Finished t ⊎ Waits s t
  next_halts (is_value v) b = inl (finished v (next_is_value t.body b))
  next_halts (at_variable x) b = absurd (closed_has_no_variable (λ y. refl) (member i I.pool there).ok.typed b)
  next_halts (at_word r) b = inr (redex_halts b (focus (member i I.pool there).ok.typed b).word)

pub well_typed_halts_well : {D : ℕ} {S : Signatures} {s : State} (P : List Procedure) → BodiesTyped D S P → WellTyped D S s → HaltsWell P s
well_typed_halts_well P bodies I i t there halts = next_halts P bodies I i t there halts (next_word t.body) refl
