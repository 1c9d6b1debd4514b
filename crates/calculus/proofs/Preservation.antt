-- A reduction keeps a state well typed (Lemma 2.4).
use Rattle.std.proofs.Common.{Option, Some, slice_get}
use Prim.Native.Nat.{ℕ, suc}
use mathlib.Core.Path.{◌≡◌, sym, ap, ◌∙◌}
use mathlib.Core.Logic.{◌≢◌}
use mathlib.Core.List.{List}
use native.Mathlib.Nat.{zero-mul, suc-mul}
use native.Mathlib.Omega.{arith}
use Rattle.calculus.specs.Expression.{Value, name, HoldWord, Unary, join, ref, read, lock, unlock, post, wait, hold, call, newtid, newlock, newsem, newrwlock, Exp, value, let_in, if, while, Redex, let_redex, if_redex, while_redex, spawn_redex, write_redex, unary_redex, nullary_redex, is_value, at_word, next_word, substitute, Procedure}
use Rattle.calculus.specs.State.{opened, a_lock, semaphore, Thread, State, Part, first, second, Move}
use Rattle.calculus.specs.Reduction.{if_identifier, cell_value, lock_state, if_opened, count, one_less, rw_state, inside_after, if_equal, value_of, word_of, zero_exp, nowhere, part_listed, unary_reduct, reduct, reduce}
use Rattle.calculus.specs.Claim.{ThreadAt}
use Rattle.calculus.specs.Capability.{Cap, ◌×ᶜ◌, ◌≥ᶜ◌}
use Rattle.calculus.specs.Figure5.{Ty, int_type, ref_type, lock_type, tid_type, sem_type, rwlock_type, as_it_is, Signature, Signatures, Env, empty, bind}
use Rattle.calculus.proofs.Laws.Maps.{some_injective, none_is_not_some, bind_is_some, bind_goes_on}
use Rattle.calculus.proofs.Laws.Places.{set_elsewhere}
use Rattle.calculus.proofs.Laws.Order.{◌+ᶜ◌, Gains, Pays, ≥-trans, ≥-refl, gains_at_most}
use Rattle.calculus.proofs.Laws.NextWord.{word_is_no_value}
use Rattle.calculus.proofs.Laws.Questions.{opened_tells, one_less_tells, equal_sound, value_tells, word_tells}
use Rattle.calculus.proofs.Typing.{ValueTyped, int_typed, name_typed, OwnLock, own_lock, UnaryTyped, join_typed, ref_typed, read_typed, lock_typed, unlock_typed, post_typed, wait_typed, HoldTyped, hold_typed, call_typed, newtid_typed, newlock_typed, newsem_typed, newrwlock_typed, Typed, value_typed, let_typed, if_typed, while_typed, typing_weakens}
use Rattle.calculus.proofs.Substitution.{⊆-refl, value_grows, typing_grows, bind_extends_empty, substitution_keeps}
use Rattle.calculus.proofs.Focus.{RedexTyped, let_redex_typed, if_redex_typed, while_redex_typed, spawn_redex_typed, write_redex_typed, unary_redex_typed, nullary_redex_typed, focus, typed_is_value}
use Rattle.calculus.proofs.Bodies.{BodiesTyped, body_in_place}
use Rattle.calculus.proofs.Pool.{ThreadTyped, pool_weakens, pool_with_last, Member, member}
use Rattle.calculus.proofs.Invariant.{slot_identifier, slot_cell, slot_lock, slot_semaphore, slot_rwlock, cell_there, lock_there, semaphore_there, rwlock_there, load, keeps, WellTyped, threads_change_keeps}
use Rattle.calculus.proofs.Holds.{hold_balances}
use Rattle.calculus.proofs.Moving.{Place, told, moved_pool, thread_alone_keeps, slot_change_keeps, new_name_keeps}

tid_type_injective : {J K : Cap} {o : Option Ty} → o ≡ Some (tid_type J) → o ≡ Some (tid_type K) → J ≡ K
tid_type_injective h k = cc

-- A finished thread holds what its identifier lends to the thread that joins it.
finished_holds : {D : ℕ} {S : Signatures} {N : Env} {u : Thread} {Ψ K : Cap} {v : Value} → ThreadTyped D S N u Ψ → next_word u.body ≡ is_value v →
    N u.tid ≡ Some (tid_type K) → Ψ ≥ᶜ K
finished_holds ok ended known =
    let (_, _, enough) = typed_is_value ok.typed ended in
    rw (tid_type_injective ok.known known) at enough

-- The 0 that a word becomes, when its thread has gained K.
zero_typed_with : {D : ℕ} {S : Signatures} {N : Env} {Φ Ψ K : Cap} → Gains Φ Ψ K → Typed D S N empty (Ψ +ᶜ K) zero_exp int_type Φ
zero_typed_with gains = value_typed int_typed (gains_at_most gains)

-- In each lemma below the thread t moves by m, M is the place of its next word, the lemma's, and q says that the move is a reduction.
module _ {D : ℕ} {S : Signatures} {s : State} (P : List Procedure) (bodies : BodiesTyped D S P) (I : WellTyped D S s) (m : Move) (t : Thread)
    (h : Member D S I.N s.threads I.held m.thread t) where
  -- ---- The words with one part

  -- The thread gains what the finished thread holds; the two are different, for one has finished and the other has not.
  join_keeps : {Φ K : Cap} {n : ℕ} {s' : State} (M : Place D S s I m t h int_type Φ) → ThreadAt s m.thread t →
      next_word t.body ≡ at_word (unary_redex join (name n)) → I.N n ≡ Some (tid_type K) → Gains Φ h.own K →
      unary_reduct P s m t join (name n) ≡ Some s' → WellTyped D S s'
  join_keeps {K} {n} M there word known gains q =
      let (_, _, q₁) = bind_is_some (if_identifier (s.names n)) q in
      let (u, at_u, q₂) = bind_is_some (slice_get s.threads m.finished) q₁ in
      let (_, same, q₃) = bind_is_some (if_equal u.tid n) q₂ in
      let (v, is_v, q₄) = bind_is_some (value_of (next_word u.body)) q₃ in
      let ended : next_word u.body ≡ is_value v = value_tells (next_word u.body) is_v in
      let apart : m.thread ≢ m.finished = λ z.
      let t_is_u : t ≡ u = some_injective (sym there ∙ ap (slice_get s.threads) z ∙ at_u) in
      word_is_no_value word (ap (λ (x : Thread). next_word x.body) t_is_u ∙ ended) in
      let pool = moved_pool M I.N (h.own +ᶜ K) zero_exp (⊆-refl I.N) (zero_typed_with gains) in
      let j = member m.finished pool (set_elsewhere s.threads m.thread m.finished _ apart ∙ at_u) in
      let gives = finished_holds {Ψ = j.own} j.ok ended (ap I.N (equal_sound u.tid n same) ∙ known) in
      told (threads_change_keeps I (pool_weakens {Ω = j.rest}
      (record { at = λ ρ. omega (arith, gives.at ρ, j.split.at ρ, h.split.at ρ) }) j.taken_out)) q₄

  ref_keeps : {Φ : Cap} {ρ : ℕ} {τ : Ty} {v : Value} {s' : State} (M : Place D S s I m t h (ref_type ρ τ) Φ) → ValueTyped I.N v τ →
      h.own ≥ᶜ Φ → unary_reduct P s m t ref v ≡ Some s' → WellTyped D S s'
  ref_keeps M typed enough = new_name_keeps M _ h.own (λ grows. slot_cell (value_grows grows typed)) enough (λ ρ. omega arith)

  read_keeps : {Φ : Cap} {ρ n : ℕ} {τ : Ty} {s' : State} (M : Place D S s I m t h τ Φ) → I.N n ≡ Some (ref_type ρ τ) → h.own ≥ᶜ Φ →
      unary_reduct P s m t read (name n) ≡ Some s' → WellTyped D S s'
  read_keeps {n} M known enough q =
      let (w, found, typed) = cell_there (rw known at (I.slots n)) in
      thread_alone_keeps M (value w) (value_typed typed enough) (bind_goes_on (cell_value (s.names n)) _ (ap cell_value found) q)

  -- An open lock keeps what it takes, Ψₒ, and the thread takes out of it no more than it hands out, Ψᵢ; closed it keeps nothing. Here
  -- it counts that a lock hands out no more than it takes.
  lock_keeps : {Φ Ψᵢ Ψₒ : Cap} {n : ℕ} {s' : State} (M : Place D S s I m t h int_type Φ) → OwnLock I.N n Ψᵢ Ψₒ →
      Gains Φ h.own Ψᵢ → unary_reduct P s m t lock (name n) ≡ Some s' → WellTyped D S s'
  lock_keeps {Ψᵢ} {n} M own gains q =
      let (l, found, covers) = lock_there (rw own.known at (I.slots n)) in
      let (_, o, q₁) = bind_is_some (if_opened l) (bind_goes_on (lock_state (s.names n)) _ (ap lock_state found) q) in
      let was_open : s.names n ≡ a_lock opened = found ∙ ap a_lock (opened_tells l o) in
      slot_change_keeps M n _ (lock_type own.Ψᵢ own.Ψₒ) (h.own +ᶜ Ψᵢ) zero_exp own.known (slot_lock covers)
      (zero_typed_with gains)
      (λ ρ. omega (arith, own.no_more_out.at ρ, covers.at ρ, ap (λ z. keeps z (load (Some (lock_type own.Ψᵢ own.Ψₒ))) ρ) was_open)) q₁

  -- Whatever the lock kept, the thread pays no less than it keeps from now on.
  unlock_keeps : {Φ Ψᵢ Ψₒ : Cap} {n : ℕ} {s' : State} (M : Place D S s I m t h int_type Φ) → OwnLock I.N n Ψᵢ Ψₒ →
      Pays Φ h.own Ψₒ → unary_reduct P s m t unlock (name n) ≡ Some s' → WellTyped D S s'
  unlock_keeps {Φ} {n} M own pays q =
      let (_, _, q₁) = bind_is_some (lock_state (s.names n)) q in
      let (_, _, covers) = lock_there (rw own.known at (I.slots n)) in
      slot_change_keeps M n _ (lock_type own.Ψᵢ own.Ψₒ) Φ zero_exp own.known (slot_lock covers) (value_typed int_typed ≥-refl)
      (λ ρ. omega (arith, pays.at ρ, own.no_less_in.at ρ)) q₁

  -- The count rises by one, and the thread pays one load.
  post_keeps : {Φ K : Cap} {n : ℕ} {s' : State} (M : Place D S s I m t h int_type Φ) → I.N n ≡ Some (sem_type K) →
      Pays Φ h.own K → unary_reduct P s m t post (name n) ≡ Some s' → WellTyped D S s'
  post_keeps {Φ} {K} {n} M known pays q =
      let (c, found) = semaphore_there (rw known at (I.slots n)) in
      slot_change_keeps M n _ (sem_type K) Φ zero_exp known slot_semaphore (value_typed int_typed ≥-refl)
      (λ ρ. omega (arith, pays.at ρ, suc-mul c (K ρ), ap (λ z. keeps z (load (Some (sem_type K))) ρ) found)) (bind_goes_on (count (s.names n)) _ (ap count found) q)

  -- The count falls by one, and the thread takes one load.
  wait_keeps : {Φ K : Cap} {n : ℕ} {s' : State} (M : Place D S s I m t h int_type Φ) → I.N n ≡ Some (sem_type K) →
      Gains Φ h.own K → unary_reduct P s m t wait (name n) ≡ Some s' → WellTyped D S s'
  wait_keeps {K} {n} M known gains q =
      let (c, found) = semaphore_there (rw known at (I.slots n)) in
      let (left, o, q₁) = bind_is_some (one_less c) (bind_goes_on (count (s.names n)) _ (ap count found) q) in
      let counted : s.names n ≡ semaphore (suc left) = found ∙ ap semaphore (one_less_tells c o) in
      slot_change_keeps M n _ (sem_type K) (h.own +ᶜ K) zero_exp known slot_semaphore (zero_typed_with gains)
      (λ ρ. omega (arith, suc-mul left (K ρ), ap (λ z. keeps z (load (Some (sem_type K))) ρ) counted)) q₁

  -- Who is in changes, and what the thread gains or pays with it.
  hold_keeps : {Φ Ψr Ψw : Cap} {n : ℕ} {w : HoldWord} {s' : State} (M : Place D S s I m t h int_type Φ) → I.N n ≡ Some (rwlock_type Ψr Ψw) →
      HoldTyped Ψr Ψw w h.own Φ → unary_reduct P s m t (hold w) (name n) ≡ Some s' → WellTyped D S s'
  hold_keeps {Φ} {Ψr} {Ψw} {n} {w} M known typed q =
      let (N, i, found, covers) = rwlock_there (rw known at (I.slots n)) in
      let (after, turned, q₁) = bind_is_some (inside_after N w i) (bind_goes_on (rw_state (s.names n)) _ (ap rw_state found) q) in
      slot_change_keeps M n _ (rwlock_type Ψr Ψw) Φ zero_exp known (slot_rwlock covers) (value_typed int_typed ≥-refl)
      (λ ρ. omega (arith, hold_balances Ψr Ψw N covers i typed turned ρ, ap (λ z. keeps z (load (Some (rwlock_type Ψr Ψw))) ρ) found)) q₁

  -- The call becomes the body, whose thread holds what it held.
  call_keeps : {Φ Ψkeep : Cap} {g : Signature} {v : Value} {s' : State} (f : ℕ) (M : Place D S s I m t h g.result Φ) → slice_get S f ≡ Some g →
      ValueTyped I.N v g.argument → Pays g.before h.own Ψkeep → Gains Φ g.after Ψkeep →
      unary_reduct P s m t (call f) v ≡ Some s' → WellTyped D S s'
  call_keeps {Ψkeep} {g} {v} f M known argument pays gains q =
      let b = bodies f g known in
      thread_alone_keeps M _ (body_in_place {Ψkeep = Ψkeep} b.p g b.keeps argument pays gains) (bind_goes_on (slice_get P f) _ b.there q)

  unary_keeps : {Φ : Cap} {σ τ : Ty} {v : Value} {s' : State} (o : Unary) (M : Place D S s I m t h τ Φ) → ThreadAt s m.thread t →
      next_word t.body ≡ at_word (unary_redex o v) → UnaryTyped D S o σ h.own τ Φ → ValueTyped I.N v σ →
      unary_reduct P s m t o v ≡ Some s' → WellTyped D S s'
  unary_keeps join M there word (join_typed gains) (name_typed known as_it_is) q = join_keeps M there word known gains q
  unary_keeps ref M there word (ref_typed enough) typed q = ref_keeps M typed enough q
  unary_keeps read M there word (read_typed some_of_it enough) (name_typed known as_it_is) q = read_keeps M known enough q
  unary_keeps lock M there word (lock_typed gains) (name_typed known shown) q = lock_keeps M (own_lock known shown) gains q
  unary_keeps unlock M there word (unlock_typed pays) (name_typed known shown) q = unlock_keeps M (own_lock known shown) pays q
  unary_keeps post M there word (post_typed pays) (name_typed known as_it_is) q = post_keeps M known pays q
  unary_keeps wait M there word (wait_typed gains) (name_typed known as_it_is) q = wait_keeps M known gains q
  unary_keeps (hold w) M there word (hold_typed typed) (name_typed known as_it_is) q = hold_keeps M known typed q
  unary_keeps (call f) M there word (call_typed known pays gains) argument q = call_keeps f M known argument pays gains q

  -- ---- The other words

  let_keeps : {Φ : Cap} {v : Value} {e : Exp} {σ τ : Ty} {s' : State} (x : ℕ) (M : Place D S s I m t h τ Φ) → ValueTyped I.N v σ →
      Typed D S I.N (bind empty x σ) h.own e τ Φ → reduct P s m t (let_redex x v e) ≡ Some s' → WellTyped D S s'
  let_keeps {v} {e} {σ} x M v_typed e_typed =
      thread_alone_keeps M (substitute x v e) (substitution_keeps empty x v_typed (bind_extends_empty x σ) e_typed)

  if_keeps : {Φ : Cap} {e₁ e₂ : Exp} {τ : Ty} {s' : State} (M : Place D S s I m t h τ Φ) → Typed D S I.N empty h.own e₁ τ Φ →
      Typed D S I.N empty h.own e₂ τ Φ → reduct P s m t (if_redex e₁ e₂) ≡ Some s' → WellTyped D S s'
  if_keeps {Φ} {e₁} {e₂} {τ} M e₁_typed e₂_typed =
      thread_alone_keeps M (part_listed m.part e₁ e₂) (either m.part)
    where
      either : (p : Part) → Typed D S I.N empty h.own (part_listed p e₁ e₂) τ Φ
      either first = e₁_typed
      either second = e₂_typed

  -- What the body needs is there before the loop, and again after each turn.
  while_keeps : {Φ Ψ₁ : Cap} {e : Exp} {σ : Ty} {s' : State} (M : Place D S s I m t h int_type Φ) → Typed D S I.N empty Ψ₁ e σ Ψ₁ →
      h.own ≥ᶜ Ψ₁ → Ψ₁ ≥ᶜ Φ → reduct P s m t (while_redex e) ≡ Some s' → WellTyped D S s'
  while_keeps {e} M typed enough left =
      let again = while_typed (typing_grows (⊆-refl I.N) (λ x τ z. none_is_not_some z) typed) ≥-refl left in
      thread_alone_keeps M (if (let_in nowhere e (while e)) zero_exp)
      (if_typed (let_typed (typing_weakens typed enough ≥-refl) again) (value_typed int_typed (≥-trans enough left)))

  -- The new thread starts with what the other pays.
  spawn_keeps : {Φ K Ψ₃ : Cap} {e : Exp} {n : ℕ} {σ : Ty} {s' : State} (M : Place D S s I m t h int_type Φ) →
      I.N n ≡ Some (tid_type K) → Typed D S I.N empty Ψ₃ e σ K → Pays Φ h.own Ψ₃ → reduct P s m t (spawn_redex (name n) e) ≡ Some s' →
      WellTyped D S s'
  spawn_keeps {Φ} {K} {n} {σ} M known typed pays q =
      let (_, _, q₁) = bind_is_some (if_identifier (s.names n)) q in
      let pool = moved_pool M I.N Φ zero_exp (⊆-refl I.N) (value_typed int_typed ≥-refl) in
      told (threads_change_keeps I (pool_with_last pool (record { K = K; τ = σ; known = known; typed = typed })
      (record { at = λ ρ. omega (arith, pays.at ρ, h.split.at ρ) }))) q₁

  write_keeps : {Φ : Cap} {ρ n : ℕ} {w : Value} {σ : Ty} {s' : State} (M : Place D S s I m t h int_type Φ) → I.N n ≡ Some (ref_type ρ σ) →
      ValueTyped I.N w σ → h.own ≥ᶜ Φ → reduct P s m t (write_redex (name n) w) ≡ Some s' → WellTyped D S s'
  write_keeps {ρ} {n} {σ} M known typed enough q =
      let (_, _, q₁) = bind_is_some (cell_value (s.names n)) q in
      slot_change_keeps M n _ (ref_type ρ σ) h.own zero_exp known (slot_cell typed) (value_typed int_typed enough) (λ ρ. omega arith) q₁

  newtid_keeps : {Φ K : Cap} {s' : State} (M : Place D S s I m t h (tid_type K) Φ) → h.own ≥ᶜ Φ →
      reduct P s m t (nullary_redex newtid) ≡ Some s' → WellTyped D S s'
  newtid_keeps M enough = new_name_keeps M _ h.own (λ grows. slot_identifier) enough (λ ρ. omega arith)

  -- A new lock is open, so it keeps its load, and the thread pays it.
  newlock_keeps : {Φ Ψᵢ Ψₒ : Cap} {s' : State} (M : Place D S s I m t h (lock_type Ψᵢ Ψₒ) Φ) → Ψₒ ≥ᶜ Ψᵢ → Pays Φ h.own Ψₒ →
      reduct P s m t (nullary_redex newlock) ≡ Some s' → WellTyped D S s'
  newlock_keeps {Φ} M covers pays = new_name_keeps M _ Φ (λ grows. slot_lock covers) ≥-refl (λ ρ. omega (arith, pays.at ρ))

  -- A new semaphore counts 0, so it keeps nothing.
  newsem_keeps : {Φ K : Cap} {s' : State} (M : Place D S s I m t h (sem_type K) Φ) → h.own ≥ᶜ Φ →
      reduct P s m t (nullary_redex newsem) ≡ Some s' → WellTyped D S s'
  newsem_keeps {K} M enough = new_name_keeps M _ h.own (λ grows. slot_semaphore) enough (λ ρ. omega (arith, zero-mul (K ρ)))

  -- No one is in at a new read-write lock, so it keeps all of what the thread pays.
  newrwlock_keeps : {Φ Ψr Ψw : Cap} {s' : State} (N : ℕ) (M : Place D S s I m t h (rwlock_type Ψr Ψw) Φ) → Ψw ≥ᶜ N ×ᶜ Ψr → Pays Φ h.own Ψw →
      reduct P s m t (nullary_redex (newrwlock N)) ≡ Some s' → WellTyped D S s'
  newrwlock_keeps {Φ} N M covers pays = new_name_keeps M _ Φ (λ grows. slot_rwlock covers) ≥-refl (λ ρ. omega (arith, pays.at ρ))

  redex_keeps : {Φ : Cap} {σ : Ty} {s' : State} {r : Redex} (M : Place D S s I m t h σ Φ) → ThreadAt s m.thread t →
      next_word t.body ≡ at_word r → RedexTyped D S I.N empty h.own Φ r σ → reduct P s m t r ≡ Some s' → WellTyped D S s'
  redex_keeps M there word (let_redex_typed {x = x} v_typed e_typed) q = let_keeps x M v_typed e_typed q
  redex_keeps M there word (if_redex_typed e₁_typed e₂_typed) q = if_keeps M e₁_typed e₂_typed q
  redex_keeps M there word (while_redex_typed typed enough left) q = while_keeps M typed enough left q
  redex_keeps M there word (spawn_redex_typed (name_typed known as_it_is) typed pays) q = spawn_keeps M known typed pays q
  redex_keeps M there word (write_redex_typed (name_typed known as_it_is) typed whole enough) q = write_keeps M known typed enough q
  redex_keeps M there word (unary_redex_typed {o = o} v_typed o_typed) q = unary_keeps o M there word o_typed v_typed q
  redex_keeps M there word (nullary_redex_typed (newtid_typed enough)) q = newtid_keeps M enough q
  redex_keeps M there word (nullary_redex_typed (newlock_typed covers pays)) q = newlock_keeps M covers pays q
  redex_keeps M there word (nullary_redex_typed (newsem_typed enough)) q = newsem_keeps M enough q
  redex_keeps M there word (nullary_redex_typed (newrwlock_typed {N = N} covers pays)) q = newrwlock_keeps N M covers pays q

-- Lemma 2.4: find the thread and its next word, and look at the word.
pub step_preserves : {D : ℕ} {S : Signatures} {s s' : State} (P : List Procedure) → BodiesTyped D S P → WellTyped D S s → (m : Move) →
    reduce P s m ≡ Some s' → WellTyped D S s'
unfolding reduce
step_preserves {s} P bodies I m q =
    let (t, there, q₁) = bind_is_some (slice_get s.threads m.thread) q in
    let (r, e, q₂) = bind_is_some (word_of (next_word t.body)) q₁ in
    let word : next_word t.body ≡ at_word r = word_tells (next_word t.body) e in
    let h = member m.thread I.pool there in
    let f = focus h.ok.typed word in
    redex_keeps P bodies I m t h (record { back = f.back }) there word f.word q₂
