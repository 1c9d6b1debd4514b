-- The words that use what a value names, on numbers, are the machine's.
use Rattle.std.proofs.Common.{Option, None, Some, Ok}
use Prim.Native.Nat.{ℕ, suc, ◌<◌}
use mathlib.Core.Path.{◌≡◌, refl, sym, ◌∙◌, ap, subst}
use mathlib.Core.List.{List}
use Rattle.spec.specs.Expression.{Position}
use Rattle.spec.specs.declared.Word.TheVariants.{Unary, Binary}
use Rattle.spec.specs.declared.BinaryWord.TheVariants.{Write}
use Rattle.calculus.specs.Expression as calculus
use Rattle.calculus.specs.Expression.{Value, int, name, read, lock, unlock, post, wait, hold, rdlock, rdunlock, wrlock, wrunlock}
use Rattle.calculus.specs.State as state
use Rattle.calculus.specs.State.{unused, identifier, cell, a_lock, opened, closed, semaphore, rwlock, readers, writer}
use Rattle.calculus.specs.Reduction.{◌>>=◌, ◌>>◌, cell_value}
use Rattle.calculus.proofs.Laws.Maps.{some_is_not_none}
use Rattle.workspace.specs.Layout.{rule_of, code_of, printed}
use Rattle.threads.specs.declared.Threads.{Threads}
use Rattle.replay_control.specs.declared.ControlPoint.{ControlPoint}
use Rattle.replay_control.specs.Shapes.{shape_at, is_write}
use Rattle.replay_control.specs.Control.{kept, ready_at}
use Rattle.replay_objects.specs.declared.Thing.{Thing}
use Rattle.replay_objects.specs.declared.StepEffect.{StepEffect}
use Rattle.replay_step.specs.declared.words.Act.TheVariants.{Go}
use Rattle.replay_objects.specs.Uses.{written_of, effect_of}
use Rattle.replay_step.specs.Slots.{thing_at, thing_put}
use Rattle.replay_step.specs.Words.{given, subject, operand, effected, word_used, acted_by, acted}
use Rattle.replay_engine.specs.Steps.{act_step, after_act}
use Rattle.replay_theory.specs.Replay.{check_limits}
use Rattle.replay_machine.specs.Environment.{Env}
use Rattle.replay_machine.specs.Control as machine
use Rattle.replay_machine.specs.Control.{Frame, write_word, unary_word}
use Rattle.replay_machine.specs.State.{Machine}
use Rattle.replay_machine.specs.Step.{zero_value, gives, leaves, step_word}
use Rattle.replay_machine.specs.Replay.{Replay}
use Rattle.replay_simulation.proofs.Held.{code_value, part_word, RowOf, place_of}
use Rattle.replay_simulation.proofs.Agreeing.{agree_all}
use Rattle.replay_simulation.proofs.Holds.{coded}
use Rattle.replay_simulation.proofs.Using.{Use, gave, left, Using, using_read, using_lock, using_unlock, using_post, using_wait, using_rdlock, using_rdunlock, using_wrlock, using_wrunlock, use_of, name_in, used_to, step_asks, effect, Roomy, uses_alike}
use Rattle.replay_simulation.proofs.Naming.{thing_put_length, thing_agree, slot_of, slot_decodes, used_below, names_put}
use Rattle.replay_simulation.proofs.AtWord.{AtWord, Answers, Goes, by_act, becomes}

-- ------------------------------------------------------------------ what the code does

module _ (p s : List ℕ) (row c : ℕ) {q : Position} where
  part_acts : (o : calculus.Unary) → Using o → {n : ℕ} (v : ℕ) → RowOf p q (Unary (part_word o)) n →
      acted p s (ready_at row q.index v) c ≡ effected p s row q.index v (effect_of (rule_of (code_of (Unary (part_word o)))) (thing_at s v) v)
  unfolding acted acted_by word_used subject operand shape_at is_write rule_of printed
  part_acts read using_read v r = rw r.code (rw r.code)
  part_acts lock using_lock v r = rw r.code (rw r.code)
  part_acts unlock using_unlock v r = rw r.code (rw r.code)
  part_acts post using_post v r = rw r.code (rw r.code)
  part_acts wait using_wait v r = rw r.code (rw r.code)
  part_acts (hold rdlock) using_rdlock v r = rw r.code (rw r.code)
  part_acts (hold rdunlock) using_rdunlock v r = rw r.code (rw r.code)
  part_acts (hold wrlock) using_wrlock v r = rw r.code (rw r.code)
  part_acts (hold wrunlock) using_wrunlock v r = rw r.code (rw r.code)
  part_acts calculus.join u v r = elim u [ ]
  part_acts calculus.ref u v r = elim u [ ]
  part_acts (calculus.call f) u v r = elim u [ ]

  write_acts : {n : ℕ} (v w : ℕ) → kept s row q.index ≡ v → RowOf p q (Binary Write) n →
      acted p s (ready_at row q.index w) c ≡ effected p s row q.index v (written_of (thing_at s v) w)
  unfolding acted acted_by word_used subject operand effect_of shape_at is_write rule_of printed
  write_acts v w e r = rw r.code (rw r.code (ap (λ (u : ℕ). effected p s row q.index u (written_of (thing_at s u) w)) e))

-- a value that names nothing is of no use
unused_useless : (o : calculus.Unary) → Using o → use_of o unused ≡ None
unused_useless read using_read = refl
unused_useless lock using_lock = refl
unused_useless unlock using_unlock = refl
unused_useless post using_post = refl
unused_useless wait using_wait = refl
unused_useless (hold rdlock) using_rdlock = refl
unused_useless (hold rdunlock) using_rdunlock = refl
unused_useless (hold wrlock) using_wrlock = refl
unused_useless (hold wrunlock) using_wrunlock = refl
unused_useless calculus.join u = elim u [ ]
unused_useless calculus.ref u = elim u [ ]
unused_useless (calculus.call f) u = elim u [ ]

-- a `write` stores in a cell
abbrev write_use : state.Slot → Value → Option Use
write_use sl w = cell_value sl >>= λ v. Some (left (cell w))

write_used : (sl : state.Slot) (w : Value) → written_of (coded sl) (code_value w) ≡ effect (write_use sl w)
unfolding written_of
write_used unused w = refl
write_used identifier w = refl
write_used (cell v) w = refl
write_used (a_lock opened) w = refl
write_used (a_lock closed) w = refl
write_used (semaphore c) w = refl
write_used (rwlock N (readers k)) w = refl
write_used (rwlock N writer) w = refl

-- ------------------------------------------------------------------ the machine's word

module _ {p s : List ℕ} {T : Threads} {R : Replay} {t row tid : ℕ} {σ : Env} {w : machine.Word} {K : List Frame}
    (A : AtWord p s T R t row tid σ w K) (below : place_of p s w < 256) where
  abbrev M : Machine
  M = R.machine

  -- the word becomes a value
  gives_value : (f : ControlPoint) (x : Value) →
      Answers A f (Some (gives M t tid σ K M.names x)) (Ok (Go (given p row (place_of p s w) (code_value x))), s)
  gives_value f x = becomes A s A.holds.long (λ i h. agree_all i s) A.holds.names below f x

  -- the word leaves something else where it was
  leaves_slot : (f : ControlPoint) (n : ℕ) (sl : state.Slot) → n < M.next →
      Answers A f (Some (leaves M t tid σ K n sl)) (Ok (Go (given p row (place_of p s w) 0)), thing_put s (suc n) (coded sl))
  leaves_slot f n sl l =
      becomes A (thing_put s (suc n) (coded sl)) (thing_put_length s (suc n) (coded sl) ∙ A.holds.long) (λ i h. thing_agree i s (suc n) (coded sl) h)
      (names_put A.holds.names n sl A.holds.long l) below f zero_value

  -- the word asks for the use of what a value names
  asks : (f : ControlPoint) (v : Value) (u : Option Use) (x : Option StepEffect) → (slot_of M.names v ≡ unused → u ≡ None) → x ≡ effect u →
      Answers A f (u >>= λ y. Some (used_to M t tid σ K (name_in v) y)) (effected p s row (place_of p s w) (code_value v) x)
  unfolding effected after_act act_step check_limits
  asks f v u x useless is =
      subst (λ (z : Option StepEffect). Answers A f (u >>= λ y. Some (used_to M t tid σ K (name_in v) y)) (effected p s row (place_of p s w) (code_value v) z)) (sym is) (by_use v u useless)
    where
      by_use : (v : Value) (u : Option Use) → (slot_of M.names v ≡ unused → u ≡ None) →
          Answers A f (u >>= λ y. Some (used_to M t tid σ K (name_in v) y)) (effected p s row (place_of p s w) (code_value v) (effect u))
      by_use v None useless = (T, refl)
      by_use v (Some (gave y)) useless = gives_value f y
      by_use (int n) (Some (left sl)) useless = some_is_not_none (useless refl)
      by_use (name n) (Some (left sl)) useless = leaves_slot f n sl (used_below A.holds.names n (λ z. some_is_not_none (useless z)))

write_asks : (M : Machine) (t tid : ℕ) (σ : Env) (K : List Frame) (q : Position) (v w : Value) →
    step_word M t tid σ K state.first (write_word q v w) ≡ (write_use (slot_of M.names v) w >>= λ y. Some (used_to M t tid σ K (name_in v) y))
write_asks M t tid σ K q (int k) w = refl
write_asks M t tid σ K q (name m) w = by_slot (M.names m)
  where
    by_slot : (sl : state.Slot) → (cell_value sl >> Some (leaves M t tid σ K m (cell w))) ≡ (write_use sl w >>= λ y. Some (used_to M t tid σ K m y))
    by_slot unused = refl
    by_slot identifier = refl
    by_slot (cell x) = refl
    by_slot (a_lock l) = refl
    by_slot (semaphore x) = refl
    by_slot (rwlock N x) = refl

module _ {p s : List ℕ} {T : Threads} {R : Replay} {t row tid : ℕ} {σ : Env} {q : Position} {K : List Frame} {n : ℕ} where
  pub part_goes : {o : calculus.Unary} {v : Value} (A : AtWord p s T R t row tid σ (unary_word q o v) K) → Using o → RowOf p q (Unary (part_word o)) n →
      Roomy (slot_of R.machine.names v) → Goes A state.first (ready_at row q.index (code_value v)) 0
  part_goes {o} {v} A u r roomy =
      by_act A state.first word 0 (part_acts p s row 0 o u (code_value v) r)
      (subst (λ (m : Option Machine). Answers A word m (effected p s row q.index (code_value v) x)) (sym (step_asks R.machine t tid σ K o u v))
      (asks A r.below word v (use_of o sl) x (λ e. ap (use_of o) e ∙ unused_useless o u)
      (ap (λ (y : Thing). effect_of (rule_of (code_of (Unary (part_word o)))) y (code_value v)) (slot_decodes A.holds.names v) ∙ uses_alike o u sl roomy (code_value v))))
    where
      word : ControlPoint
      word = ready_at row q.index (code_value v)

      sl : state.Slot
      sl = slot_of R.machine.names v

      x : Option StepEffect
      x = effect_of (rule_of (code_of (Unary (part_word o)))) (thing_at s (code_value v)) (code_value v)

  pub write_goes : {v w : Value} (A : AtWord p s T R t row tid σ (write_word q v w) K) → RowOf p q (Binary Write) n → kept s row q.index ≡ code_value v →
      Goes A state.first (ready_at row q.index (code_value w)) 0
  write_goes {v} {w} A r held =
      by_act A state.first word 0 (write_acts p s row 0 (code_value v) (code_value w) held r)
      (subst (λ (m : Option Machine). Answers A word m (effected p s row q.index (code_value v) x)) (sym (write_asks R.machine t tid σ K q v w))
      (asks A r.below word v (write_use sl w) x (λ e. ap (λ (y : state.Slot). write_use y w) e)
      (ap (λ (y : Thing). written_of y (code_value w)) (slot_decodes A.holds.names v) ∙ write_used sl w)))
    where
      word : ControlPoint
      word = ready_at row q.index (code_value w)

      sl : state.Slot
      sl = slot_of R.machine.names v

      x : Option StepEffect
      x = written_of (thing_at s (code_value v)) (code_value w)
