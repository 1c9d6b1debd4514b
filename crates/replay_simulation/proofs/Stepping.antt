-- A step on numbers is the machine's step: thread by thread, word by word, choice by choice.
use Rattle.std.proofs.Common.{Option, None, Some, slice_get}
use Prim.Native.Nat.{ℕ, zero, suc, ◌≤◌}
use mathlib.Core.Path.{◌≡◌, refl, sym, ap, subst}
use mathlib.Core.Bool.{Bool, true, false}
use mathlib.Core.List.{List, [], ◌∷◌}
use native.Mathlib.Omega.{arith}
use borrow.Author.Tests.{le-leb, lt-leb, ne_eqb}
use lib.Dec.{eqb}
use lib.ListN.{length}
use Rattle.spec.specs.Choice.{when◌then◌else◌}
use Rattle.spec.specs.Expression.{Position, Expr}
use Rattle.spec.specs.declared.Word.{Word}
use Rattle.spec.specs.declared.Word.TheVariants.{Leaf, Unary, Binary}
use Rattle.spec.specs.declared.UnaryWord.TheVariants.{While, Join, Ref, Call}
use Rattle.spec.specs.declared.BinaryWord.TheVariants.{Let, If, Spawn, Write}
use Rattle.calculus.specs.Expression as calculus
use Rattle.calculus.specs.Expression.{Value, int, name, join, ref, read, lock, unlock, post, wait, hold, rdlock, rdunlock, wrlock, wrunlock, call}
use Rattle.calculus.specs.State as state
use Rattle.calculus.specs.State.{Part, first, second, unused, identifier, cell, a_lock, opened, closed, semaphore, rwlock, readers, writer}
use Rattle.calculus.specs.Reduction.{◌>>=◌, if_identifier}
use Rattle.calculus.proofs.Laws.Maps.{none_is_not_some, some_is_not_none}
use Rattle.workspace.specs.Layout.{rule_of, code_of, printed, shape_of}
use Rattle.threads.specs.declared.Record.{Record}
use Rattle.threads.specs.declared.Threads.{Threads}
use Rattle.threads.specs.Threads.{is_running, runs}
use Rattle.replay_control.specs.Layout.{finish}
use Rattle.replay_control.specs.declared.Mode.TheVariants.{Unrolled}
use Rattle.replay_control.specs.Modes.{is}
use Rattle.replay_control.specs.declared.ControlPoint.{ControlPoint}
use Rattle.replay_control.specs.Shapes.{shape_at, is_write, is_if}
use Rattle.replay_control.specs.Control.{second as second_at, ready_at, stopped_at, unrolled_at}
use Rattle.replay_objects.specs.declared.Thing.{Thing}
use Rattle.replay_objects.specs.declared.StepEffect.TheVariants.{Spawns, Joins}
use Rattle.replay_step.specs.declared.words.Halt.TheVariants.{Stuck}
use Rattle.replay_objects.specs.Uses.{spawned_of, joined_of, effect_of}
use Rattle.replay_step.specs.Slots.{thing_at}
use Rattle.replay_engine.specs.ControlPoints.{control_point_at}
use Rattle.replay_step.specs.Words.{subject, operand, effected, word_used, acted_by, acted}
use Rattle.replay_engine.specs.Steps.{may_choose, halted, act_step, after_act, stepped_from, stepped}
use Rattle.replay_theory.specs.Trace.{TraceLine}
use Rattle.replay_theory.specs.Run.{part_of_if, no_choice, unary_traits, traits, part_chosen, effect, one_more_if, things_after}
use Rattle.replay_theory.proofs.Traits.{unary_plain}
use Rattle.replay_theory.specs.Replay.{Outcome, check_limits}
use Rattle.replay_machine.specs.Environment.{Env}
use Rattle.replay_machine.specs.Control as machine
use Rattle.replay_machine.specs.Control.{Frame, let_word, if_word, while_word, spawn_word, write_word, unary_word, nullary_word, unrolled_word, again_word, Control, done, at, redex}
use Rattle.replay_machine.specs.State.{MachineThread, running}
use Rattle.replay_machine.specs.Step.{step, step_unary, step_word}
use Rattle.replay_machine.specs.Replay.{Replay, status_of, word_of, within, stepped as stepped_on}
use Rattle.replay_simulation.proofs.Held.{code_value, part_word, no_part_word, RowOf, Stands, WordAt}
use Rattle.replay_simulation.proofs.Holds.{coded, Holds}
use Rattle.replay_simulation.proofs.Proceeding.{place_below}
use Rattle.replay_simulation.proofs.Using.{Using, using_read, using_lock, using_unlock, using_post, using_wait, using_rdlock, using_rdunlock, using_wrlock, using_wrunlock, Roomy}
use Rattle.replay_simulation.proofs.Naming.{slot_of, slot_decodes}
use Rattle.replay_simulation.proofs.Moving.{Answered}
use Rattle.replay_simulation.proofs.AtWord.{AtWord, Answers, Goes, at_word_lem}
use Rattle.replay_simulation.proofs.Alone.{let_goes, if_first, if_second, while_goes, again_goes, unrolled_first, unrolled_second}
use Rattle.replay_simulation.proofs.Sharing.{part_goes, write_goes}
use Rattle.replay_simulation.proofs.Making.{making_goes, maker_acts, ref_acts, ref_new, maker_new}
use Rattle.replay_simulation.proofs.Joined.{joining_goes}
use Rattle.replay_simulation.proofs.Spawned.{spawning_goes}
use Rattle.replay_simulation.proofs.Called.{call_goes}

-- ------------------------------------------------------------------ identifiers

-- what is asked of a slot before a thread is spawned or joined
pub data Identified (x : Thing) (sl : state.Slot) : Type 0 where
  is_one : if_identifier sl ≡ Some tt → joined_of x ≡ Some Joins → spawned_of x ≡ Some Spawns → Identified x sl
  is_none : if_identifier sl ≡ None → joined_of x ≡ None → spawned_of x ≡ None → Identified x sl

coded_identified : (sl : state.Slot) → Identified (coded sl) sl
unfolding joined_of spawned_of
coded_identified unused = is_none refl refl refl
coded_identified identifier = is_one refl refl refl
coded_identified (cell v) = is_none refl refl refl
coded_identified (a_lock opened) = is_none refl refl refl
coded_identified (a_lock closed) = is_none refl refl refl
coded_identified (semaphore c) = is_none refl refl refl
coded_identified (rwlock N (readers k)) = is_none refl refl refl
coded_identified (rwlock N writer) = is_none refl refl refl

identified : (x : Thing) (sl : state.Slot) → x ≡ coded sl → Identified x sl
identified x sl h = subst (λ (y : Thing). Identified y sl) (sym h) (coded_identified sl)

module _ (p s : List ℕ) (row c : ℕ) {q : Position} {n : ℕ} (v : ℕ) where
  join_acts : RowOf p q (Unary Join) n → acted p s (ready_at row q.index v) c ≡ effected p s row q.index v (joined_of (thing_at s v))
  unfolding acted acted_by word_used subject operand effect_of shape_at is_write rule_of printed
  join_acts r = rw r.code (rw r.code)

  spawn_acts : RowOf p q (Binary Spawn) n → acted p s (ready_at row q.index v) c ≡ effected p s row q.index v (spawned_of (thing_at s v))
  unfolding acted acted_by word_used subject operand effect_of shape_at is_write rule_of printed
  spawn_acts r = rw r.code (rw r.code)

-- ------------------------------------------------------------------ choices

refuses : (p : List ℕ) (f : ControlPoint) → is f.mode Unrolled ≡ false → is_if (shape_at p f.at) ≡ false → (c : ℕ) → may_choose p f (suc c) ≡ false
unfolding may_choose
refuses p f a b c = rw (ne_eqb (suc c) 0 (λ e. omega (arith, e))) (go (eqb (suc c) 1))
  where
    go : (x : Bool) → (when x then (when is f.mode Unrolled then true else is_if (shape_at p f.at)) else false) ≡ false
    go true = rw (a, b)
    go false = refl

too_large : (p : List ℕ) (f : ControlPoint) (c : ℕ) → may_choose p f (suc (suc c)) ≡ false
unfolding may_choose
too_large p f c = rw (ne_eqb (suc (suc c)) 0 (λ e. omega (arith, e)), ne_eqb (suc (suc c)) 1 (λ e. omega (arith, e)))

stuck : (p s : List ℕ) (T : Threads) → Answered p (check_limits within None) (halted Stuck T, s)
unfolding check_limits
stuck p s T = (T, refl)

module _ {p s : List ℕ} {T : Threads} {R : Replay} {t row tid : ℕ} {σ : Env} {w : machine.Word} {K : List Frame}
    (A : AtWord p s T R t row tid σ w K) where
  -- what is left of a line once the word is known
  abbrev Line : Option Part → Outcome Replay
  Line o =
      check_limits within (o >>= λ part. step_word R.machine t tid σ K part w >>= λ N. Some (record { machine = N; things = things_after (effect (redex σ w)) R.things }))

  abbrev WordLine : ControlPoint → ℕ → Type 0
  WordLine f c = Answered p (Line (part_chosen (redex σ w) c)) (stepped_from p s T t f c)

  -- the step that takes that part
  abbrev Takes : Part → ControlPoint → ℕ → Type 0
  Takes part f c = Answered p (Line (Some part)) (after_act p T t f (acted p s f c))

  choice_0 : (f : ControlPoint) → part_chosen (redex σ w) 0 ≡ Some first → Takes first f 0 → WordLine f 0
  unfolding stepped_from may_choose
  choice_0 f e G = subst (λ (o : Option Part). Answered p (Line o) (stepped_from p s T t f 0)) (sym e) G

  choice_1 : (f : ControlPoint) → part_chosen (redex σ w) 1 ≡ Some second → may_choose p f 1 ≡ true → Takes second f 1 → WordLine f 1
  unfolding stepped_from
  choice_1 f e h G = subst (λ (o : Option Part). Answered p (Line o) (stepped_from p s T t f 1)) (sym e) (rw h G)

  choice_none : (f : ControlPoint) (c : ℕ) → part_chosen (redex σ w) c ≡ None → may_choose p f c ≡ false → WordLine f c
  unfolding stepped_from
  choice_none f c e h = rw (h, e) (stuck p s T)

  -- a word with nothing to choose
  plain : {f g : ControlPoint} → f ≡ g → ((c : ℕ) → part_chosen (redex σ w) c ≡ no_choice c) → is g.mode Unrolled ≡ false →
      is_if (shape_at p g.at) ≡ false → Takes first g 0 → (c : ℕ) → WordLine f c
  unfolding no_choice
  plain {g = g} z is a b G c = subst (λ (h : ControlPoint). WordLine h c) (sym z) (by_choice c)
    where
      by_choice : (c : ℕ) → WordLine g c
      by_choice zero = choice_0 g (is 0) G
      by_choice (suc c) = choice_none g (suc c) (is (suc c)) (refuses p g a b c)

  -- an `if`
  either : {f g : ControlPoint} → f ≡ g → ((c : ℕ) → part_chosen (redex σ w) c ≡ part_of_if c) → may_choose p g 1 ≡ true →
      Takes first g 0 → Takes second g 1 → (c : ℕ) → WordLine f c
  unfolding part_of_if
  either {g = g} z is a G₁ G₂ c = subst (λ (h : ControlPoint). WordLine h c) (sym z) (by_choice c)
    where
      by_choice : (c : ℕ) → WordLine g c
      by_choice zero = choice_0 g (is 0) G₁
      by_choice (suc zero) = choice_1 g (is 1) a G₂
      by_choice (suc (suc c)) = choice_none g (suc (suc c)) (is (suc (suc c))) (too_large p g c)

  -- a join, or a spawn, of what is no identifier
  no_identifier : (f : ControlPoint) (k v : ℕ) → Answers A f None (effected p s row k v None)
  unfolding check_limits after_act effected act_step
  no_identifier f k v = (T, refl)

-- ------------------------------------------------------------------ words

-- no `if`
no_if : {p : List ℕ} (q : Position) (w : Word) {v : ℕ} → RowOf p q w v → is_if (shape_of (rule_of (code_of w))) ≡ false → is_if (shape_at p q.index) ≡ false
unfolding shape_at
no_if q w r h = rw r.code h

maker_no_if : (o : calculus.Nullary) → is_if (shape_of (rule_of (code_of (Leaf (no_part_word o))))) ≡ false
unfolding is_if rule_of printed
maker_no_if calculus.newtid = refl
maker_no_if calculus.newlock = refl
maker_no_if calculus.newsem = refl
maker_no_if (calculus.newrwlock N) = refl

at_if : {p : List ℕ} (row : ℕ) (q : Position) {v : ℕ} → RowOf p q (Binary If) v → may_choose p (stopped_at row q.index) 1 ≡ true
unfolding may_choose shape_at is_if rule_of printed
at_if row q r = rw r.code

at_unrolled : (p : List ℕ) (row : ℕ) (q : Position) → may_choose p (unrolled_at row q.index) 1 ≡ true
unfolding may_choose
at_unrolled p row q = refl

roomy_value : (names : ℕ → state.Slot) → ((n : ℕ) → Roomy (names n)) → (v : Value) → Roomy (slot_of names v)
roomy_value names roomy (int k) = tt
roomy_value names roomy (name n) = roomy n

module _ {p s : List ℕ} {T : Threads} {R : Replay} {t row tid : ℕ} {σ : Env} {K : List Frame} where
  join_goes : {q : Position} {m : ℕ} (v : Value) (A : AtWord p s T R t row tid σ (unary_word q join v) K) → RowOf p q (Unary Join) m →
      Goes A first (ready_at row q.index (code_value v)) 0
  unfolding after_act effected act_step
  join_goes {q} (int k) A r =
      rw (join_acts p s row 0 0 r) (constant (identified (thing_at s 0) unused (slot_decodes A.holds.names (int k))))
    where
      constant : Identified (thing_at s 0) unused → Answers A (ready_at row q.index 0) None (effected p s row q.index 0 (joined_of (thing_at s 0)))
      constant (is_one a b c) = none_is_not_some a
      constant (is_none a b c) = rw b (no_identifier A (ready_at row q.index 0) q.index 0)
  join_goes {q} (name n) A r =
      rw (join_acts p s row 0 (suc n) r) (by_slot (identified (thing_at s (suc n)) (R.machine.names n) (slot_decodes A.holds.names (name n))))
    where
      by_slot : Identified (thing_at s (suc n)) (R.machine.names n) →
          Answers A (ready_at row q.index (suc n)) (step_unary R.machine t tid σ K join (name n)) (effected p s row q.index (suc n) (joined_of (thing_at s (suc n))))
      by_slot (is_one a b c) = rw (a, b) (joining_goes A)
      by_slot (is_none a b c) = rw (a, b) (no_identifier A (ready_at row q.index (suc n)) q.index (suc n))

  spawn_goes : {q : Position} {m : ℕ} (v : Value) {e : Expr} (A : AtWord p s T R t row tid σ (spawn_word q v e) K) → RowOf p q (Binary Spawn) m →
      Stands p finish (second_at p q.index) e → Goes A first (ready_at row q.index (code_value v)) 0
  unfolding after_act effected act_step
  spawn_goes {q} (int k) A r S =
      rw (spawn_acts p s row 0 0 r) (constant (identified (thing_at s 0) unused (slot_decodes A.holds.names (int k))))
    where
      constant : Identified (thing_at s 0) unused → Answers A (ready_at row q.index 0) None (effected p s row q.index 0 (spawned_of (thing_at s 0)))
      constant (is_one a b c) = none_is_not_some a
      constant (is_none a b c) = rw c (no_identifier A (ready_at row q.index 0) q.index 0)
  spawn_goes {q} (name n) {e} A r S =
      rw (spawn_acts p s row 0 (suc n) r) (by_slot (identified (thing_at s (suc n)) (R.machine.names n) (slot_decodes A.holds.names (name n))))
    where
      by_slot : Identified (thing_at s (suc n)) (R.machine.names n) →
          Answers A (ready_at row q.index (suc n)) (step_word R.machine t tid σ K first (spawn_word q (name n) e)) (effected p s row q.index (suc n) (spawned_of (thing_at s (suc n))))
      by_slot (is_one a b c) = rw (a, c) (spawning_goes A r S)
      by_slot (is_none a b c) = rw (a, c) (no_identifier A (ready_at row q.index (suc n)) q.index (suc n))

  module _ (roomy : (n : ℕ) → Roomy (R.machine.names n)) where
    -- a word with one part that uses what its part names
    uses : {o : calculus.Unary} → Using o → is_if (shape_of (rule_of (code_of (Unary (part_word o))))) ≡ false → ((v : Value) → things_after (unary_traits o v).effect R.things ≡ R.things) →
        {q : Position} {v : Value} {f : ControlPoint} → WordAt p s row f (unary_word q o v) → (A : AtWord p s T R t row tid σ (unary_word q o v) K) (c : ℕ) → WordLine A f c
    unfolding traits
    uses {o} u h same {q} {v} (z, n, r, N) A c =
        plain A z (λ c. ap (λ (part : ℕ → Option Part). part c) (unary_plain o v).0) refl (no_if q (Unary (part_word o)) r h)
        (rw (same v) (part_goes A u r (roomy_value R.machine.names roomy v))) c

    word_goes : (w : machine.Word) (f : ControlPoint) → WordAt p s row f w → (A : AtWord p s T R t row tid σ w K) (c : ℕ) → WordLine A f c
    unfolding unary_traits traits one_more_if things_after is_if rule_of printed
    word_goes (let_word q x v e) f (z, r, S) A c = plain A z (λ c. refl) refl (no_if q (Binary Let) r refl) (let_goes A r S) c
    word_goes (if_word q e₁ e₂) f (z, n, r, S₁, S₂) A c = either A z (λ c. refl) (at_if row q r) (if_first A r S₁) (if_second A r S₂) c
    word_goes (while_word q e) f (z, n, r, S) A c = plain A z (λ c. refl) refl (no_if q (Unary While) r refl) (while_goes r S A) c
    word_goes (spawn_word q v e) f (z, n, r, S) A c = plain A z (λ c. refl) refl (no_if q (Binary Spawn) r refl) (spawn_goes v A r S) c
    word_goes (write_word q v w) f (z, n, r, held) A c = plain A z (λ c. refl) refl (no_if q (Binary Write) r refl) (write_goes A r held) c
    word_goes (unary_word q join v) f (z, n, r, N) A c = plain A z (λ c. refl) refl (no_if q (Unary Join) r refl) (join_goes v A r) c
    word_goes (unary_word q ref v) f (z, n, r, N) A c =
        plain A z (λ c. refl) refl (no_if q (Unary Ref) r refl)
        (rw (ref_acts p s row 0 (code_value v) r) (making_goes A r.below (ref_new v) (ready_at row q.index (code_value v)))) c
    word_goes (unary_word q read v) f W A c = uses using_read refl (λ v. refl) W A c
    word_goes (unary_word q lock v) f W A c = uses using_lock refl (λ v. refl) W A c
    word_goes (unary_word q unlock v) f W A c = uses using_unlock refl (λ v. refl) W A c
    word_goes (unary_word q post v) f W A c = uses using_post refl (λ v. refl) W A c
    word_goes (unary_word q wait v) f W A c = uses using_wait refl (λ v. refl) W A c
    word_goes (unary_word q (hold rdlock) v) f W A c = uses using_rdlock refl (λ v. refl) W A c
    word_goes (unary_word q (hold rdunlock) v) f W A c = uses using_rdunlock refl (λ v. refl) W A c
    word_goes (unary_word q (hold wrlock) v) f W A c = uses using_wrlock refl (λ v. refl) W A c
    word_goes (unary_word q (hold wrunlock) v) f W A c = uses using_wrunlock refl (λ v. refl) W A c
    word_goes (unary_word q (call g) v) f (z, n, r, N) A c = plain A z (λ c. refl) refl (no_if q (Unary Call) r refl) (call_goes A r N) c
    word_goes (nullary_word q o) f (z, n, r, N) A c =
        plain A z (λ c. refl) refl (no_if q (Leaf (no_part_word o)) r (maker_no_if o))
        (rw (maker_acts p s row 0 o N r) (making_goes A r.below (maker_new o) (stopped_at row q.index))) c
    word_goes (unrolled_word q e) f (z, n, r, S) A c = either A z (λ c. refl) (at_unrolled p row q) (unrolled_first r S A) (unrolled_second r S A) c
    word_goes (again_word q v e) f (z, n, r, S) A c = plain A z (λ c. refl) refl (no_if q (Unary While) r refl) (again_goes r S A) c

-- ------------------------------------------------------------------ a step

place_missing : {A : Type 0} (xs : List A) (i : ℕ) → slice_get xs i ≡ None → length xs ≤ i
place_missing [] i h = omega arith
place_missing (x ∷ xs) zero h = some_is_not_none h
place_missing (x ∷ xs) (suc i) h = let l = place_missing xs i h in omega arith

module _ (p s : List ℕ) (T : Threads) (R : Replay) (H : Holds p s T R) (roomy : (n : ℕ) → Roomy (R.machine.names n)) (t c : ℕ) where
  abbrev ts : List MachineThread
  ts = R.machine.threads

  abbrev line : TraceLine
  line = record { thread = t; choice = c }

  -- a thread runs if its record says so
  runs_decodes : (th : MachineThread) → slice_get ts t ≡ Some th → runs T t ≡ is_running (status_of th.joined th.control)
  unfolding runs
  runs_decodes th there =
      let l = place_below ts t th there in
      let f = H.sized.fits in
      let k = H.sized.count in
      rw (lt-leb T.count t (omega (arith, l, k)), lt-leb 16 t (omega arith)) (ap (λ (r : Record). is_running r.state) (H.threads t th there).recorded)

  runs_not : slice_get ts t ≡ None → runs T t ≡ false
  unfolding runs
  runs_not missing = let l = place_missing ts t missing in let k = H.sized.count in rw (le-leb T.count t (omega (arith, l, k)))

  -- a line of a thread that has no word
  no_word : runs T t ≡ false → stepped_on R line ≡ None → Answered p (check_limits within (stepped_on R line)) (stepped p s T t c)
  unfolding stepped
  no_word h e = rw (h, e) (stuck p s T)

  has_word : (tid : ℕ) (σ : Env) (w : machine.Word) (K : List Frame) → slice_get ts t ≡ Some (running tid (at σ w K)) → Answered p (check_limits within (stepped_on R line)) (stepped p s T t c)
  unfolding stepped stepped_on word_of step is_running
  has_word tid σ w K there =
      rw (runs_decodes (running tid (at σ w K)) there, there) (word_goes roomy w (control_point_at s t) (H.threads t (running tid (at σ w K)) there).control.1 (at_word_lem H there) c)

  joined_wordless : (tid : ℕ) (d : Control) → slice_get ts t ≡ Some (record { tid = tid; joined = true; control = d }) → stepped_on R line ≡ None
  unfolding stepped_on word_of
  joined_wordless tid d there = rw there

  done_wordless : (tid : ℕ) (v : Value) → slice_get ts t ≡ Some (running tid (done v)) → stepped_on R line ≡ None
  unfolding stepped_on word_of
  done_wordless tid v there = rw there

  none_wordless : slice_get ts t ≡ None → stepped_on R line ≡ None
  unfolding stepped_on
  none_wordless missing = rw missing

  -- the numbers answer the line as the machine does, and hold it afterwards
  pub step_simulated : Answered p (check_limits within (stepped_on R line)) (stepped p s T t c)
  unfolding is_running
  step_simulated = by_place (slice_get ts t) refl
    where
      by_record : (tid : ℕ) (joined : Bool) (d : Control) → slice_get ts t ≡ Some (record { tid = tid; joined = joined; control = d }) → Answered p (check_limits within (stepped_on R line)) (stepped p s T t c)
      by_record tid true d there = no_word (runs_decodes (record { tid = tid; joined = true; control = d }) there) (joined_wordless tid d there)
      by_record tid false (done v) there = no_word (runs_decodes (running tid (done v)) there) (done_wordless tid v there)
      by_record tid false (at σ w K) there = has_word tid σ w K there

      by_place : (o : Option MachineThread) → slice_get ts t ≡ o → Answered p (check_limits within (stepped_on R line)) (stepped p s T t c)
      by_place None missing = no_word (runs_not missing) (none_wordless missing)
      by_place (Some th) there = by_record th.tid th.joined th.control there
