-- The words that make a new thing, on numbers, are the machine's; past 64 of a kind they answer that a limit is passed.
use Rattle.std.proofs.Common.{Some, Result, Ok}
use Prim.Native.Nat.{ℕ, suc, ◌+◌, ◌<◌, ◌≤◌}
use mathlib.Core.Path.{◌≡◌, refl, sym, ◌∙◌, ap, subst}
use mathlib.Core.Logic.{◌≢◌}
use mathlib.Core.Bool.{false}
use mathlib.Core.List.{List}
use native.Mathlib.Omega.{arith}
use native.Mathlib.Decide.{ℕ_discrete, dec_lt}
use borrow.Author.Tests.{le-leb, lt-leb}
use lib.Dec.{eqb, ltb}
use lib.ListN.{length, get_or, set, length-set}
use lib.Seq.{get_or-set_same, get_or-set_other}
use Rattle.spec.specs.Choice.{when◌then◌else◌}
use Rattle.spec.specs.Expression.{Position}
use Rattle.spec.specs.declared.Word.TheVariants.{Leaf, Unary}
use Rattle.spec.specs.declared.UnaryWord.TheVariants.{Ref}
use Rattle.calculus.specs.Expression as calculus
use Rattle.calculus.specs.Expression.{Value, name, choose, newtid, newlock, newsem, newrwlock}
use Rattle.calculus.specs.State as state
use Rattle.calculus.specs.State.{cell, update}
use Rattle.calculus.specs.Reduction.{made}
use Rattle.calculus.proofs.Laws.Maps.{update_other}
use Rattle.workspace.specs.Layout.{rule_of, printed}
use Rattle.threads.specs.declared.Threads.{Threads}
use Rattle.replay_control.specs.Layout.{thing_counts_at, next_value_at, thing_kinds_at, thing_firsts_at, thing_seconds_at, space_size}
use Rattle.replay_control.specs.Shapes.{shape_at, is_write}
use Rattle.replay_control.specs.Control.{continuation, returning, stopped_at, ready_at}
use Rattle.replay_objects.specs.declared.Thing.{Thing}
use Rattle.replay_objects.specs.declared.Thing.TheVariants.{Cell}
use Rattle.replay_objects.specs.Stored.{slot, numbers_of, thing_of}
use Rattle.replay_objects.proofs.Stored.{Plain}
use Rattle.replay_control.specs.declared.ControlPoint.{ControlPoint}
use Rattle.replay_step.specs.declared.words.Act.{Act}
use Rattle.replay_step.specs.declared.words.Act.TheVariants.{Go}
use Rattle.replay_step.specs.declared.words.Halt.{Halt}
use Rattle.replay_objects.specs.Uses.{effect_of}
use Rattle.replay_step.specs.Slots.{thing_at, thing_put}
use Rattle.replay_step.specs.Words.{given, with_thing, new_thing, subject, operand, effected, word_used, acted_by, acted}
use Rattle.replay_engine.specs.Steps.{act_step, after_act}
use Rattle.replay_theory.specs.Run.{ObjectKind, cells, locks, rwlocks, semaphores, identifiers, same_kind, makes, same_effect, next_name, one_more_if, things_after, thread_limit, thing_limit, within_limits, kind_made}
use Rattle.replay_theory.specs.Replay.{check_limits}
use Rattle.replay_theory.proofs.Proper.{name_more}
use Rattle.replay_machine.specs.Environment.{Env}
use Rattle.replay_machine.specs.Control as machine
use Rattle.replay_machine.specs.Control.{Frame, return}
use Rattle.replay_machine.specs.State.{Machine, running}
use Rattle.replay_machine.specs.Step.{creates}
use Rattle.replay_machine.specs.Replay.{Replay, within}
use Rattle.replay_simulation.proofs.Held.{no_part_word, NoPartNumber, RowOf, place_of}
use Rattle.replay_simulation.proofs.Agreeing.{Agree, agree_then, agree_shared}
use Rattle.replay_simulation.proofs.Holds.{slot_at, thing_told, coded, kind_code, kind_low, NamesHeld}
use Rattle.replay_simulation.proofs.Naming.{thing_put_length, put_elsewhere, thing_here, thing_there, plain_put, thing_agree}
use Rattle.replay_simulation.proofs.Moving.{Answered}
use Rattle.replay_simulation.proofs.AtWord.{AtWord, becomes}

-- ------------------------------------------------------------------ counts

kind_at : ℕ → ObjectKind
kind_at n = when eqb n 1 then identifiers else when eqb n 2 then cells else when eqb n 3 then locks else when eqb n 4 then semaphores else rwlocks

kind_at_lem : (k : ObjectKind) → kind_at (kind_code k) ≡ k
unfolding kind_at
kind_at_lem identifiers = refl
kind_at_lem cells = refl
kind_at_lem locks = refl
kind_at_lem semaphores = refl
kind_at_lem rwlocks = refl

kind_apart : (l k : ObjectKind) → l ≢ k → kind_code l ≢ kind_code k
kind_apart l k n e = n (sym (kind_at_lem l) ∙ ap kind_at e ∙ kind_at_lem k)

same_kind_lem : {k l : ObjectKind} → makes k ≡ makes l → k ≡ l
same_kind_lem h = cc

one_more_few : (k : ObjectKind) (things : ObjectKind → ℕ) → ((l : ObjectKind) → things l ≤ 64) → things k < 64 → (l : ObjectKind) → things_after (makes k) things l ≤ 64
unfolding one_more_if things_after
one_more_few k things few h l = go (same_effect same_kind (makes k) (makes l))
  where
    go : (d : Dec (makes k ≡ makes l)) → choose d (suc (things l)) (things l) ≤ 64
    go (yes e) = let z = ap things (same_kind_lem e) in omega (arith, z, h)
    go (no n) = few l

-- one of a kind too many
past_limits : (n : ℕ) (k : ObjectKind) (things : ObjectKind → ℕ) → n ≤ 16 → ((l : ObjectKind) → things l ≤ 64) → 64 ≤ things k → within_limits n (things_after (makes k) things) ≡ false
unfolding within_limits thread_limit thing_limit one_more_if things_after
past_limits n cells things h few p = rw (le-leb n 16 h, lt-leb (suc (things cells)) 64 (omega (arith, p)))
past_limits n locks things h few p = rw (le-leb n 16 h, le-leb (things cells) 64 (few cells), lt-leb (suc (things locks)) 64 (omega (arith, p)))
past_limits n rwlocks things h few p =
    rw (le-leb n 16 h, le-leb (things cells) 64 (few cells), le-leb (things locks) 64 (few locks), lt-leb (suc (things rwlocks)) 64 (omega (arith, p)))
past_limits n semaphores things h few p =
    rw (le-leb n 16 h, le-leb (things cells) 64 (few cells), le-leb (things locks) 64 (few locks), le-leb (things rwlocks) 64 (few rwlocks), lt-leb (suc (things semaphores)) 64 (omega (arith, p)))
past_limits n identifiers things h few p =
    rw (le-leb n 16 h, le-leb (things cells) 64 (few cells), le-leb (things locks) 64 (few locks), le-leb (things rwlocks) 64 (few rwlocks), le-leb (things semaphores) 64 (few semaphores), lt-leb (suc (things identifiers)) 64 (omega (arith, p)))

-- ------------------------------------------------------------------ names

slot_set : (s : List ℕ) (j y v : ℕ) → j < thing_kinds_at → slot_at (set s j y) v ≡ slot_at s v
unfolding slot_at
slot_set s j y v h = λ z. when ltb v 322 then slot
    (get_or-set_other s j (thing_kinds_at + v) y 0 (λ e. omega (arith, e, h)) z)
    (get_or-set_other s j (thing_firsts_at + v) y 0 (λ e. omega (arith, e, h)) z)
    (get_or-set_other s j (thing_seconds_at + v) y 0 (λ e. omega (arith, e, h)) z) else slot 0 0 0

-- a new thing of kind k
pub record NewOf (k : ObjectKind) (new : state.Slot) : Type 0 where
  pub is_kind : (numbers_of (coded new)).kind ≡ kind_code k

module _ {s : List ℕ} {names : ℕ → state.Slot} {next : ℕ} {things : ObjectKind → ℕ} (N : NamesHeld s names next things) (long : length s ≡ space_size)
    {k : ObjectKind} {new : state.Slot} (O : NewOf k new) (room : things k < 64) where
  abbrev x : Thing
  x = coded new

  abbrev s₁ : List ℕ
  s₁ = thing_put s (suc next) x

  abbrev s₂ : List ℕ
  s₂ = set s₁ (thing_counts_at + kind_code k) (things k + 1)

  abbrev s₃ : List ℕ
  s₃ = set s₂ next_value_at (suc next + 1)

  next_low : suc next < 322
  unfolding next_name
  next_low =
      let a = N.all in
      let b = N.few identifiers in
      let c = N.few cells in
      let d = N.few locks in
      let e = N.few semaphores in
      let f = N.few rwlocks in
      less k room a b c d e f
    where
      less : (k : ObjectKind) → things k < 64 → next ≡ next_name things → things identifiers ≤ 64 → things cells ≤ 64 → things locks ≤ 64 → things semaphores ≤ 64 → things rwlocks ≤ 64 → suc next < 322
      less identifiers h a b c d e f = omega arith
      less cells h a b c d e f = omega arith
      less locks h a b c d e f = omega arith
      less semaphores h a b c d e f = omega arith
      less rwlocks h a b c d e f = omega arith

  long₁ : length s₁ ≡ space_size
  long₁ = thing_put_length s (suc next) x ∙ long

  long₂ : length s₂ ≡ space_size
  long₂ = length-set s₁ (thing_counts_at + kind_code k) (things k + 1) ∙ long₁

  pub long₃ : length s₃ ≡ space_size
  long₃ = length-set s₂ next_value_at (suc next + 1) ∙ long₂

  slot_after : (v : ℕ) → slot_at s₃ v ≡ slot_at s₁ v
  slot_after v = slot_set s₂ next_value_at (suc next + 1) v (omega arith) ∙ slot_set s₁ (thing_counts_at + kind_code k) (things k + 1) v (let l = kind_low k in omega arith)

  thing_after : (v : ℕ) → thing_at s₃ v ≡ thing_at s₁ v
  thing_after v = thing_told s₃ v ∙ ap thing_of (slot_after v) ∙ sym (thing_told s₁ v)

  pub names_made : NamesHeld s₃ (update names next new) (suc next) (things_after (makes k) things)
  unfolding one_more_if things_after
  names_made = record {
    constant = thing_after 0 ∙ thing_there s (suc next) x next_low 0 (λ e. omega (arith, e)) ∙ N.constant;
    slots = λ m h. by_name m h (ℕ_discrete m next);
    plain = λ v. subst Plain (sym (slot_after v)) (plain_put s (suc next) x next_low long N.plain v);
    unused_from_lem = λ m h. update_other names next m new (λ e. omega (arith, e, h)) ∙ N.unused_from_lem m (omega (arith, h));
    next_stored = get_or-set_same s₂ next_value_at (suc next + 1) 0 (omega (arith, long₂)) ∙ (let e : suc next + 1 ≡ suc (suc next) = omega arith in e);
    counted = λ l. by_kind l (same_effect same_kind (makes k) (makes l));
    few = one_more_few k things N.few room;
    all = ap suc N.all ∙ sym (name_more k things);
  }
    where
      by_name : (m : ℕ) → suc m < 322 → (d : Dec (m ≡ next)) → thing_at s₃ (suc m) ≡ coded (choose d new (names m))
      by_name m h (yes e) = thing_after (suc m) ∙ ap (λ (j : ℕ). thing_at s₁ (suc j)) e ∙ thing_here s (suc next) x next_low long
      by_name m h (no f) = thing_after (suc m) ∙ thing_there s (suc next) x next_low (suc m) (λ e. f (omega (arith, e))) ∙ N.slots m h

      by_kind : (l : ObjectKind) → (d : Dec (makes k ≡ makes l)) → get_or s₃ (thing_counts_at + kind_code l) 0 ≡ choose d (suc (things l)) (things l)
      by_kind l (yes e) =
          get_or-set_other s₂ next_value_at (thing_counts_at + kind_code l) (suc next + 1) 0 (λ z. let a = kind_low l in omega (arith, z, a))
          ∙ ap (λ (m : ObjectKind). get_or s₂ (thing_counts_at + kind_code m) 0) (sym (same_kind_lem e))
          ∙ get_or-set_same s₁ (thing_counts_at + kind_code k) (things k + 1) 0 (let a = kind_low k in omega (arith, a, long₁))
          ∙ (let z : things k + 1 ≡ suc (things k) = omega arith in z) ∙ ap (λ (m : ObjectKind). suc (things m)) (same_kind_lem e)
      by_kind l (no n) =
          let a = kind_low l in
          get_or-set_other s₂ next_value_at (thing_counts_at + kind_code l) (suc next + 1) 0 (λ z. omega (arith, z, a))
          ∙ get_or-set_other s₁ (thing_counts_at + kind_code k) (thing_counts_at + kind_code l) (things k + 1) 0 (λ z. kind_apart l k (λ e. n (ap makes (sym e))) (omega (arith, z)))
          ∙ put_elsewhere s (suc next) x next_low (thing_counts_at + kind_code l) (λ z. omega (arith, z, a)) (λ z. omega (arith, z, a)) (λ z. omega (arith, z, a))
          ∙ N.counted l

  pub agree_made : (i : ℕ) → i < 16 → Agree i s s₃
  agree_made i h =
      agree_then (thing_agree i s (suc next) x h)
      (agree_then (agree_shared i (thing_counts_at + kind_code k) (things k + 1) s₁ h (omega arith)) (agree_shared i next_value_at (suc next + 1) s₂ h (omega arith)))

  -- the space that the code leaves
  pub thing_added : with_thing s x ≡ s₃
  unfolding with_thing
  thing_added = rw (O.is_kind, N.counted k, N.next_stored)

-- ------------------------------------------------------------------ the machine's word

module _ {p s : List ℕ} {T : Threads} {R : Replay} {t row tid : ℕ} {σ : Env} {w : machine.Word} {K : List Frame} (A : AtWord p s T R t row tid σ w K) (below : place_of p s w < 256)
    {k : ObjectKind} {new : state.Slot} (O : NewOf k new) (f : ControlPoint) where
  abbrev thing : Thing
  thing = coded new

  abbrev M : Machine
  M = R.machine

  abbrev Created : Replay
  Created = record { machine = creates M t tid σ K new; things = things_after (makes k) R.things }

  abbrev Makes : Result Act Halt × List ℕ → Type 0
  Makes a = Answered p (check_limits within (Some Created)) (after_act p T t f a)

  counted_here : get_or s (thing_counts_at + (numbers_of thing).kind) 0 ≡ R.things k
  counted_here = ap (λ (i : ℕ). get_or s (thing_counts_at + i) 0) O.is_kind ∙ A.holds.names.counted k

  makes_room : R.things k < 64 → Makes (new_thing p s row (place_of p s w) thing)
  unfolding new_thing given
  makes_room room = subst Makes (sym made_here) (becomes A after (long₃ N long O room) (agree_made N long O room) (names_made N long O room) below f (name M.next))
    where
      N : NamesHeld s M.names M.next R.things
      N = A.holds.names

      long : length s ≡ space_size
      long = A.holds.long

      after : List ℕ
      after = s₃ N long O room

      made_here : new_thing p s row (place_of p s w) thing ≡ (Ok (Go (returning row (continuation p (place_of p s w)) (suc M.next))), after)
      made_here =
          rw (counted_here, N.next_stored, lt-leb 64 (R.things k) room, lt-leb 322 (suc M.next) (next_low N long O room))
          (ap (λ (z : List ℕ). (Ok (Go (returning row (continuation p (place_of p s w)) (suc M.next))), z)) (thing_added N long O room))

  makes_none : 64 ≤ R.things k → Makes (new_thing p s row (place_of p s w) thing)
  unfolding check_limits within new_thing after_act act_step
  makes_none full =
      rw (
        ap (λ (n : ℕ). within_limits n (things_after (makes k) R.things)) (length-set M.threads t (running tid (return σ (name M.next) K)))
            ∙ past_limits (length M.threads) k R.things A.holds.sized.fits A.holds.names.few full,
        counted_here,
        le-leb 64 (R.things k) full,
      )
      (T, refl)

  pub making_goes : Makes (new_thing p s row (place_of p s w) thing)
  making_goes = go (dec_lt (R.things k) 64)
    where
      go : Dec (R.things k < 64) → Makes (new_thing p s row (place_of p s w) thing)
      go (yes room) = makes_room room
      go (no f) = makes_none (omega (arith, f))

-- ------------------------------------------------------------------ what the code does

module _ (p s : List ℕ) (row c : ℕ) {q : Position} {v : ℕ} where
  pub maker_acts : (o : calculus.Nullary) → NoPartNumber o v → RowOf p q (Leaf (no_part_word o)) v → acted p s (stopped_at row q.index) c ≡ new_thing p s row q.index (coded (made o))
  unfolding acted acted_by word_used effected subject operand effect_of shape_at is_write rule_of printed
  maker_acts newtid n r = rw r.code (rw r.code)
  maker_acts newlock n r = rw r.code (rw r.code)
  maker_acts newsem n r = rw r.code (rw r.code)
  maker_acts (newrwlock N) n r = rw r.code (rw (r.code, r.number, n))

  pub ref_acts : (w : ℕ) → RowOf p q (Unary Ref) v → acted p s (ready_at row q.index w) c ≡ new_thing p s row q.index (Cell w)
  unfolding acted acted_by word_used effected subject operand effect_of shape_at is_write rule_of printed
  ref_acts w r = rw r.code (rw r.code)

pub ref_new : (v : Value) → NewOf cells (cell v)
unfolding numbers_of
ref_new v = record { is_kind = refl }

pub maker_new : (o : calculus.Nullary) → NewOf (kind_made o) (made o)
unfolding numbers_of
maker_new newtid = record { is_kind = refl }
maker_new newlock = record { is_kind = refl }
maker_new newsem = record { is_kind = refl }
maker_new (newrwlock N) = record { is_kind = refl }
