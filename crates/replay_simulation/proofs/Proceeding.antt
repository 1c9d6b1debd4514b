-- A thread goes on from a focus to its next word: the numbers then hold the machine in which it has gone there.
use Rattle.std.proofs.Common.{Some, slice_get}
use Prim.Native.Nat.{ℕ, zero, suc, ◌+◌, ◌<◌, ◌≤◌}
use mathlib.Core.Path.{◌≡◌, refl, sym, ◌∙◌, ap, subst}
use mathlib.Core.Logic.{◌≢◌}
use mathlib.Core.Bool.{Bool, false}
use mathlib.Core.List.{List, [], ◌∷◌}
use native.Mathlib.Omega.{arith}
use native.Mathlib.Decide.{ℕ_discrete}
use borrow.Author.Tests.{lt-ltb}
use lib.Dec.{ltb}
use lib.ListN.{length, get_or, set, length-set}
use lib.Seq.{get_or-set_same, get_or-set_other}
use Rattle.spec.specs.Choice.{when◌then◌else◌}
use Rattle.calculus.specs.State as calculus
use Rattle.calculus.proofs.Laws.Maps.{some_injective, none_is_not_some}
use Rattle.calculus.proofs.Laws.Places.{set_elsewhere}
use Rattle.replay_theory.specs.declared.Status.TheVariants.{Running, Finished}
use Rattle.threads.specs.declared.Record.{Record}
use Rattle.threads.specs.declared.Threads.{Threads}
use Rattle.threads.specs.Records.{no_record}
use Rattle.threads.specs.Threads.{turned, finished}
use Rattle.replay_control.specs.Layout.{thing_counts_at, next_value_at, thing_kinds_at, thing_firsts_at, thing_seconds_at, space_size}
use Rattle.replay_control.specs.declared.Mode.TheVariants.{Done}
use Rattle.replay_control.specs.Modes.{is}
use Rattle.replay_control.proofs.Modes.{mode_low}
use Rattle.replay_control.specs.declared.ControlPoint.{ControlPoint}
use Rattle.replay_control.specs.Control.{found}
use Rattle.replay_objects.specs.Stored.{slot, thing_of}
use Rattle.replay_objects.proofs.Stored.{Plain}
use Rattle.replay_step.specs.Slots.{thing_at}
use Rattle.replay_engine.specs.ControlPoints.{control_point_at, control_point_put, settled, went_on}
use Rattle.replay_engine.specs.Steps.{recorded, proceeded}
use Rattle.replay_theory.specs.Run.{ObjectKind}
use Rattle.replay_machine.specs.Control as machine
use Rattle.replay_machine.specs.Control.{Control, done, at, open_calls}
use Rattle.replay_machine.specs.State.{MachineThread, running}
use Rattle.replay_machine.specs.Step.{is_done, goes_to}
use Rattle.replay_machine.specs.Replay.{Replay}
use Rattle.replay_simulation.proofs.Held.{BodiesStand, ControlAt, WordAt}
use Rattle.replay_simulation.proofs.Advancing.{SameBut}
use Rattle.replay_simulation.proofs.Finding.{Finds}
use Rattle.replay_simulation.proofs.Agreeing.{SharedSame, control_same, agree_then, agree_found, shared_found, mode_here, control_point_here, control_point_length, control_point_other, control_point_shared, control_point_rows}
use Rattle.replay_simulation.proofs.Holds.{slot_at, thing_told, NamesHeld, kind_code, record_of, ThreadHeld, Sized, ThreadsHeld, Holds}

-- ------------------------------------------------------------------ names

pub slot_same : (s s' : List ℕ) (v : ℕ) → SharedSame s s' → slot_at s' v ≡ slot_at s v
unfolding slot_at
slot_same s s' v h = λ z. when ltb v 322 then slot (h (thing_kinds_at + v) (omega arith) z) (h (thing_firsts_at + v) (omega arith) z) (h (thing_seconds_at + v) (omega arith) z) else slot 0 0 0

pub thing_same : (s s' : List ℕ) (v : ℕ) → SharedSame s s' → thing_at s' v ≡ thing_at s v
thing_same s s' v h = thing_told s' v ∙ ap thing_of (slot_same s s' v h) ∙ sym (thing_told s v)

pub names_same : (s s' : List ℕ) {names : ℕ → calculus.Slot} {next : ℕ} {things : ObjectKind → ℕ} → SharedSame s s' → NamesHeld s names next things → NamesHeld s' names next things
names_same s s' {names = names} h N = record {
  constant = thing_same s s' 0 h ∙ N.constant;
  slots = λ n l. thing_same s s' (suc n) h ∙ N.slots n l;
  plain = λ v. subst Plain (sym (slot_same s s' v h)) (N.plain v);
  unused_from_lem = N.unused_from_lem;
  next_stored = h next_value_at (omega arith) ∙ N.next_stored;
  counted = λ k. h (thing_counts_at + kind_code k) (omega arith) ∙ N.counted k;
  few = N.few;
  all = N.all;
}

-- ------------------------------------------------------------------ the record

-- whether the loop found no word
mode_tells : (p s : List ℕ) (t : ℕ) (f : ControlPoint) (d : Control) → ControlAt p s t f d → is f.mode Done ≡ is_done d
mode_tells p s t f (done v) C = ap (λ (g : ControlPoint). is g.mode Done) C
mode_tells p s t f (at σ w K) (values, W, F) = word_tells w W
  where
    word_tells : (w : machine.Word) → WordAt p s f.row f w → is f.mode Done ≡ false
    word_tells (machine.let_word q x v e) W = ap (λ (g : ControlPoint). is g.mode Done) W.0
    word_tells (machine.if_word q e₁ e₂) W = ap (λ (g : ControlPoint). is g.mode Done) W.0
    word_tells (machine.while_word q e) W = ap (λ (g : ControlPoint). is g.mode Done) W.0
    word_tells (machine.spawn_word q v e) W = ap (λ (g : ControlPoint). is g.mode Done) W.0
    word_tells (machine.write_word q v w) W = ap (λ (g : ControlPoint). is g.mode Done) W.0
    word_tells (machine.unary_word q o v) W = ap (λ (g : ControlPoint). is g.mode Done) W.0
    word_tells (machine.nullary_word q o) W = ap (λ (g : ControlPoint). is g.mode Done) W.0
    word_tells (machine.unrolled_word q e) W = ap (λ (g : ControlPoint). is g.mode Done) W.0
    word_tells (machine.again_word q v e) W = ap (λ (g : ControlPoint). is g.mode Done) W.0

abbrev running_record : (tid : ℕ) → Record
running_record tid = record { state = Running; tid = suc tid }

-- the record of a thread that was running, once it has gone on to d
module _ (T : Threads) (t tid : ℕ) (low : t < 16) (long : length T.records ≡ 16) (was : get_or T.records t no_record ≡ running_record tid) where
  abbrev after : Control → Threads
  after d = when is_done d then finished T t else T

  record_here : (d : Control) → get_or (after d).records t no_record ≡ record_of (running tid d)
  unfolding finished turned
  record_here (done v) = rw (lt-ltb t 16 low) (get_or-set_same T.records t _ no_record (omega (arith, low, long)) ∙ ap (λ (r : Record). record { state = Finished; tid = r.tid }) was)
  record_here (at σ w K) = was

  record_there : (d : Control) (i : ℕ) → i ≢ t → get_or (after d).records i no_record ≡ get_or T.records i no_record
  unfolding finished turned
  record_there (done v) i n = rw (lt-ltb t 16 low) (get_or-set_other T.records t i _ no_record n)
  record_there (at σ w K) i n = refl

  count_same : (d : Control) → (after d).count ≡ T.count
  unfolding finished turned
  count_same (done v) = rw (lt-ltb t 16 low)
  count_same (at σ w K) = refl

  records_long : (d : Control) → length (after d).records ≡ 16
  unfolding finished turned
  records_long (done v) = rw (lt-ltb t 16 low) (length-set T.records t (record { state = Finished; tid = (get_or T.records t no_record).tid }) ∙ long)
  records_long (at σ w K) = long

-- ------------------------------------------------------------------ places

pub place_below : {A : Type 0} (xs : List A) (i : ℕ) (a : A) → slice_get xs i ≡ Some a → i < length xs
place_below [] i a h = none_is_not_some h
place_below (x ∷ xs) zero a h = omega arith
place_below (x ∷ xs) (suc i) a h = let l = place_below xs i a h in omega arith

pub set_here : {A : Type 0} (xs : List A) (i : ℕ) (a b : A) → slice_get (set xs i a) i ≡ Some b → a ≡ b
set_here [] i a b h = none_is_not_some h
set_here (x ∷ xs) zero a b h = some_injective h
set_here (x ∷ xs) (suc i) a b h = set_here xs i a b h

-- ------------------------------------------------------------------ going on

-- thread t, which was running with the identifier tid, is on its way; all else is held
pub record Paused (p s : List ℕ) (T : Threads) (R : Replay) (t tid : ℕ) : Type 0 where
  pub long : length s ≡ space_size
  pub bodies : BodiesStand p R.machine.procedures
  pub names : NamesHeld s R.machine.names R.machine.next R.things
  pub sized : Sized T R.machine.threads
  pub there : t < length R.machine.threads
  pub was : get_or T.records t no_record ≡ running_record tid
  pub others : (i : ℕ) (th : MachineThread) → i ≢ t → slice_get R.machine.threads i ≡ Some th → ThreadHeld p s T i th

-- it has gone on to d
abbrev pub gone_to : Replay → (t tid : ℕ) → Control → Replay
gone_to R t tid d = record { machine = goes_to R.machine t tid R.machine.names d; things = R.things }

module _ {p s : List ℕ} {T : Threads} {R : Replay} {t tid : ℕ} (P : Paused p s T R t tid) where
  abbrev ts : List MachineThread
  ts = R.machine.threads

  pub low : t < 16
  low = let a = P.there in let b = P.sized.fits in omega arith

  module _ (g : ControlPoint) (s₂ : List ℕ) (d : Control) (few : open_calls d ≤ 64) (C : ControlAt p s₂ t g d) (S : SameBut t s s₂) where
    abbrev s' : List ℕ
    s' = control_point_put s₂ t g

    abbrev T' : Threads
    T' = after T t tid low P.sized.records P.was d

    long₂ : length s₂ ≡ space_size
    long₂ = S.long ∙ P.long

    shared : SharedSame s s'
    shared j h = control_point_shared t s₂ g low j h ∙ shared_found t s s₂ low S j h

    sized_after : Sized T' (set ts t (running tid d))
    sized_after = record {
      count = count_same T t tid low P.sized.records P.was d ∙ P.sized.count ∙ sym (length-set ts t (running tid d));
      fits = let l = length-set ts t (running tid d) in let f = P.sized.fits in omega arith;
      records = records_long T t tid low P.sized.records P.was d;
      behind = λ i l m.
          let e = length-set ts t (running tid d) in
          let h = P.there in
          ap (λ (r : Record). r.state) (record_there T t tid low P.sized.records P.was d i (λ q. omega (arith, q, l, e, h))) ∙ P.sized.behind i (omega (arith, l, e)) m;
    }

    thread_here : ThreadHeld p s' T' t (running tid d)
    thread_here = record {
      recorded = record_here T t tid low P.sized.records P.was d;
      control = subst (λ (f : ControlPoint). ControlAt p s' t f d) (sym (control_point_here s₂ t g long₂ low)) (control_same p t s₂ s' (control_point_rows t t s₂ g low low) g d (omega (arith, few)) C);
      plain = rw (mode_here s₂ t g long₂ low) (mode_low g.mode);
      settled = λ e. absurd (let z : ◌≡◌ {A = ℕ} 0 1 = cc in omega arith);
      calls = few;
    }

    thread_there : (i : ℕ) (th : MachineThread) → i ≢ t → slice_get ts i ≡ Some th → ThreadHeld p s' T' i th
    thread_there i th n h =
        let l = place_below ts i th h in
        let f = P.sized.fits in
        let a = agree_then (agree_found i t s s₂ (omega arith) low n S) (control_point_other i t s₂ g (omega arith) low n) in
        let held = P.others i th n h in
        record {
          recorded = record_there T t tid low P.sized.records P.was d i n ∙ held.recorded;
          control = subst (λ (f : ControlPoint). ControlAt p s' i f th.control) (sym a.focused) (control_same p i s s' a.rows (control_point_at s i) th.control (let n = held.calls in omega arith) held.control);
          plain = rw a.mode held.plain;
          settled = held.settled;
          calls = held.calls;
        }

    threads_after : ThreadsHeld p s' T' (set ts t (running tid d))
    threads_after i th h = by_place (ℕ_discrete i t)
      where
        by_place : Dec (i ≡ t) → ThreadHeld p s' T' i th
        by_place (yes e) =
            let here = set_here ts t (running tid d) th (ap (slice_get (set ts t (running tid d))) (sym e) ∙ h) in
            subst (λ (j : ℕ). ThreadHeld p s' T' j th) (sym e) (subst (ThreadHeld p s' T' t) here thread_here)
        by_place (no n) = thread_there i th n (sym (set_elsewhere ts t i (running tid d) (λ e. n (sym e))) ∙ h)

    held_after : Holds p s' T' (gone_to R t tid d)
    held_after = record {
      long = control_point_length s₂ t g ∙ long₂;
      bodies = P.bodies;
      names = names_same s s' shared P.names;
      sized = sized_after;
      threads = threads_after;
    }

  pub proceeds : (f : ControlPoint) (d : Control) → open_calls d ≤ 64 → Finds p t s d (found 2048 p s f) →
      Holds p (proceeded p s T t f).1 (proceeded p s T t f).0 (gone_to R t tid d)
  unfolding proceeded recorded went_on settled
  proceeds f d few (C, S) =
      let g = (found 2048 p s f).0 in
      let s₂ = (found 2048 p s f).1 in
      subst (λ (b : Bool). Holds p (control_point_put s₂ t g) (when b then finished T t else T) (gone_to R t tid d)) (sym (mode_tells p s₂ t g d C)) (held_after g s₂ d few C S)
