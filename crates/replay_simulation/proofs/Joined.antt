-- A join on numbers is the machine's: the records find the thread that the machine finds.
use Rattle.std.proofs.Common.{Option, None, Some, option_map, slice_get, cond}
use Rattle.std.specs.List.{position_from}
use Rattle.std.proofs.lemmas.Iterator.Adapters.{position_from-zero}
use Prim.Native.Nat.{ℕ, suc, ◌+◌, ◌<◌, ◌≤◌}
use mathlib.Core.Path.{◌≡◌, refl, sym, ◌∙◌, ap, subst}
use mathlib.Core.Logic.{◌≢◌}
use mathlib.Core.Bool.{Bool, true, false, not, ◌&&◌}
use mathlib.Core.List.{List, [], ◌∷◌}
use native.Mathlib.Omega.{arith}
use native.Mathlib.Decide.{ℕ_discrete}
use borrow.Author.Tests.{lt-ltb, eq-eqb, ne_eqb}
use lib.Dec.{eqb}
use lib.ListN.{length, get_or, set, length-set}
use lib.Seq.{get_or-set_same, get_or-set_other}
use Rattle.replay_theory.specs.declared.Status.{Status}
use Rattle.replay_theory.specs.declared.Status.TheVariants.{Running, Joined}
use Rattle.threads.specs.declared.Record.{Record}
use Rattle.threads.specs.declared.Threads.{Threads}
use Rattle.threads.specs.Records.{no_record, if_finished, matching, lowest as lowest_of}
use Rattle.threads.specs.Threads.{turned, joined}
use Rattle.spec.specs.Expression.{Position}
use Rattle.calculus.specs.Expression.{name, join}
use Rattle.calculus.specs.Reduction.{◌>>=◌}
use Rattle.calculus.proofs.Laws.Maps.{none_is_not_some}
use Rattle.calculus.proofs.Laws.Places.{set_elsewhere, sets_swap}
use Rattle.replay_control.specs.declared.ControlPoint.{ControlPoint}
use Rattle.replay_control.specs.Control.{continuation, returning, ready_at}
use Rattle.replay_step.specs.Words.{given}
use Rattle.replay_step.specs.declared.words.Halt.TheVariants.{Stuck}
use Rattle.replay_engine.specs.Steps.{halted, act_step, after_act, gives_zero, joined_by, joined_step}
use Rattle.replay_theory.specs.Replay.{check_limits}
use Rattle.replay_machine.specs.Environment.{Env}
use Rattle.replay_machine.specs.Control.{Frame, unary_word, Control, done, at, return}
use Rattle.replay_machine.specs.State.{MachineThread, Machine, running}
use Rattle.replay_machine.specs.Step.{is_done, joinable, first_or, lowest, zero_value, as_joined, mark_joined, gives}
use Rattle.replay_machine.specs.Replay.{Replay, status_of, within}
use Rattle.replay_machine.proofs.Joining.{JoinableAt, lowest_found, joiner_is_another}
use Rattle.replay_simulation.proofs.Finding.{returns_word}
use Rattle.replay_simulation.proofs.Holds.{record_of, ThreadHeld, Sized, Holds}
use Rattle.replay_simulation.proofs.Proceeding.{place_below, set_here, Paused}
use Rattle.replay_simulation.proofs.Moving.{Answered, moves}
use Rattle.replay_simulation.proofs.AtWord.{AtWord, with_threads, ready}

-- ------------------------------------------------------------------ the lowest finished thread

eqb_suc : (a b : ℕ) → eqb (suc a) (suc b) ≡ eqb a b
eqb_suc a b = go (ℕ_discrete a b)
  where
    go : Dec (a ≡ b) → eqb (suc a) (suc b) ≡ eqb a b
    go (yes e) = eq-eqb (suc a) (suc b) (ap suc e) ∙ sym (eq-eqb a b e)
    go (no n) = ne_eqb (suc a) (suc b) (λ e. n (omega (arith, e))) ∙ sym (ne_eqb a b n)

and_true : (b : Bool) → b ≡ (b && true)
and_true true = refl
and_true false = refl

and_false : (b : Bool) → false ≡ (b && false)
and_false true = refl
and_false false = refl

-- a record says whether its thread can be joined
record_joinable : (n : ℕ) (th : MachineThread) → matching (record_of th) (suc n) ≡ joinable n th
unfolding matching if_finished
record_joinable n th = go th.joined th.control
  where
    go : (j : Bool) (d : Control) → if_finished (status_of j d) (eqb (suc th.tid) (suc n)) ≡ (not j && (eqb th.tid n && is_done d))
    go true d = refl
    go false (done v) = eqb_suc th.tid n ∙ and_true (eqb th.tid n)
    go false (at σ w K) = and_false (eqb th.tid n)

pub record Alike (rs : List Record) (ts : List MachineThread) : Type 0 where
  pub same : (m : ℕ) (th : MachineThread) → slice_get ts m ≡ Some th → get_or rs m no_record ≡ record_of th
  pub behind : (m : ℕ) → length ts ≤ m → m < length rs → (get_or rs m no_record).state ≡ Running
  pub fits : length ts ≤ length rs

-- the place that the machine finds, in records of which the first has the place i
abbrev from_place : (i : ℕ) → Option ℕ → Option ℕ
from_place i o = option_map (λ (j : ℕ). i + j) o

shifted : (i : ℕ) (o : Option ℕ) → from_place (i + 1) o ≡ from_place i (option_map suc o)
shifted i None = refl
shifted i (Some j) = ap Some (let e : i + 1 + j ≡ i + suc j = omega arith in e)

lowest_from : (n : ℕ) (rs : List Record) (ts : List MachineThread) (i : ℕ) → Alike rs ts → position_from (λ r. matching r (suc n)) i rs ≡ from_place i (lowest n ts)
unfolding lowest matching if_finished
lowest_from n [] [] i A = refl
lowest_from n [] (th ∷ ts) i A = let l = A.fits in absurd (omega arith)
lowest_from n (r ∷ rs) [] i A =
    ap (λ (st : Status). cond (if_finished st (eqb r.tid (suc n))) (Some i) (position_from (λ r. matching r (suc n)) (i + 1) rs)) (A.behind 0 (omega arith) (omega arith))
    ∙ lowest_from n rs [] (i + 1) (record { same = λ m th h. none_is_not_some h; behind = λ m l h. A.behind (suc m) (omega arith) (omega (arith, h)); fits = omega arith })
lowest_from n (r ∷ rs) (th ∷ ts) i A =
    ap (λ (b : Bool). cond b (Some i) (position_from (λ r. matching r (suc n)) (i + 1) rs)) (ap (λ (x : Record). matching x (suc n)) (A.same 0 th refl) ∙ record_joinable n th)
    ∙ by_test (joinable n th) (lowest_from n rs ts (i + 1) (record {
      same = λ m u h. A.same (suc m) u h;
      behind = λ m l h. A.behind (suc m) (omega (arith, l)) (omega (arith, h));
      fits = let l = A.fits in omega arith;
    }))
  where
    after : Option ℕ
    after = position_from (λ r. matching r (suc n)) (i + 1) rs

    by_test : (b : Bool) → after ≡ from_place (i + 1) (lowest n ts) → cond b (Some i) after ≡ from_place i (first_or b (lowest n ts))
    by_test true e = ap Some (let z : i ≡ i + 0 = omega arith in z)
    by_test false e = e ∙ shifted i (lowest n ts)

all_places : (o : Option ℕ) → from_place 0 o ≡ o
all_places None = refl
all_places (Some j) = ap Some (let z : 0 + j ≡ j = omega arith in z)

pub lowest_alike : (n : ℕ) (rs : List Record) (ts : List MachineThread) → Alike rs ts → lowest_of rs (suc n) ≡ lowest n ts
unfolding lowest_of
lowest_alike n rs ts A = position_from-zero (λ r. matching r (suc n)) rs ∙ lowest_from n rs ts 0 A ∙ all_places (lowest n ts)

-- ------------------------------------------------------------------ a thread is joined

module _ {T : Threads} {ts : List MachineThread} (sized : Sized T ts) (j : ℕ) (u : MachineThread) (there : slice_get ts j ≡ Some u) (told : get_or T.records j no_record ≡ record_of u) where
  j_low : j < 16
  j_low = let l = place_below ts j u there in let f = sized.fits in omega arith

  joined_here : get_or (joined T j).records j no_record ≡ record_of (as_joined u)
  unfolding joined turned
  joined_here = rw (lt-ltb j 16 j_low) (get_or-set_same T.records j _ no_record (let l = sized.records in omega (arith, l, j_low)) ∙ ap (λ (r : Record). record { state = Joined; tid = r.tid }) told)

  joined_there : (i : ℕ) → i ≢ j → get_or (joined T j).records i no_record ≡ get_or T.records i no_record
  unfolding joined turned
  joined_there i n = rw (lt-ltb j 16 j_low) (get_or-set_other T.records j i _ no_record n)

  joined_sized : Sized (joined T j) (set ts j (as_joined u))
  unfolding joined turned
  joined_sized =
      let e = length-set ts j (as_joined u) in
      let f = sized.fits in
      record {
        count = rw (lt-ltb j 16 j_low) (sized.count ∙ sym e);
        fits = omega arith;
        records = rw (lt-ltb j 16 j_low) (length-set T.records j (record { state = Joined; tid = (get_or T.records j no_record).tid }) ∙ sized.records);
        behind = λ i l h.
            let b = place_below ts j u there in
            ap (λ (r : Record). r.state) (joined_there i (λ q. omega (arith, q, l, e, b))) ∙ sized.behind i (omega (arith, l, e)) h;
      }

-- ------------------------------------------------------------------ the machine's word

records_alike : {p s : List ℕ} {T : Threads} {R : Replay} → Holds p s T R → Alike T.records R.machine.threads
records_alike H = record {
  same = λ m th h. (H.threads m th h).recorded;
  behind = λ m l h. H.sized.behind m l (let e = H.sized.records in omega (arith, h, e));
  fits = let e = H.sized.records in let f = H.sized.fits in omega arith;
}

module _ {p s : List ℕ} {T : Threads} {R : Replay} {t row tid : ℕ} {σ : Env} {q : Position} {n : ℕ} {K : List Frame} (A : AtWord p s T R t row tid σ (unary_word q join (name n)) K) where
  abbrev M : Machine
  M = R.machine

  abbrev word : ControlPoint
  word = ready_at row q.index (suc n)

  abbrev Joins : Option ℕ → Option Machine
  Joins o = o >>= λ j. slice_get M.threads j >>= λ u. Some (mark_joined j u (gives M t tid σ K M.names zero_value))

  module _ (j : ℕ) (L : JoinableAt n M.threads j) where
    abbrev u : MachineThread
    u = L.thread

    held : ThreadHeld p s T j u
    held = A.holds.threads j u L.there

    apart : t ≢ j
    apart = joiner_is_another n M.threads t j (running tid (at σ (unary_word q join (name n)) K)) A.there refl L

    abbrev Marked : Replay
    Marked = record { machine = mark_joined j u M; things = R.things }

    -- what the numbers hold of a thread once thread j is joined
    held_after : (i : ℕ) (th : MachineThread) → slice_get (set M.threads j (as_joined u)) i ≡ Some th → Dec (i ≡ j) → ThreadHeld p s (joined T j) i th
    held_after i th h (yes e) =
        let is = set_here M.threads j (as_joined u) th (ap (slice_get (set M.threads j (as_joined u))) (sym e) ∙ h) in
        subst (λ (k : ℕ). ThreadHeld p s (joined T j) k th) (sym e)
        (subst (ThreadHeld p s (joined T j) j) is (record {
          recorded = joined_here A.holds.sized j u L.there held.recorded;
          control = held.control;
          plain = held.plain;
          settled = λ z. ap is_done L.can.finished;
          calls = held.calls;
        }))
    held_after i th h (no f) =
        let other = A.holds.threads i th (sym (set_elsewhere M.threads j i (as_joined u) (λ e. f (sym e))) ∙ h) in
        record { recorded = joined_there A.holds.sized j u L.there held.recorded i f ∙ other.recorded; control = other.control; plain = other.plain; settled = other.settled; calls = other.calls }

    paused : Paused p s (joined T j) Marked t tid
    paused = record {
      long = A.holds.long;
      bodies = A.holds.bodies;
      names = A.holds.names;
      sized = joined_sized A.holds.sized j u L.there held.recorded;
      there = let a = place_below M.threads t (running tid (at σ (unary_word q join (name n)) K)) A.there in let b = length-set M.threads j (as_joined u) in omega arith;
      was = joined_there A.holds.sized j u L.there held.recorded t apart ∙ (A.holds.threads t (running tid (at σ (unary_word q join (name n)) K)) A.there).recorded;
      others = λ i th m h. held_after i th h (ℕ_discrete i j);
    }

    joins_one : Answered p (check_limits within (Some (record { machine = mark_joined j u (gives M t tid σ K M.names zero_value); things = R.things }))) (gives_zero p t word (joined T j, s))
    unfolding gives_zero given after_act act_step
    joins_one =
        subst (λ (ts : List MachineThread). Answered p (check_limits within (Some (with_threads R ts))) (gives_zero p t word (joined T j, s)))
        (sym (sets_swap M.threads t j (running tid (return σ zero_value K)) (as_joined u) apart))
        (moves paused word (returning row (continuation p q.index) 0) (return σ zero_value K) (returns_word (ready A q.index (omega arith)) zero_value))

  stuck : Answered p (check_limits within None) (halted Stuck T, s)
  unfolding check_limits
  stuck = (T, refl)

  pub joining_goes : Answered p (check_limits within (Joins (lowest n M.threads) >>= λ N. Some (record { machine = N; things = R.things }))) (joined_step p s T t word (suc n))
  unfolding joined_step joined_by
  joining_goes = by_found (lowest n M.threads) refl
    where
      by_found : (o : Option ℕ) → lowest n M.threads ≡ o → Answered p (check_limits within (Joins o >>= λ N. Some (record { machine = N; things = R.things }))) (joined_step p s T t word (suc n))
      by_found None e = rw (lowest_alike n T.records M.threads (records_alike A.holds), e) stuck
      by_found (Some j) e =
          let L = lowest_found n M.threads j e in
          rw (lowest_alike n T.records M.threads (records_alike A.holds), e, L.there) (joins_one j L)
