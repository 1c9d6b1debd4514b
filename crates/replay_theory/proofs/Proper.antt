-- What every run on the way keeps: a number and a list of calls for each thread, the numbers rising; and no name used from the next on. So a
-- run's books are right.
use Rattle.std.proofs.Common.{Some, slice_get}
use Prim.Native.Nat.{ℕ, zero, suc, ◌≤◌}
use mathlib.Core.Path.{◌≡◌, refl, sym, ◌∙◌, ap, subst}
use mathlib.Core.List.{List, [], ◌∷◌, ◌++◌}
use native.Mathlib.Omega.{arith}
use lib.ListN.{set, length}
use Rattle.calculus.specs.Expression.{Redex, next_word, Program}
use Rattle.calculus.specs.State.{unused, identifier, Thread, State, Part, Move, remove}
use Rattle.calculus.specs.Reduction.{word_of, reduct, reduce, start_state}
use Rattle.calculus.proofs.Laws.Maps.{some_injective, bind_is_some, bind_goes_on, update_other}
use Rattle.replay_theory.specs.Trace.{TraceLine}
use Rattle.replay_theory.specs.Paths.{Path, next_path}
use Rattle.replay_theory.specs.Run.{ObjectKind, cells, locks, rwlocks, semaphores, identifiers, Run, start_run, place_of, part_chosen, next_name, move_of, record_call, open_calls, Effect, makes, effect, entries_after, calls_after, one_more_if, things_after, after, stepped}
use Rattle.replay_theory.proofs.Lists.{length_set, length_append, length_remove}
use Rattle.replay_theory.proofs.Changes.{moved_to, Changed, goes, called, made, spawned, joined, reduct_changes}

-- ---- A step, taken apart

pub record Stepped (r : Run) (l : TraceLine) (r' : Run) : Type 0 where
  pub place : ℕ
  pub there : place_of l.thread r.numbers ≡ Some place
  pub thread : Thread
  pub thread_there : slice_get r.state.threads place ≡ Some thread
  pub word : Redex
  pub is_next : word_of (next_word thread.body) ≡ Some word
  pub part : Part
  pub chosen : part_chosen word l.choice ≡ Some part
  pub state : State
  pub reduces : reduce r.procedures r.state (move_of r place word part) ≡ Some state
  pub is_after : after r (move_of r place word part) (next_path thread.body) (effect word) state ≡ r'

pub step_taken : (r r' : Run) (l : TraceLine) → stepped r l ≡ Some r' → Stepped r l r'
unfolding stepped
step_taken r r' l q =
    let (p, there, q₁) = bind_is_some (place_of l.thread r.numbers) q in
    let (t, thread_there, q₂) = bind_is_some (slice_get r.state.threads p) q₁ in
    let (w, next, q₃) = bind_is_some (word_of (next_word t.body)) q₂ in
    let (c, chosen, q₄) = bind_is_some (part_chosen w l.choice) q₃ in
    let (s, reduces, q₅) = bind_is_some (reduce r.procedures r.state (move_of r p w c)) q₄ in
    record {
      place = p;
      there = there;
      thread = t;
      thread_there = thread_there;
      word = w;
      is_next = next;
      part = c;
      chosen = chosen;
      state = s;
      reduces = reduces;
      is_after = some_injective {a = after r (move_of r p w c) (next_path t.body) (effect w) s} q₅;
    }

pub state_after : {r r' : Run} {l : TraceLine} (S : Stepped r l r') → S.state ≡ r'.state
unfolding after
state_after S = ap (λ (z : Run). z.state) S.is_after

-- A run keeps its procedures.
pub procedures_after : {r r' : Run} {l : TraceLine} (S : Stepped r l r') → r'.procedures ≡ r.procedures
unfolding after
procedures_after S = sym (ap (λ (z : Run). z.procedures) S.is_after)

-- The word that is next reduces.
pub step_reduces : {r r' : Run} {l : TraceLine} (S : Stepped r l r') →
    reduct r.procedures r.state (move_of r S.place S.word S.part) S.thread S.word ≡ Some S.state
unfolding reduce move_of
step_reduces {r} S = bind_goes_on (word_of (next_word S.thread.body)) _ S.is_next
    (bind_goes_on (slice_get r.state.threads S.place) _ S.thread_there S.reduces)

pub step_changes : {r r' : Run} {l : TraceLine} (S : Stepped r l r') →
    Changed r.state (move_of r S.place S.word S.part) S.thread (effect S.word) S.state
step_changes {r} S = reduct_changes r.procedures r.state _ S.thread S.word S.state (step_reduces S)

-- ---- Numbers that rise

-- The numbers rise, from `low` on and below `high`.
abbrev pub Rising : (low : ℕ) → List ℕ → (high : ℕ) → Type 0
Rising low [] high = low ≤ high
Rising low (n ∷ ns) high = (low ≤ n) × Rising (suc n) ns high

rising_from : (low low' high : ℕ) (ns : List ℕ) → low' ≤ low → Rising low ns high → Rising low' ns high
rising_from low low' high [] h r = omega (arith, h, r)
rising_from low low' high (n ∷ ns) h r = let first = r.0 in (omega (arith, h, first), r.1)

pub rising_append : (low high : ℕ) (ns : List ℕ) → Rising low ns high → Rising low (ns ++ (high ∷ [])) (suc high)
rising_append low high [] r = (r, omega arith)
rising_append low high (n ∷ ns) r = (r.0, rising_append (suc n) high ns r.1)

pub rising_remove : (low high : ℕ) (ns : List ℕ) (i : ℕ) → Rising low ns high → Rising low (remove ns i) high
rising_remove low high [] i r = r
rising_remove low high (n ∷ ns) zero r = let first = r.0 in rising_from (suc n) low high ns (omega (arith, first)) r.1
rising_remove low high (n ∷ ns) (suc i) r = (r.0, rising_remove (suc n) high ns i r.1)

-- ---- Names in turn

pub name_more : (k : ObjectKind) (things : ObjectKind → ℕ) → next_name (things_after (makes k) things) ≡ suc (next_name things)
unfolding next_name one_more_if things_after
name_more cells things = omega arith
name_more locks things = omega arith
name_more rwlocks things = omega arith
name_more semaphores things = omega arith
name_more identifiers things = omega arith

-- ---- Proper runs

pub record Proper (r : Run) : Type 0 where
  pub unused_from_lem : (n : ℕ) → next_name r.things ≤ n → r.state.names n ≡ unused
  pub counted : length r.numbers ≡ length r.state.threads
  pub all_called : length r.calls ≡ length r.state.threads
  pub rising : Rising 0 r.numbers r.threads

pub start_is_proper : (p : Program) → Proper (start_run p)
unfolding start_run start_state next_name
start_is_proper p = record {
  unused_from_lem = λ n h. update_other (λ k. unused) 0 n identifier (λ q. omega (arith, h, q));
  counted = refl;
  all_called = refl;
  rising = (omega arith, omega arith);
}

-- ---- Lists of calls, one for each thread

open_counted : (ts : List Thread) (calls : List (List Path)) → length calls ≡ length ts → length (open_calls ts calls) ≡ length ts
unfolding open_calls
open_counted [] calls h = refl
open_counted (t ∷ ts) [] h = absurd (omega (arith, h))
open_counted (t ∷ ts) (ps ∷ calls) h = ap suc (open_counted ts calls (omega (arith, h)))

taken_counted : (p : ℕ) (q : Path) (calls : List (List Path)) → length (record_call p q calls) ≡ length calls
unfolding record_call
taken_counted p q [] = refl
taken_counted zero q (ps ∷ calls) = refl
taken_counted (suc p) q (ps ∷ calls) = ap suc (taken_counted p q calls)

module _ (r : Run) (proper : Proper r) (m : Move) (q : Path) (fresh : m.fresh ≡ next_name r.things) (u : Thread) where
  set_counted : (t : Thread) → length r.numbers ≡ length (set r.state.threads m.thread t)
  set_counted t = proper.counted ∙ sym (length_set r.state.threads m.thread t)

  set_called : (t : Thread) → length r.calls ≡ length (set r.state.threads m.thread t)
  set_called t = proper.all_called ∙ sym (length_set r.state.threads m.thread t)

  change_keeps_proper : {e : Effect} {s : State} → Changed r.state m u e s → Proper (after r m q e s)
  unfolding after entries_after calls_after one_more_if things_after
  change_keeps_proper (goes names b stays) = let t = moved_to u b in record {
    unused_from_lem = λ n h. stays n (proper.unused_from_lem n h);
    counted = set_counted t;
    all_called = open_counted (set r.state.threads m.thread t) r.calls (set_called t);
    rising = proper.rising;
  }
  change_keeps_proper (called b) = let t = moved_to u b in record {
    unused_from_lem = proper.unused_from_lem;
    counted = set_counted t;
    all_called = open_counted (set r.state.threads m.thread t) (record_call m.thread q r.calls) (taken_counted m.thread q r.calls ∙ set_called t);
    rising = proper.rising;
  }
  change_keeps_proper (made k new b) = let t = moved_to u b in record {
    unused_from_lem = λ n h.
        let more = name_more k r.things in
        update_other r.state.names m.fresh n new (λ q. omega (arith, h, q, fresh, more)) ∙ proper.unused_from_lem n (omega (arith, h, more));
    counted = set_counted t;
    all_called = open_counted (set r.state.threads m.thread t) r.calls (set_called t);
    rising = proper.rising;
  }
  change_keeps_proper (spawned b v) = let t = moved_to u b in record {
    unused_from_lem = proper.unused_from_lem;
    counted = length_append r.numbers r.threads ∙ ap suc (set_counted t) ∙ sym (length_append (set r.state.threads m.thread t) v);
    all_called = open_counted (set r.state.threads m.thread t ++ (v ∷ [])) (r.calls ++ ([] ∷ []))
        (length_append r.calls [] ∙ ap suc (set_called t) ∙ sym (length_append (set r.state.threads m.thread t) v));
    rising = rising_append 0 r.threads r.numbers proper.rising;
  }
  change_keeps_proper (joined b v there) = let t = moved_to u b in record {
    unused_from_lem = proper.unused_from_lem;
    counted = length_remove r.numbers (set r.state.threads m.thread t) m.finished (set_counted t);
    all_called = open_counted (remove (set r.state.threads m.thread t) m.finished) (remove r.calls m.finished)
        (length_remove r.calls (set r.state.threads m.thread t) m.finished (set_called t));
    rising = rising_remove 0 r.threads r.numbers m.finished proper.rising;
  }

pub step_keeps_proper : (r r' : Run) (l : TraceLine) → Proper r → stepped r l ≡ Some r' → Proper r'
unfolding move_of
step_keeps_proper r r' l proper q =
    let S = step_taken r r' l q in
    subst Proper S.is_after (change_keeps_proper r proper (move_of r S.place S.word S.part) (next_path S.thread.body) refl S.thread (step_changes S))
