-- The run that a replay on the machine stands for, and why a line does the same to both.
use Rattle.std.proofs.Common.{Option, None, Some, option_map, slice_get}
use Prim.Native.Nat.{ℕ, zero, suc, ◌+◌, ◌<◌}
use mathlib.Core.Path.{◌≡◌, refl, sym, ◌∙◌, ap}
use mathlib.Core.Logic.{◌≢◌}
use mathlib.Core.Bool.{Bool, true, false, not, ◌&&◌}
use mathlib.Core.List.{List, [], ◌∷◌}
use native.Mathlib.Omega.{arith}
use lib.Dec.{eqb}
use lib.ListN.{set, length}
use borrow.Author.Tests.{eq-eqb, ne_eqb}
use Rattle.spec.specs.Choice.{when◌then◌else◌}
use Rattle.spec.proofs.Clashes.{true_is_not_false}
use Rattle.calculus.specs.Expression.{Redex, next_word}
use Rattle.calculus.specs.State.{Slot, Thread}
use Rattle.calculus.specs.Reduction.{word_of}
use Rattle.calculus.proofs.Laws.Maps.{some_injective, none_is_not_some}
use Rattle.replay_theory.specs.Paths.{Path}
use Rattle.replay_theory.specs.Run.{Run, place_of, has_finished, lowest_finished}
use Rattle.replay_theory.specs.LowestPair.{Uses, uses_of, uses_in}
use Rattle.replay_machine.specs.Control.{Control, done, at, decode, next_redex}
use Rattle.replay_machine.specs.State.{MachineThread, unless, of_live, decode_thread, rank, decode_state, decode_procedures}
use Rattle.replay_machine.specs.Step.{is_done, first_or, lowest}
use Rattle.replay_machine.specs.Replay.{Replay}
use Rattle.replay_machine.proofs.Decoding.{next_decoded, word_of_decoded}
use Rattle.replay_machine.proofs.Marks.{call_paths}
use Rattle.replay_machine.proofs.Places.{LiveAt, live_at, live_set}

-- The numbers of the threads that are not joined.
abbrev pub numbers_from : (i : ℕ) → List MachineThread → List ℕ
numbers_from i ts = of_live (λ n t. n) i ts

-- Their open calls.
abbrev pub calls_from : (i : ℕ) → List MachineThread → List (List Path)
calls_from i ts = of_live (λ n t. call_paths t.control) i ts

abbrev pub run_of : Replay → Run
run_of R = record {
  procedures = decode_procedures R.machine;
  state = decode_state R.machine;
  numbers = numbers_from 0 R.machine.threads;
  calls = calls_from 0 R.machine.threads;
  threads = length R.machine.threads;
  things = R.things;
}

-- ---- The place of a thread

other_number : (i j : ℕ) (ns : List ℕ) → i ≢ j → place_of i (j ∷ ns) ≡ option_map suc (place_of i ns)
unfolding place_of
other_number i j ns d = ap (λ (b : Bool). when b then Some 0 else option_map suc (place_of i ns)) (ne_eqb i j d)

same_number : (i j : ℕ) (ns : List ℕ) → i ≡ j → place_of i (j ∷ ns) ≡ Some 0
unfolding place_of
same_number i j ns e = ap (λ (b : Bool). when b then Some 0 else option_map suc (place_of i ns)) (eq-eqb i j e)

pub place_of_live : (ts : List MachineThread) (k i : ℕ) (t : MachineThread) → LiveAt ts i t → place_of (k + i) (numbers_from k ts) ≡ Some (rank ts i)
place_of_live [] k i t h = none_is_not_some h.there
place_of_live (u ∷ ts) k zero t h = by_cases u.joined (ap (λ (x : MachineThread). x.joined) (some_injective h.there) ∙ h.not_joined)
  where
    by_cases : (b : Bool) → b ≡ false → place_of (k + 0) (unless b (λ l. k ∷ l) (numbers_from (suc k) ts)) ≡ Some 0
    by_cases true q = true_is_not_false q
    by_cases false q = same_number (k + 0) k (numbers_from (suc k) ts) (omega arith)
place_of_live (u ∷ ts) k (suc i) t h =
    by_cases u.joined (ap (λ (n : ℕ). place_of n (numbers_from (suc k) ts)) (omega arith)
    ∙ place_of_live ts (suc k) i t (record { there = h.there; not_joined = h.not_joined }))
  where
    by_cases : (b : Bool) → place_of (k + suc i) (numbers_from (suc k) ts) ≡ Some (rank ts i) →
        place_of (k + suc i) (unless b (λ l. k ∷ l) (numbers_from (suc k) ts)) ≡ Some (unless b suc (rank ts i))
    by_cases true q = q
    by_cases false q = other_number (k + suc i) k (numbers_from (suc k) ts) (λ e. omega (arith, e)) ∙ ap (option_map suc) q

no_place_below : (ts : List MachineThread) (k i : ℕ) → i < k → place_of i (numbers_from k ts) ≡ None
unfolding place_of
no_place_below [] k i h = refl
no_place_below (u ∷ ts) k i h = by_cases u.joined (no_place_below ts (suc k) i (omega (arith, h)))
  where
    by_cases : (b : Bool) → place_of i (numbers_from (suc k) ts) ≡ None → place_of i (unless b (λ l. k ∷ l) (numbers_from (suc k) ts)) ≡ None
    by_cases true q = q
    by_cases false q = other_number i k (numbers_from (suc k) ts) (λ e. omega (arith, e, h)) ∙ ap (option_map suc) q

-- A thread that is not there, or is joined, has no place.
pub no_place : (ts : List MachineThread) (k i : ℕ) → ((t : MachineThread) → slice_get ts i ≡ Some t → t.joined ≡ true) →
    place_of (k + i) (numbers_from k ts) ≡ None
unfolding place_of
no_place [] k i h = refl
no_place (u ∷ ts) k zero h = by_cases u.joined (h u refl)
  where
    by_cases : (b : Bool) → b ≡ true → place_of (k + 0) (unless b (λ l. k ∷ l) (numbers_from (suc k) ts)) ≡ None
    by_cases true q = no_place_below ts (suc k) (k + 0) (omega arith)
    by_cases false q = true_is_not_false (sym q)
no_place (u ∷ ts) k (suc i) h =
    by_cases u.joined (ap (λ (n : ℕ). place_of n (numbers_from (suc k) ts)) (omega arith) ∙ no_place ts (suc k) i h)
  where
    by_cases : (b : Bool) → place_of (k + suc i) (numbers_from (suc k) ts) ≡ None →
        place_of (k + suc i) (unless b (λ l. k ∷ l) (numbers_from (suc k) ts)) ≡ None
    by_cases true q = q
    by_cases false q = other_number (k + suc i) k (numbers_from (suc k) ts) (λ e. omega (arith, e)) ∙ ap (option_map suc) q

-- ---- The lowest finished thread

pub finished_decoded : (b : Control) → has_finished (next_word (decode b)) ≡ is_done b
unfolding has_finished
finished_decoded (done v) = refl
finished_decoded (at σ w K) = ap has_finished (next_decoded σ w K)

-- It stands at the first place of a finished thread with that identifier.
pub lowest_is_first : (ts : List MachineThread) (k n j : ℕ) → lowest n ts ≡ Some j → lowest_finished n (of_live (λ i t. decode_thread t) k ts) ≡ rank ts j
unfolding lowest lowest_finished
lowest_is_first [] k n j h = none_is_not_some h
lowest_is_first (t ∷ ts) k n j h =
    by_cases t.joined (eqb t.tid n && is_done t.control) refl
    (ap (λ (f : Bool). eqb t.tid n && f) (finished_decoded t.control)) h (lowest_is_first ts (suc k) n)
  where
    rest : List Thread
    rest = of_live (λ i u. decode_thread u) (suc k) ts

    -- What the calculus asks of t.
    asked : Bool
    asked = eqb t.tid n && has_finished (next_word (decode t.control))

    Later : Type 0
    Later = (m : ℕ) → lowest n ts ≡ Some m → lowest_finished n rest ≡ rank ts m

    past : (b : Bool) (o : Option ℕ) → lowest n ts ≡ o → t.joined ≡ b → Later → option_map suc o ≡ Some j →
        unless b suc (lowest_finished n rest) ≡ rank (t ∷ ts) j
    past b None e is later z = none_is_not_some z
    past b (Some m) e is later z =
        ap (unless b suc) (later m e) ∙ ap (λ (c : Bool). unless c suc (rank ts m)) (sym is) ∙ ap (rank (t ∷ ts)) (some_injective z)

    by_cases : (b c : Bool) → t.joined ≡ b → asked ≡ c → first_or (not b && c) (lowest n ts) ≡ Some j → Later →
        lowest_finished n (unless b (λ l. decode_thread t ∷ l) rest) ≡ rank (t ∷ ts) j
    by_cases true c is q z later = past true (lowest n ts) refl is later z
    by_cases false true is q z later =
        ap (λ (c : Bool). when c then 0 else suc (lowest_finished n rest)) q ∙ ap (rank (t ∷ ts)) (some_injective z)
    by_cases false false is q z later =
        ap (λ (c : Bool). when c then 0 else suc (lowest_finished n rest)) q ∙ past false (lowest n ts) refl is later z

-- ---- What threads use

pub uses_alike : (names : ℕ → Slot) (ts : List MachineThread) (k : ℕ) →
    uses_in names (numbers_from k ts) (of_live (λ i t. decode_thread t) k ts) ≡ of_live (λ i t. (i, uses_of names (next_redex t.control))) k ts
unfolding uses_in
uses_alike names [] k = refl
uses_alike names (t ∷ ts) k = by_cases t.joined (uses_alike names ts (suc k))
  where
    us : List (ℕ × Uses)
    us = of_live (λ i u. (i, uses_of names (next_redex u.control))) (suc k) ts

    by_cases : (b : Bool) → uses_in names (numbers_from (suc k) ts) (of_live (λ i u. decode_thread u) (suc k) ts) ≡ us →
        uses_in names (unless b (λ l. k ∷ l) (numbers_from (suc k) ts)) (unless b (λ l. decode_thread t ∷ l) (of_live (λ i u. decode_thread u) (suc k) ts))
        ≡ unless b (λ l. (k, uses_of names (next_redex t.control)) ∷ l) us
    by_cases true q = q
    by_cases false q =
        ap (λ (l : List (ℕ × Uses)). (k, uses_of names (word_of (next_word (decode t.control)))) ∷ l) q
        ∙ ap (λ (w : Option Redex). (k, uses_of names w) ∷ us) (word_of_decoded t.control)

-- ---- What a step does to the numbers

pub set_to_same : {A : Type 0} (xs : List A) (p : ℕ) (a : A) → slice_get xs p ≡ Some a → set xs p a ≡ xs
set_to_same [] p a h = refl
set_to_same (x ∷ xs) zero a h = ap (λ y. y ∷ xs) (sym (some_injective h))
set_to_same (x ∷ xs) (suc p) a h = ap (λ l. x ∷ l) (set_to_same xs p a h)

-- A thread that goes on keeps its number.
pub numbers_set : (ts : List MachineThread) (i : ℕ) (t t' : MachineThread) → LiveAt ts i t → t'.joined ≡ false →
    numbers_from 0 (set ts i t') ≡ numbers_from 0 ts
numbers_set ts i t t' h n =
    live_set (λ n t. n) ts 0 i t t' h n ∙ set_to_same (numbers_from 0 ts) (rank ts i) (0 + i) (live_at (λ n t. n) ts 0 i t h)
