-- What a step does to the open calls of all threads: those of the thread that moves change, the others stay as they are.
use Rattle.std.proofs.Common.{Some, slice_get}
use Prim.Native.Nat.{ℕ, zero, suc}
use mathlib.Core.Path.{◌≡◌, refl, sym, ◌∙◌, ap}
use mathlib.Core.Bool.{Bool, true, false}
use mathlib.Core.List.{List, [], ◌∷◌, ◌++◌}
use native.Mathlib.Omega.{arith}
use lib.ListN.{set, length}
use Rattle.calculus.specs.State.{Thread, remove}
use Rattle.calculus.proofs.Laws.Maps.{some_injective, none_is_not_some}
use Rattle.replay_theory.specs.Paths.{Path}
use Rattle.replay_theory.specs.Run.{record_call, still_open, open_calls}
use Rattle.replay_theory.proofs.Lists.{length_set}
use Rattle.replay_machine.specs.Control.{Control}
use Rattle.replay_machine.specs.State.{MachineThread, unless, of_live, decode_thread, live, rank, running}
use Rattle.replay_machine.proofs.Places.{LiveAt, live_at, live_set, live_append}
use Rattle.replay_machine.proofs.Marks.{call_paths, Tells, control_tells}
use Rattle.replay_machine.proofs.Books.{calls_from, set_to_same}

-- ---- Lists of threads and of their calls

open_set : (ts : List Thread) (calls : List (List Path)) (p : ℕ) (t : Thread) (ps : List Path) →
    open_calls (set ts p t) (set calls p ps) ≡ set (open_calls ts calls) p (still_open t.body ps)
unfolding open_calls
open_set [] calls p t ps = refl
open_set (u ∷ ts) [] zero t ps = refl
open_set (u ∷ ts) [] (suc p) t ps = refl
open_set (u ∷ ts) (qs ∷ calls) zero t ps = refl
open_set (u ∷ ts) (qs ∷ calls) (suc p) t ps = ap (λ (l : List (List Path)). still_open u.body qs ∷ l) (open_set ts calls p t ps)

open_append : (ts : List Thread) (calls : List (List Path)) (t : Thread) (ps : List Path) → length ts ≡ length calls →
    open_calls (ts ++ (t ∷ [])) (calls ++ (ps ∷ [])) ≡ open_calls ts calls ++ (still_open t.body ps ∷ [])
unfolding open_calls
open_append [] [] t ps h = refl
open_append [] (qs ∷ calls) t ps h = absurd (omega (arith, h))
open_append (u ∷ ts) [] t ps h = absurd (omega (arith, h))
open_append (u ∷ ts) (qs ∷ calls) t ps h = ap (λ (l : List (List Path)). still_open u.body qs ∷ l) (open_append ts calls t ps (omega (arith, h)))

open_of_none : (ts : List Thread) → open_calls ts [] ≡ []
unfolding open_calls
open_of_none [] = refl
open_of_none (t ∷ ts) = refl

pub open_remove : (ts : List Thread) (calls : List (List Path)) (p : ℕ) → open_calls (remove ts p) (remove calls p) ≡ remove (open_calls ts calls) p
unfolding open_calls
open_remove [] calls p = refl
open_remove (u ∷ ts) [] p = open_of_none (remove (u ∷ ts) p)
open_remove (u ∷ ts) (qs ∷ calls) zero = refl
open_remove (u ∷ ts) (qs ∷ calls) (suc p) = ap (λ (l : List (List Path)). still_open u.body qs ∷ l) (open_remove ts calls p)

taken_is_set : (calls : List (List Path)) (p : ℕ) (q : Path) (ps : List Path) → slice_get calls p ≡ Some ps → record_call p q calls ≡ set calls p (q ∷ ps)
unfolding record_call
taken_is_set [] p q ps h = none_is_not_some h
taken_is_set (c ∷ calls) zero q ps h = ap (λ (l : List Path). (q ∷ l) ∷ calls) (some_injective h)
taken_is_set (c ∷ calls) (suc p) q ps h = ap (λ (l : List (List Path)). c ∷ l) (taken_is_set calls p q ps h)

-- ---- Threads of the machine

-- The calls of every thread are open.
pub all_open : (ts : List MachineThread) (k : ℕ) → open_calls (of_live (λ i t. decode_thread t) k ts) (calls_from k ts) ≡ calls_from k ts
unfolding open_calls
all_open [] k = refl
all_open (t ∷ ts) k = by_cases t.joined (all_open ts (suc k))
  where
    by_cases : (b : Bool) → open_calls (of_live (λ i u. decode_thread u) (suc k) ts) (calls_from (suc k) ts) ≡ calls_from (suc k) ts →
        open_calls (unless b (λ l. decode_thread t ∷ l) (of_live (λ i u. decode_thread u) (suc k) ts)) (unless b (λ l. call_paths t.control ∷ l) (calls_from (suc k) ts))
        ≡ unless b (λ l. call_paths t.control ∷ l) (calls_from (suc k) ts)
    by_cases true q = q
    by_cases false q = λ i. control_tells t.control i ∷ q i

same_length : {A B : Type 0} (f : ℕ → MachineThread → A) (g : ℕ → MachineThread → B) (ts : List MachineThread) (k : ℕ) →
    length (of_live f k ts) ≡ length (of_live g k ts)
same_length f g [] k = refl
same_length {A} {B} f g (t ∷ ts) k = by_cases t.joined (same_length f g ts (suc k))
  where
    by_cases : (b : Bool) → length (of_live f (suc k) ts) ≡ length (of_live g (suc k) ts) →
        length (unless b (λ l. f k t ∷ l) (of_live f (suc k) ts)) ≡ length (unless b (λ l. g k t ∷ l) (of_live g (suc k) ts))
    by_cases true q = q
    by_cases false q = ap suc q

module _ (ts : List MachineThread) (i tid : ℕ) (t : MachineThread) (h : LiveAt ts i t) (b : Control) where
  abbrev now : List MachineThread
  now = set ts i (running tid b)

  calls_set : (ps : List Path) → Tells b ps → open_calls (live now) (set (calls_from 0 ts) (rank ts i) ps) ≡ calls_from 0 now
  calls_set ps tells =
      ap (λ (l : List Thread). open_calls l (set (calls_from 0 ts) (rank ts i) ps)) (live_set (λ n u. decode_thread u) ts 0 i t (running tid b) h refl)
      ∙ open_set (live ts) (calls_from 0 ts) (rank ts i) (decode_thread (running tid b)) ps
      ∙ (λ z. set (all_open ts 0 z) (rank ts i) (tells z))
      ∙ sym (live_set (λ n u. call_paths u.control) ts 0 i t (running tid b) h refl)

  -- The thread goes on.
  pub calls_go_on : Tells b (call_paths t.control) → open_calls (live now) (calls_from 0 ts) ≡ calls_from 0 now
  calls_go_on tells =
      ap (open_calls (live now)) (sym (set_to_same (calls_from 0 ts) (rank ts i) (call_paths t.control) (live_at (λ n u. call_paths u.control) ts 0 i t h)))
      ∙ calls_set (call_paths t.control) tells

  -- It takes a call.
  pub calls_taken : (q : Path) → Tells b (q ∷ call_paths t.control) → open_calls (live now) (record_call (rank ts i) q (calls_from 0 ts)) ≡ calls_from 0 now
  calls_taken q tells =
      ap (open_calls (live now)) (taken_is_set (calls_from 0 ts) (rank ts i) q (call_paths t.control) (live_at (λ n u. call_paths u.control) ts 0 i t h))
      ∙ calls_set (q ∷ call_paths t.control) tells

  -- It spawns a thread.
  pub calls_spawned : (n : ℕ) (b' : Control) → Tells b (call_paths t.control) → Tells b' [] →
      open_calls (live (now ++ (running n b' ∷ []))) (calls_from 0 ts ++ ([] ∷ [])) ≡ calls_from 0 (now ++ (running n b' ∷ []))
  calls_spawned n b' tells tells' =
      ap (λ (l : List Thread). open_calls l (calls_from 0 ts ++ ([] ∷ []))) (live_append (λ n u. decode_thread u) now 0 (running n b') refl)
      ∙ open_append (live now) (calls_from 0 ts) (decode_thread (running n b')) [] counted
      ∙ (λ z. calls_go_on tells z ++ (tells' z ∷ []))
      ∙ sym (live_append (λ n u. call_paths u.control) now 0 (running n b') refl)
    where
      counted : length (live now) ≡ length (calls_from 0 ts)
      counted = ap length (live_set (λ n u. decode_thread u) ts 0 i t (running tid b) h refl) ∙ length_set (live ts) (rank ts i) (decode_thread (running tid b))
          ∙ same_length (λ n u. decode_thread u) (λ n u. call_paths u.control) ts 0
