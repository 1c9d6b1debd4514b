-- What a step on numbers has to answer for a step of the machine; and that a thread which goes on to a word answers it.
use Rattle.std.proofs.Common.{Some, Result, Ok, slice_get}
use Prim.Native.Nat.{ℕ, zero, suc, ◌+◌, ◌*◌, ◌<◌, ◌≤◌}
use mathlib.Core.Path.{◌≡◌, refl, sym, ◌∙◌, ap, subst}
use mathlib.Core.Bool.{Bool, true, false, ◌&&◌}
use mathlib.Core.List.{List, [], ◌∷◌}
use native.Mathlib.Omega.{arith}
use native.Mathlib.Decide.{dec_le}
use borrow.Author.Tests.{le-leb, lt-leb, lt-ltb, le-ltb}
use lib.Dec.{leb}
use lib.ListN.{length, get_or, set}
use Rattle.calculus.proofs.Laws.Maps.{none_is_not_some, some_injective}
use Rattle.threads.specs.declared.Threads.{Threads}
use Rattle.replay_control.specs.Layout.{control_point_rows_at}
use Rattle.replay_control.specs.declared.ControlPoint.{ControlPoint}
use Rattle.replay_control.specs.Control.{found}
use Rattle.replay_step.specs.declared.words.Act.TheVariants.{Go}
use Rattle.replay_step.specs.declared.words.Halt.TheVariants.{Stuck, Past}
use Rattle.replay_engine.specs.declared.Halted.{Halted}
use Rattle.replay_engine.specs.ControlPoints.{control_point_at, settled, went_on}
use Rattle.replay_engine.specs.Steps.{recorded, proceeded, halted, outcome_of, moved_to, act_step, after_act}
use Rattle.replay_theory.specs.Run.{ObjectKind, cells, locks, rwlocks, semaphores, identifiers, thread_limit, thing_limit, within_limits, call_limit}
use Rattle.replay_theory.specs.Replay.{Outcome, bad_form, no_step, past_limit, step, check_limits}
use Rattle.replay_machine.specs.Control.{Control, done, at, open_calls}
use Rattle.replay_machine.specs.State.{MachineThread, unless, of_live, running}
use Rattle.replay_machine.specs.Replay.{Replay, within, calls_in, counts_within}
use Rattle.replay_simulation.proofs.Held.{place_of, ControlAt}
use Rattle.replay_simulation.proofs.Finding.{frames_row, Finds}
use Rattle.replay_simulation.proofs.Agreeing.{control_point_here}
use Rattle.replay_simulation.proofs.Holds.{Holds}
use Rattle.replay_simulation.proofs.Proceeding.{Paused, low, gone_to, proceeds}

-- ------------------------------------------------------------------ what a step on numbers answers

-- a line's step on the machine, and what the code hands back for it
abbrev pub Answered : (p : List ℕ) → Outcome Replay → Result Threads Halted × List ℕ → Type 0
Answered p bad_form r = ⊥
Answered p no_step r = (T : Threads) × (r.0 ≡ halted Stuck T)
Answered p past_limit r = (T : Threads) × (r.0 ≡ halted Past T)
Answered p (step R) r = (T : Threads) × (r.0 ≡ Ok T) × Holds p r.1 T R

-- the limits are kept while they hold
pub within_limits_lem : (n : ℕ) (things : ObjectKind → ℕ) → n ≤ 16 → ((k : ObjectKind) → things k ≤ 64) → within_limits n things ≡ true
unfolding within_limits thread_limit thing_limit
within_limits_lem n things h few =
    rw (le-leb n 16 h, le-leb (things cells) 64 (few cells), le-leb (things locks) 64 (few locks), le-leb (things rwlocks) 64 (few rwlocks), le-leb (things semaphores) 64 (few semaphores), le-leb (things identifiers) 64 (few identifiers))

-- the open calls of each thread that is not joined
abbrev calls_from : (i : ℕ) → List MachineThread → List ℕ
calls_from i ts = of_live (λ j th. open_calls th.control) i ts

counts_hold : (ts : List MachineThread) (i : ℕ) → ((m : ℕ) (th : MachineThread) → slice_get ts m ≡ Some th → open_calls th.control ≤ 64) → counts_within (calls_from i ts) ≡ true
unfolding counts_within call_limit
counts_hold [] i h = refl
counts_hold (th ∷ ts) i h = by_record th.joined (counts_hold ts (suc i) (λ m u z. h (suc m) u z))
  where
    by_record : (j : Bool) → counts_within (calls_from (suc i) ts) ≡ true → counts_within (unless j (λ l. open_calls th.control ∷ l) (calls_from (suc i) ts)) ≡ true
    by_record true rest = rest
    by_record false rest = rw (le-leb (open_calls th.control) 64 (h 0 th refl), rest)

and_fails : (b : Bool) → (b && false) ≡ false
and_fails true = refl
and_fails false = refl

counts_fail : (ts : List MachineThread) (i m : ℕ) (th : MachineThread) → slice_get ts m ≡ Some th → th.joined ≡ false → 64 < open_calls th.control → counts_within (calls_from i ts) ≡ false
unfolding counts_within call_limit
counts_fail [] i m th h j over = none_is_not_some h
counts_fail (u ∷ ts) i zero th h j over =
    let e = some_injective h in
    let n : u.joined ≡ false = ap (λ (x : MachineThread). x.joined) e ∙ j in
    let o : 64 < open_calls u.control = subst (λ (x : MachineThread). 64 < open_calls x.control) (sym e) over in
    rw (n, lt-leb (open_calls u.control) 64 o)
counts_fail (u ∷ ts) i (suc m) th h j over = by_record u.joined (counts_fail ts (suc i) m th h j over)
  where
    by_record : (b : Bool) → counts_within (calls_from (suc i) ts) ≡ false → counts_within (unless b (λ l. open_calls u.control ∷ l) (calls_from (suc i) ts)) ≡ false
    by_record true rest = rest
    by_record false rest = rw rest (and_fails (leb (open_calls u.control) 64))

module _ (p : List ℕ) (R : Replay) where
  pub within_held : {s : List ℕ} {T : Threads} → Holds p s T R → within R ≡ true
  unfolding within calls_in
  within_held H =
      rw (within_limits_lem (length R.machine.threads) R.things H.sized.fits H.names.few, counts_hold R.machine.threads 0 (λ m th h. (H.threads m th h).calls)) refl

  -- a thread has more open calls than it may
  pub within_fails : (t : ℕ) (th : MachineThread) → slice_get R.machine.threads t ≡ Some th → th.joined ≡ false → 64 < open_calls th.control → within R ≡ false
  unfolding within calls_in
  within_fails t th h j over = rw (counts_fail R.machine.threads 0 t th h j over) (and_fails (within_limits (length R.machine.threads) R.things))

-- ------------------------------------------------------------------ a thread goes on

-- the row in which a thread stands tells its open calls
pub row_tells : (p s : List ℕ) (t : ℕ) (f : ControlPoint) (d : Control) → ControlAt p s t f d → f.row ≡ 66 * t + open_calls d
unfolding open_calls
row_tells p s t f (done v) C = let e = ap (λ (g : ControlPoint). g.row) C in omega (arith, e)
row_tells p s t f (at σ w K) (values, W, F) = frames_row p t s K f.row (place_of p s w) _ F

set_there : {A : Type 0} (xs : List A) (i : ℕ) (a : A) → i < length xs → slice_get (set xs i a) i ≡ Some a
set_there [] i a h = absurd (omega (arith, h))
set_there (x ∷ xs) zero a h = refl
set_there (x ∷ xs) (suc i) a h = set_there xs i a (omega (arith, h))

module _ {p s : List ℕ} {T : Threads} {R : Replay} {t tid : ℕ} (P : Paused p s T R t tid) (f g : ControlPoint) (d : Control) (F : Finds p t s d (found 2048 p s g)) where
  -- what is stored of its row, once it has gone on
  row_after : get_or (proceeded p s T t g).1 (control_point_rows_at + t) 0 ≡ 66 * t + open_calls d
  unfolding proceeded recorded went_on settled control_point_at
  row_after =
      let found_at = (found 2048 p s g).0 in
      let after = (found 2048 p s g).1 in
      ap (λ (h : ControlPoint). h.row) (control_point_here after t found_at (F.1.long ∙ P.long) (low P)) ∙ row_tells p after t found_at d F.0

  abbrev Goes : Type 0
  Goes = Answered p (check_limits within (Some (gone_to R t tid d))) (after_act p T t f (Ok (Go g), s))

  go_holds : open_calls d ≤ 64 → Goes
  unfolding check_limits after_act act_step moved_to outcome_of
  go_holds few =
      let H = proceeds P g d few F in
      let e = row_after in
      rw (within_held p (gone_to R t tid d) H, le-ltb (66 * t + 64) (get_or (proceeded p s T t g).1 (control_point_rows_at + t) 0) (omega (arith, e, few))) ((proceeded p s T t g).0, refl, H)

  go_fails : 64 < open_calls d → Goes
  unfolding check_limits after_act act_step moved_to outcome_of
  go_fails over =
      let e = row_after in
      rw (
        within_fails p (gone_to R t tid d) t (running tid d) (set_there R.machine.threads t (running tid d) P.there) refl over,
        lt-ltb (66 * t + 64) (get_or (proceeded p s T t g).1 (control_point_rows_at + t) 0) (omega (arith, e, over)),
      )
      ((proceeded p s T t g).0, refl)

  -- the thread has gone on to d; if it has too many open calls now, the step is past the limit
  pub moves : Goes
  moves = by_calls (dec_le (open_calls d) 64)
    where
      by_calls : Dec (open_calls d ≤ 64) → Goes
      by_calls (yes few) = go_holds few
      by_calls (no n) = go_fails (omega (arith, n))
