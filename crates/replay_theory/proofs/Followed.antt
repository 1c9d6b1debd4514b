-- A replay does the language's step on each line, passes no limit with them, and stops for what the line behind them is.
use Rattle.std.proofs.Common.{Some, slice_get}
use Prim.Native.Nat.{ℕ, zero, suc, ◌+◌, ◌≤◌, ◌<◌}
use mathlib.Core.Path.{◌≡◌, refl, sym, ap, subst}
use mathlib.Core.Bool.{true}
use mathlib.Core.List.{List, [], ◌∷◌, ◌++◌, append_assoc, append-nil}
use native.Mathlib.Omega.{arith}
use lib.ListN.{length, take}
use Rattle.spec.specs.Text.{Line}
use Rattle.calculus.specs.Expression.{Program}
use Rattle.replay_theory.specs.Trace.{TraceLine, trace_line}
use Rattle.replay_theory.specs.Run.{Run, start_run, thread_limit, thing_limit, within_limits, call_limit, calls_within, within}
use Rattle.replay_theory.specs.Replay.{execution, returned_for}
use Rattle.replay_theory.specs.Claim.{runs_along, Reduced, Within, StepDone, Stops, all_done, not_aline, cannot_step, too_many, Follows}
use Rattle.replay_theory.specs.declared.Ending.{Ending}
use Rattle.replay_theory.proofs.Proper.{Proper, start_is_proper, Stepped, step_taken, step_keeps_proper}
use Rattle.replay_theory.proofs.Complete.{reduced, step_is_the_languages, no_step_exactly}
use Rattle.replay_theory.proofs.Execution.{Goes, is_no_line, is_no_step, is_past_limit, is_step, line_goes}
use Rattle.replay_theory.proofs.Limits.{Booked, start_booked, step_booked, within_complete, past_complete}

-- What the lines from here on come to: the runs so far are rs, by the steps ds, the last of them is r, and the next line is line k.
record Onward (rs : List Run) (ds : List Reduced) (k : ℕ) (r : Run) (ls : List Line) (w : List Run × Ending) : Type 0 where
  steps : List Reduced
  counted : length steps ≡ length w.0
  each : (n : ℕ) → n < length steps → StepDone (r ∷ w.0) ls steps n
  within_each : (n : ℕ) → n ≤ length steps → Within (rs ++ take n w.0) (ds ++ take n steps)
  last : Run
  last_there_lem : slice_get (r ∷ w.0) (length steps) ≡ Some last
  stops : Stops (rs ++ w.0) (ds ++ steps) last (slice_get ls (length steps)) (k + length steps) (returned_for w.1)

-- The same of equal runs and steps.
same_within : {rs rs' : List Run} {ds ds' : List Reduced} → rs ≡ rs' → ds ≡ ds' → Within rs ds → Within rs' ds'
same_within {rs} {rs'} {ds} a b W = subst (Within rs') b (subst (λ (xs : List Run). Within xs ds) a W)

same_stops : {rs rs' : List Run} {ds ds' : List Reduced} {k k' : ℕ} (r : Run) (ls : List Line) (i : ℕ) (e : Ending) → rs ≡ rs' → ds ≡ ds' → k ≡ k' →
    Stops rs ds r (slice_get ls i) k (returned_for e) → Stops rs' ds' r (slice_get ls i) k' (returned_for e)
same_stops {rs} {rs'} {ds} {ds'} {k} {k'} r ls i e a b c s =
    subst (λ (n : ℕ). Stops rs' ds' r (slice_get ls i) n (returned_for e)) c
    (subst (λ (xs : List Reduced). Stops rs' xs r (slice_get ls i) k (returned_for e)) b
    (subst (λ (xs : List Run). Stops xs ds r (slice_get ls i) k (returned_for e)) a s))

-- They stop at once.
here : {rs : List Run} {ds : List Reduced} {k : ℕ} {r : Run} {ls : List Line} {e : Ending} → Within rs ds →
    Stops rs ds r (slice_get ls 0) k (returned_for e) → Onward rs ds k r ls ([], e)
here {rs} {ds} {k} {r} {ls} {e} W s = record {
  steps = [];
  counted = refl;
  each = λ n l. absurd (omega (arith, l));
  within_each = λ n l. let none_left : 0 ≡ n = omega (arith, l) in subst (λ (m : ℕ). Within (rs ++ take m []) (ds ++ take m [])) none_left at_once;
  last = r;
  last_there_lem = refl;
  stops = same_stops r ls 0 e (sym (append-nil rs)) (sym (append-nil ds)) (omega arith) s;
}
  where
    at_once : Within (rs ++ take 0 []) (ds ++ take 0 [])
    at_once = same_within (sym (append-nil rs)) (sym (append-nil ds)) W

-- One step, and then they go on.
module _ (rs : List Run) (ds : List Reduced) (k : ℕ) (r r' : Run) (l : Line) (ls : List Line) (t : TraceLine) (shown : trace_line l ≡ Some t)
    (proper : Proper r) (S : Stepped r t r') (W : Within rs ds) (w : List Run × Ending)
    (O : Onward (rs ++ (r' ∷ [])) (ds ++ (reduced S ∷ [])) (k + 1) r' ls w) where
  each_done : (n : ℕ) → n < suc (length O.steps) → StepDone (r ∷ r' ∷ w.0) (l ∷ ls) (reduced S ∷ O.steps) n
  each_done zero b = record {
    before = r;
    before_there = refl;
    after = r';
    after_there = refl;
    line = l;
    line_there = refl;
    read = t;
    shown = shown;
    reduced = reduced S;
    reduced_there = refl;
    step = step_is_the_languages S proper;
  }
  each_done (suc n) b =
      let D = O.each n (omega (arith, b)) in
      record {
        before = D.before;
        before_there = D.before_there;
        after = D.after;
        after_there = D.after_there;
        line = D.line;
        line_there = D.line_there;
        read = D.read;
        shown = D.shown;
        reduced = D.reduced;
        reduced_there = D.reduced_there;
        step = D.step;
      }

  within_all : (n : ℕ) → n ≤ suc (length O.steps) → Within (rs ++ take n (r' ∷ w.0)) (ds ++ take n (reduced S ∷ O.steps))
  within_all zero b = same_within (sym (append-nil rs)) (sym (append-nil ds)) W
  within_all (suc n) b =
      same_within (append_assoc rs (r' ∷ []) (take n w.0)) (append_assoc ds (reduced S ∷ []) (take n O.steps)) (O.within_each n (omega (arith, b)))

  onward : Onward rs ds k r (l ∷ ls) (r' ∷ w.0, w.1)
  onward = record {
    steps = reduced S ∷ O.steps;
    counted = ap suc O.counted;
    each = each_done;
    within_each = within_all;
    last = O.last;
    last_there_lem = O.last_there_lem;
    stops = same_stops O.last ls (length O.steps) w.1 (append_assoc rs (r' ∷ []) w.0) (append_assoc ds (reduced S ∷ []) O.steps) (omega arith)
        O.stops;
  }

execution_onward : (ls : List Line) (rs : List Run) (ds : List Reduced) (k : ℕ) (r : Run) → Proper r → Booked rs ds r → Within rs ds →
    Onward rs ds k r ls (execution k r ls)
unfolding execution returned_for
execution_onward [] rs ds k r proper B W = here W all_done
execution_onward (l ∷ ls) rs ds k r proper B W = by_line_lem _ (line_goes k r l (λ r'. execution (k + 1) r' ls)) (λ rs' ds' r'. execution_onward ls rs' ds' (k + 1) r')
  where
    by_line_lem : (w : List Run × Ending) → Goes k r l (λ r'. execution (k + 1) r' ls) w →
        ((rs' : List Run) (ds' : List Reduced) (r' : Run) → Proper r' → Booked rs' ds' r' → Within rs' ds' → Onward rs' ds' (k + 1) r' ls (execution (k + 1) r' ls)) →
        Onward rs ds k r (l ∷ ls) w
    by_line_lem w (is_no_line q) later = here W (not_aline l q)
    by_line_lem w (is_no_step t q e) later = here W (cannot_step l t q ((no_step_exactly r t proper).0 e))
    by_line_lem w (is_past_limit t r' q e b) later =
        let S = step_taken r r' t e in
        here W (too_many l t (reduced S) r' q (step_is_the_languages S proper)
        (past_complete (rs ++ (r' ∷ [])) (ds ++ (reduced S ∷ [])) r' (step_booked rs ds S proper B) (step_keeps_proper r r' t proper e) b))
    by_line_lem w (is_step t r' q e b) later =
        let S = step_taken r r' t e in
        let B' = step_booked rs ds S proper B in
        let W' = within_complete (rs ++ (r' ∷ [])) (ds ++ (reduced S ∷ [])) r' B' b in
        onward rs ds k r r' l ls t q proper S W (execution (k + 1) r' ls)
        (later (rs ++ (r' ∷ [])) (ds ++ (reduced S ∷ [])) r' (step_keeps_proper r r' t proper e) B' W')

start_within : (p : Program) → within (start_run p) ≡ true
unfolding within within_limits calls_within start_run thread_limit thing_limit call_limit
start_within p = refl

pub replay_follows : (p : Program) (ls : List Line) →
    Follows (runs_along (start_run p) ls) ls (length (execution 1 (start_run p) ls).0) (returned_for (execution 1 (start_run p) ls).1)
replay_follows p ls =
    let start = start_run p in
    let B = start_booked p in
    let O = execution_onward ls (start ∷ []) [] 1 start (start_is_proper p) B (within_complete (start ∷ []) [] start B (start_within p)) in
    let same = O.counted in
    record {
      reduced = O.steps;
      reduced_counted = O.counted;
      runs_counted = refl;
      each = λ n b. O.each n (omega (arith, b, same));
      within = λ n b. O.within_each n (omega (arith, b, same));
      last = O.last;
      last_there = subst (λ (n : ℕ). slice_get (runs_along start ls) n ≡ Some O.last) same O.last_there_lem;
      stops = subst (λ (n : ℕ). Stops (runs_along start ls) O.steps O.last (slice_get ls n) (suc n) (returned_for (execution 1 start ls).1)) same
          (same_stops O.last ls (length O.steps) (execution 1 start ls).1 refl refl (omega arith) O.stops);
    }
