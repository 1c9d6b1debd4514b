-- The record of a thread: only a running thread can take a step.
use Rattle.std.proofs.Common.{Option, None, Some}
use mathlib.Core.Path.{◌≡◌, refl}
use mathlib.Core.Logic.{◌≢◌}
use Rattle.calculus.specs.Expression.{next_word}
use Rattle.calculus.proofs.Laws.Questions.{word_tells}
use Rattle.replay_theory.specs.Trace.{TraceLine}
use Rattle.replay_theory.specs.Run.{Run, record_of, move_of, stepped}
use Rattle.replay_theory.specs.declared.Status.TheVariants.{Running}
use Rattle.replay_theory.proofs.Proper.{Stepped, step_taken}
use Rattle.replay_theory.proofs.Implied.{running_implied}

step_is_of_running : {r r' : Run} {l : TraceLine} → Stepped r l r' → record_of r l.thread ≡ Some Running
unfolding move_of
step_is_of_running {r} {l = l} S =
    running_implied r l.thread (move_of r S.place S.word S.part) S.thread S.word S.there S.thread_there
    (word_tells (next_word S.thread.body) S.is_next)

-- "47 for no such thread": nor does a finished or a joined thread step.
pub others_do_not_step : (r : Run) (l : TraceLine) → record_of r l.thread ≢ Some Running → stepped r l ≡ None
others_do_not_step r l h = by_cases (stepped r l) refl
  where
    by_cases : (o : Option Run) → stepped r l ≡ o → o ≡ None
    by_cases None e = refl
    by_cases (Some r') e = absurd (h (step_is_of_running (step_taken r r' l e)))
