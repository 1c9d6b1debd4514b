-- Steps at the limits and one past them, and things of every kind at once: what `Within` counts, in examples.
use Prim.Native.Nat.{ℕ}
use mathlib.Core.Path.{◌≡◌, refl}
use mathlib.Core.List.{List, [], ◌++◌}
use native.Mathlib.Omega.{arith}
use lib.ListN.{length, replicate}
use Rattle.calculus.specs.Expression.{int, name, value, ref, call, newtid, newlock, newsem, newrwlock, nullary, Redex, spawn_redex, unary_redex, nullary_redex}
use Rattle.calculus.specs.Reduction.{start_state}
use Rattle.replay_theory.specs.Paths.{part_at}
use Rattle.replay_theory.specs.Run.{ObjectKind, cells, locks, rwlocks, semaphores, identifiers, Run, start_run, place_of, has_finished, is_open, makes, unary_traits, traits, one_more_if, thread_limit, thing_limit, call_limit}
use Rattle.replay_theory.specs.Claim.{Reduced, part_in, open_through, takes_call, open_calls_of, how_many, Within}

-- Thread 0 reduces that word so many times.
unfoldable pub steps : ℕ → Redex → List Reduced
steps n w = replicate n (record { thread = 0; path = []; word = w })

unfoldable pub spawning : ℕ → List Reduced
spawning n = steps n (spawn_redex (name 0) (value (int 0)))

-- Things of each kind by its own word.
unfoldable pub made : ObjectKind → Redex
made cells = unary_redex ref (int 0)
made locks = nullary_redex newlock
made rwlocks = nullary_redex (newrwlock 1)
made semaphores = nullary_redex newsem
made identifiers = nullary_redex newtid

-- So many things of every kind.
unfoldable pub making : ℕ → List Reduced
making n = steps n (made cells) ++ (steps n (made locks) ++ (steps n (made rwlocks) ++ (steps n (made semaphores) ++ steps n (made identifiers))))

-- Calls of a thread that goes on, with the run before each.
unfoldable pub calling : ℕ → List Reduced
calling n = steps n (unary_redex (call 0) (int 0))

unfoldable pub staying : ℕ → List Run
staying n = replicate n (start_run (record { procedures = []; root = nullary newtid }))

-- 15 threads beside the start are within the limit, a 16th is not.
pub threads_at_limit : Within [] (spawning 15) × (¬ Within [] (spawning 16))
unfolding spawning steps how_many open_calls_of traits one_more_if thread_limit thing_limit call_limit
threads_at_limit = (
  record { threads = omega arith; things = λ k. let none_made = nothing k in omega (arith, none_made); calls = λ i. omega arith },
  λ W. let many = W.threads in omega (arith, many),
)
  where
    nothing : (k : ObjectKind) → how_many (makes k) (spawning 15) ≡ 0
    nothing cells = refl
    nothing locks = refl
    nothing rwlocks = refl
    nothing semaphores = refl
    nothing identifiers = refl

-- 64 things of every kind are within the limit: each kind is counted by itself. 65 of one kind are not.
pub things_at_limit : Within [] (making 64) × ((k : ObjectKind) → ¬ Within [] (steps 65 (made k)))
unfolding making made steps how_many open_calls_of unary_traits traits one_more_if thread_limit thing_limit call_limit
things_at_limit = (
  record { threads = omega arith; things = λ k. let made_of = by_itself k in omega (arith, made_of); calls = λ i. omega arith },
  λ k W. let many = W.things k in let made_of = one_past k in omega (arith, many, made_of),
)
  where
    by_itself : (k : ObjectKind) → how_many (makes k) (making 64) ≡ 64
    by_itself cells = refl
    by_itself locks = refl
    by_itself rwlocks = refl
    by_itself semaphores = refl
    by_itself identifiers = refl

    one_past : (k : ObjectKind) → how_many (makes k) (steps 65 (made k)) ≡ 65
    one_past cells = refl
    one_past locks = refl
    one_past rwlocks = refl
    one_past semaphores = refl
    one_past identifiers = refl

-- 64 open calls are within the limit, a 65th is not.
pub calls_at_limit : (length (open_calls_of 0 (calling 64) (staying 64)) ≡ call_limit) × (¬ Within (staying 65) (calling 65))
unfolding calling staying steps how_many open_calls_of open_through takes_call part_in is_open has_finished place_of part_at start_run start_state unary_traits traits one_more_if call_limit
calls_at_limit = (refl, λ W. let many = W.calls 0 in omega (arith, many))
