-- Programs that run to their end.
use mathlib.Core.Path.{◌≡◌, refl}
use mathlib.Core.List.{[], ◌∷◌}
use native.Mathlib.Decide.{ℕ_discrete}
use Rattle.calculus.specs.Expression.{int}
use Rattle.calculus.specs.State.{opened, cell, a_lock, semaphore, State}
use Rattle.calculus.specs.Reduction.{reduce, attempt, run, start_state}
use Rattle.calculus.specs.Claim.{ThreadAt}
use Rattle.calculus.specs.Examples.{constant, figure2b, moves2b_to_join, moves2b_to_end, figure2c, moves2c_to_lock, moves2c_to_end, section221, moves221_to_loop, moves221_threads, moves221_to_end, handover, moves_handover_to_newsem, moves_handover_to_wait, moves_handover_to_post, moves_handover_to_end}

-- The first thread is left, and x holds 1.
pub figure_2b_ends : (run [] moves2b_to_end (run [] moves2b_to_join (start_state figure2b))).threads ≡ (record { tid = 0; body = constant 0 } ∷ [])
unfolding start_state run attempt reduce ℕ_discrete
figure_2b_ends = refl

pub figure_2b_writes : (run [] moves2b_to_end (run [] moves2b_to_join (start_state figure2b))).names 1 ≡ cell (int 1)
unfolding start_state run attempt reduce ℕ_discrete
figure_2b_writes = refl

-- Both threads have finished, x holds 1, and the lock is open.
pub figure_2c_ends : (run [] moves2c_to_end (run [] moves2c_to_lock (start_state figure2c))).threads ≡
    (record { tid = 0; body = constant 0 } ∷ record { tid = 3; body = constant 0 } ∷ [])
unfolding start_state run attempt reduce ℕ_discrete
figure_2c_ends = refl

pub figure_2c_writes : (run [] moves2c_to_end (run [] moves2c_to_lock (start_state figure2c))).names 1 ≡ cell (int 1)
unfolding start_state run attempt reduce ℕ_discrete
figure_2c_writes = refl

pub figure_2c_unlocks : (run [] moves2c_to_end (run [] moves2c_to_lock (start_state figure2c))).names 2 ≡ a_lock opened
unfolding start_state run attempt reduce ℕ_discrete
figure_2c_unlocks = refl

-- The count is 1 once the first thread has posted, and 0 again once the other has waited; both have finished, and x holds what the other
-- wrote.
abbrev handed_over : State
handed_over = run [] moves_handover_to_post (run [] moves_handover_to_wait (run [] moves_handover_to_newsem (start_state handover)))

pub handover_posts : handed_over.names 2 ≡ semaphore 1
unfolding start_state run attempt reduce ℕ_discrete
handover_posts = refl

pub handover_waits : (run [] moves_handover_to_end handed_over).names 2 ≡ semaphore 0
unfolding start_state run attempt reduce ℕ_discrete
handover_waits = refl

pub handover_writes : (run [] moves_handover_to_end handed_over).names 1 ≡ cell (int 1)
unfolding start_state run attempt reduce ℕ_discrete
handover_writes = refl

pub handover_ends : (run [] moves_handover_to_end handed_over).threads ≡
    (record { tid = 0; body = constant 0 } ∷ record { tid = 3; body = constant 0 } ∷ [])
unfolding start_state run attempt reduce ℕ_discrete
handover_ends = refl

-- Section 2.2.1, once through the loop: both spawned threads, of one identifier, finish; they are joined, and the loop is left.
pub section_2_2_1_first_finishes :
    ThreadAt (run [] moves221_threads (run [] moves221_to_loop (start_state section221))) 1 (record { tid = 3; body = constant 0 })
unfolding start_state run attempt reduce ℕ_discrete
section_2_2_1_first_finishes = refl

pub section_2_2_1_second_finishes :
    ThreadAt (run [] moves221_threads (run [] moves221_to_loop (start_state section221))) 2 (record { tid = 3; body = constant 0 })
unfolding start_state run attempt reduce ℕ_discrete
section_2_2_1_second_finishes = refl

pub section_2_2_1_ends : (run [] moves221_to_end (run [] moves221_threads (run [] moves221_to_loop (start_state section221)))).threads ≡
    (record { tid = 0; body = constant 0 } ∷ [])
unfolding start_state run attempt reduce ℕ_discrete
section_2_2_1_ends = refl
