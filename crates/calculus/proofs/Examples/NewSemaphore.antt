-- Why a new semaphore counts 0: nobody has posted it, so it has nothing to hand out.
use Prim.Native.Nat.{ℕ}
use mathlib.Core.Path.{◌≡◌, refl}
use mathlib.Core.Logic.{inr}
use mathlib.Core.List.{[], ◌∷◌}
use native.Mathlib.Decide.{ℕ_discrete}
use native.Mathlib.Omega.{arith}
use Rattle.calculus.specs.Expression.{int}
use Rattle.calculus.specs.State.{semaphore, State, update}
use Rattle.calculus.specs.Reduction.{reduce, attempt, run, start_state}
use Rattle.calculus.specs.Claim.{about_to_write, Race, race}
use Rattle.calculus.specs.Examples.{goes, names, handover, moves_handover_to_newsem}

-- The first thread is about to make the semaphore.
abbrev before : State
before = run [] moves_handover_to_newsem (start_state handover)

-- The state after its `newsem`, were a new semaphore to count c.
abbrev counting : ℕ → State
counting c = record { threads = (attempt [] before (names 0 2)).threads; names = update before.names 2 (semaphore c) }

pub new_semaphore_counts_0 : attempt [] before (names 0 2) ≡ counting 0
unfolding start_state run attempt reduce ℕ_discrete
new_semaphore_counts_0 = refl

-- Were it to count 1, the other thread could wait at once, and the program, which Figure 5 derives (Derivations.antt), would race.
pub new_semaphore_that_counts_1_races : Race (run [] (goes 0 ∷ names 0 3 ∷ goes 0 ∷ goes 0 ∷ goes 1 ∷ goes 1 ∷ []) (counting 1))
unfolding start_state run attempt reduce ℕ_discrete
new_semaphore_that_counts_1_races =
    race 0 1 1 _ _ (omega arith) refl refl (about_to_write (int 0) (int 2) refl refl) (inr (about_to_write (int 0) (int 1) refl refl))
