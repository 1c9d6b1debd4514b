-- Readers at once, a writer among them, and why the holds are bounded and not the threads.
use mathlib.Core.Path.{◌≡◌, refl}
use mathlib.Core.Logic.{inl}
use mathlib.Core.List.{[], ◌∷◌}
use native.Mathlib.Decide.{ℕ_discrete, dec_le, dec_lt}
use native.Mathlib.Omega.{arith}
use Rattle.calculus.specs.Expression.{int, rdlock, wrlock}
use Rattle.calculus.specs.State.{readers, cell, rwlock, Thread, State, update}
use Rattle.calculus.specs.Reduction.{reduce, attempt, run, start_state}
use Rattle.calculus.specs.Claim.{ThreadAt, AboutToRead, about_to_read, about_to_write, Race, race, at_hold}
use Rattle.calculus.specs.Examples.{goes, colour_book, moves_to_book, moves_book_to_reads, moves_book_to_end, both_places, moves_both_places}
use Rattle.calculus.proofs.Examples.Halts.{HaltsWaiting, waiting}

-- ---- Readers at once

-- Both readers are in, and the cell is 1.
abbrev both_in : State
both_in = run [] moves_book_to_reads (run [] moves_to_book (start_state colour_book))

-- Two threads of a state are about to read one cell.
pub record ReadAtOnce (s : State) : Type 0 where
  pub t : Thread
  pub u : Thread
  pub first : ThreadAt s 1 t
  pub second : ThreadAt s 2 u
  pub one : AboutToRead s t 1
  pub other : AboutToRead s u 1

pub readers_read_at_once : ReadAtOnce both_in
unfolding start_state run attempt reduce ℕ_discrete dec_lt dec_le
readers_read_at_once = record {
  t = _;
  u = _;
  first = refl;
  second = refl;
  one = about_to_read (int 0) refl refl;
  other = about_to_read (int 0) refl refl;
}

-- The writer among them waits.
pub writer_waits_for_both : HaltsWaiting both_in 0
unfolding start_state run attempt reduce ℕ_discrete dec_lt dec_le
writer_waits_for_both = waiting both_in 0 refl (at_hold 2 2 wrlock (readers 2) refl refl refl)

-- Once both have given back, it writes.
pub book_is_written : (run [] moves_book_to_end both_in).names 1 ≡ cell (int 1)
unfolding start_state run attempt reduce ℕ_discrete dec_lt dec_le
book_is_written = refl

-- ---- Holds and not threads

-- One thread has taken both places and is about to write; the other waits for a place.
abbrev places_taken : State
places_taken = run [] moves_both_places (start_state both_places)

pub third_hold_waits : HaltsWaiting places_taken 1
unfolding start_state run attempt reduce ℕ_discrete dec_lt dec_le
third_hold_waits = waiting places_taken 1 refl (at_hold 2 2 rdlock (readers 2) refl refl refl)

-- Figure 8 bounds the threads: there are two, no more than the reading places, so the second would be let in, here by one place more. Then
-- the program, which Figure 5 derives (Derivations.antt), would race.
pub third_hold_races :
    Race (run [] (goes 1 ∷ goes 1 ∷ []) (record { threads = places_taken.threads; names = update places_taken.names 2 (rwlock 3 (readers 2)) }))
unfolding start_state run attempt reduce ℕ_discrete dec_lt dec_le
third_hold_races = race 0 1 1 _ _ (omega arith) refl refl (about_to_write (int 0) (int 1) refl refl) (inl (about_to_read (int 0) refl refl))
