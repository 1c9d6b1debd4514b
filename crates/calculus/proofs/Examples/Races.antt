-- Programs that race.
use Prim.Native.Nat.{ℕ, ◌≤◌, ◌<◌}
use mathlib.Core.Path.{refl}
use mathlib.Core.Logic.{inl, inr}
use mathlib.Core.List.{List, [], ◌∷◌}
use native.Mathlib.Decide.{ℕ_discrete}
use native.Mathlib.Omega.{arith}
use Rattle.calculus.specs.Expression.{int, Program}
use Rattle.calculus.specs.State.{Move}
use Rattle.calculus.specs.Reduction.{reduce, attempt, run, start_state}
use Rattle.calculus.specs.Claim.{about_to_read, about_to_write, Race, race, Safe}
use Rattle.calculus.specs.Capability.{Cap}
use Rattle.calculus.specs.Figure5.{Signatures, Derivation}
use Rattle.calculus.specs.Examples.{figure2a, moves2a, two_locks, moves_two_locks, one_identifier, moves_one_identifier, figure7, moves_figure7, unlock_for_nothing, moves_unlock_for_nothing}
use Rattle.calculus.specs.ProcedureExamples.{pause, kept_twice, moves_kept_twice}
use Rattle.calculus.proofs.Safety.{derived_is_safe}
use Rattle.calculus.proofs.Examples.Claims.{race_is_not_safe}

-- Figure 5 does not derive the program from a start of at most the whole.
abbrev pub HasNoDerivation : Program → Type 0
HasNoDerivation p = (D : ℕ) (S : Signatures) (Ψ : Cap) → 0 < D → ((ρ : ℕ) → Ψ ρ ≤ D) → ¬ Derivation D S Ψ p

race_has_no_derivation : (p : Program) (ms : List Move) → Race (run p.procedures ms (start_state p)) → HasNoDerivation p
race_has_no_derivation p ms r D S Ψ positive at_most_whole derived = race_is_not_safe p ms r (derived_is_safe positive derived at_most_whole)

-- ---- Figure 2 (a)

pub figure_2a_races : Race (run [] moves2a (start_state figure2a))
unfolding start_state run attempt reduce ℕ_discrete
figure_2a_races = race 0 1 1 _ _ (omega arith) refl refl (about_to_write (int 0) (int 1) refl refl) (inl (about_to_read (int 0) refl refl))

pub figure_2a_is_not_safe : ¬ Safe figure2a
figure_2a_is_not_safe = race_is_not_safe figure2a moves2a figure_2a_races

-- ---- Two locks for one cell

pub two_locks_race : Race (run [] moves_two_locks (start_state two_locks))
unfolding start_state run attempt reduce ℕ_discrete
two_locks_race = race 0 1 1 _ _ (omega arith) refl refl (about_to_write (int 0) (int 1) refl refl) (inl (about_to_read (int 0) refl refl))

-- With NEWL-unsound Figure 5 would derive it: each lock would lend the whole of x.
pub two_locks_has_no_derivation : HasNoDerivation two_locks
two_locks_has_no_derivation = race_has_no_derivation two_locks moves_two_locks two_locks_race

-- ---- Figure 7: two posts

pub figure_7_races : Race (run [] moves_figure7 (start_state figure7))
unfolding start_state run attempt reduce ℕ_discrete
figure_7_races = race 1 2 1 _ _ (omega arith) refl refl (about_to_write (int 0) (int 1) refl refl) (inr (about_to_write (int 0) (int 1) refl refl))

-- The second post would pay with what the first has paid.
pub figure_7_has_no_derivation : HasNoDerivation figure7
figure_7_has_no_derivation = race_has_no_derivation figure7 moves_figure7 figure_7_races

-- ---- Section 3.1.6: a lock that is unlocked for nothing

pub unlock_for_nothing_races : Race (run [] moves_unlock_for_nothing (start_state unlock_for_nothing))
unfolding start_state run attempt reduce ℕ_discrete
unlock_for_nothing_races =
    race 0 1 1 _ _ (omega arith) refl refl (about_to_write (int 0) (int 2) refl refl) (inr (about_to_write (int 0) (int 1) refl refl))

-- With the printed out inequality Figure 5 would derive it (PrintedLocks.antt).
pub unlock_for_nothing_has_no_derivation : HasNoDerivation unlock_for_nothing
unlock_for_nothing_has_no_derivation = race_has_no_derivation unlock_for_nothing moves_unlock_for_nothing unlock_for_nothing_races

-- ---- Section 3.1.3: what a caller keeps, counted twice

pub kept_twice_races : Race (run (pause ∷ []) moves_kept_twice (start_state kept_twice))
unfolding start_state run attempt reduce ℕ_discrete
kept_twice_races = race 0 1 1 _ _ (omega arith) refl refl (about_to_write (int 0) (int 2) refl refl) (inr (about_to_write (int 0) (int 1) refl refl))

-- Counted twice, Figure 5 would derive it (KeptTwice.antt).
pub kept_twice_has_no_derivation : HasNoDerivation kept_twice
kept_twice_has_no_derivation = race_has_no_derivation kept_twice moves_kept_twice kept_twice_races

-- ---- Two threads with one identifier are two threads

pub one_identifier_races : Race (run [] moves_one_identifier (start_state one_identifier))
unfolding start_state run attempt reduce ℕ_discrete
one_identifier_races =
    race 1 2 1 (record { tid = 2; body = _ }) (record { tid = 2; body = _ }) (omega arith) refl refl
    (about_to_write (int 0) (int 1) refl refl) (inr (about_to_write (int 0) (int 2) refl refl))
