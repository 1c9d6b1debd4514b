-- Steps in two orders: races, where the order matters; two reads, where it does not; and one thread, which has one order.
use Rattle.std.proofs.Common.{slice_get}
use Prim.Native.Nat.{ℕ}
use mathlib.Core.Path.{◌≡◌, refl, sym, ap, ◌∙◌}
use mathlib.Core.Logic.{inl, inr}
use mathlib.Core.List.{List, [], ◌∷◌, ◌++◌}
use native.Mathlib.Decide.{ℕ_discrete}
use native.Mathlib.Omega.{arith}
use Rattle.calculus.specs.Expression.{int, name, read, lock, unlock, value, var, let_in, write, unary}
use Rattle.calculus.specs.State.{cell, Thread, State, Move}
use Rattle.calculus.specs.Reduction.{reduce, attempt, run, start_state}
use Rattle.calculus.specs.Claim.{ThreadAt, about_to_read, about_to_write, reached, AboutToUse, about_to_use, SameEitherWay, InEitherOrder}
use Rattle.calculus.specs.Examples.{constant, ◌⨾◌, goes, joins, figure2a, moves2a, figure2b, moves2b_to_join, section221, moves221_to_loop, one_identifier, moves_one_identifier}
use Rattle.calculus.proofs.Laws.Maps.{some_injective, none_is_not_some}
use Rattle.calculus.proofs.EitherOrder.{safe_is_in_either_order}
use Rattle.calculus.proofs.Examples.Derivations.{section_2_2_1_is_safe}

-- ---- A race: Figure 2 (a). The spawned thread reads 0, or 1 if the other has written.

constants_differ : ¬ (constant 1 ≡ constant 0)
constants_differ h = let z : ◌≡◌ {A = ℕ} 1 0 = cc in omega (arith, z)

pub figure_2a_order_matters : ¬ SameEitherWay [] (run [] moves2a (start_state figure2a)) (goes 0) (goes 1)
unfolding start_state run attempt reduce ℕ_discrete
figure_2a_order_matters same =
    let at_1 = ap (λ (s : State). slice_get s.threads 1) (some_injective (same.one_way ∙ sym same.other_way)) in
    constants_differ (ap (λ (t : Thread). t.body) (some_injective at_1))

pub figure_2a_is_not_in_either_order : ¬ InEitherOrder figure2a
unfolding start_state run attempt reduce ℕ_discrete
figure_2a_is_not_in_either_order claim =
    figure_2a_order_matters (claim _ (reached moves2a) (goes 0) (goes 1) _ _ (omega arith) refl refl
    (about_to_use 1 (inr (about_to_write (int 0) (int 1) refl refl))) (about_to_use 1 (inl (about_to_read (int 0) refl refl))))

-- ---- A race of two writes. The threads are the same either way; what the cell holds is not.

contents_differ : ¬ (cell (int 2) ≡ cell (int 1))
contents_differ h = let z : ◌≡◌ {A = ℕ} 2 1 = cc in omega (arith, z)

pub one_identifier_order_matters : ¬ SameEitherWay [] (run [] moves_one_identifier (start_state one_identifier)) (goes 1) (goes 2)
unfolding start_state run attempt reduce ℕ_discrete
one_identifier_order_matters same =
    contents_differ (ap (λ (s : State). s.names 1) (some_injective (same.one_way ∙ sym same.other_way)))

pub one_identifier_is_not_in_either_order : ¬ InEitherOrder one_identifier
unfolding start_state run attempt reduce ℕ_discrete
one_identifier_is_not_in_either_order claim =
    one_identifier_order_matters (claim _ (reached moves_one_identifier) (goes 1) (goes 2) _ _ (omega arith) refl refl
    (about_to_use 1 (inr (about_to_write (int 0) (int 1) refl refl))) (about_to_use 1 (inr (about_to_write (int 0) (int 2) refl refl))))

-- ---- No race: Section 2.2.1, where both spawned threads are about to read y. The claim speaks of them.

abbrev two_readers_lem : List Move
two_readers_lem = moves221_to_loop ++ (goes 0 ∷ goes 0 ∷ goes 0 ∷ goes 0 ∷ [])

-- Each of the two: y is 2, the lock is 4 and x is 1.
abbrev reader : Thread
reader = record {
  tid = 3;
  body = let_in 4 (unary read (value (name 2)))
      (unary lock (value (name 4)) ⨾ write (value (name 1)) (var 4) ⨾ unary unlock (value (name 4)));
}

pub section_2_2_1_reads_swap : SameEitherWay [] (run [] two_readers_lem (start_state section221)) (goes 1) (goes 2)
unfolding start_state run attempt reduce ℕ_discrete
section_2_2_1_reads_swap =
    let reads : AboutToUse (run [] two_readers_lem (start_state section221)) reader = about_to_use 2 (inl (about_to_read (int 0) refl refl)) in
    safe_is_in_either_order section221 section_2_2_1_is_safe _ (reached two_readers_lem) (goes 1) (goes 2) reader reader (omega arith) refl refl
    reads reads

-- ---- One thread twice: Figure 2 (b), which is safe, once its first thread is about to write

abbrev last_write : State
last_write = run [] (goes 1 ∷ joins 0 1 ∷ goes 0 ∷ []) (run [] moves2b_to_join (start_state figure2b))

-- Were the claim not to ask for different threads, it would be false: the thread finishes with its write, so its second move is no reduction.
pub one_thread_does_not_swap : ¬ ((m k : Move) (t u : Thread) → ThreadAt last_write m.thread t → ThreadAt last_write k.thread u →
    AboutToUse last_write t → AboutToUse last_write u → SameEitherWay [] last_write m k)
unfolding start_state run attempt reduce ℕ_discrete
one_thread_does_not_swap claim =
    none_is_not_some (claim (goes 0) (goes 0) _ _ refl refl (about_to_use 1 (inr (about_to_write (int 0) (int 1) refl refl)))
    (about_to_use 1 (inr (about_to_write (int 0) (int 1) refl refl)))).one_way
