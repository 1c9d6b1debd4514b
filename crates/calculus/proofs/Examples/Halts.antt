-- Threads that halt: where the claim allows it, and where it does not.
use Rattle.std.proofs.Common.{Some}
use Prim.Native.Nat.{ℕ, zero, suc}
use mathlib.Core.Path.{◌≡◌, refl, ap, sym, ◌∙◌}
use mathlib.Core.Logic.{◌≢◌, ◌⊎◌, inl, inr}
use mathlib.Core.List.{List, [], ◌∷◌}
use native.Mathlib.Decide.{ℕ_discrete, dec_le, dec_lt}
use native.Mathlib.Omega.{arith}
use Rattle.calculus.specs.Expression.{Value, int, name, rdlock, rdunlock, wrlock, wrunlock, Unary, join, ref, read, lock, unlock, post, wait, hold, call, Exp, value, unary, unary_redex, at_word, Procedure}
use Rattle.calculus.specs.State.{LockState, opened, readers, writer, a_lock, Thread, State, Move, update}
use Rattle.calculus.specs.Reduction.{◌>>◌, lock_state, zero_exp, becomes, unary_reduct, reduce, attempt, run, start_state}
use Rattle.calculus.specs.Claim.{ThreadAt, Finished, finished, Waits, at_join, at_lock, at_wait, at_hold, Halts, HaltsWell, Safe}
use Rattle.calculus.specs.Examples.{plain, goes, on_constant, figure2b, moves2b_to_join, figure2c, moves2c_to_lock, handover, moves_handover_to_newsem, moves_handover_to_wait, colour_book, moves_to_book, reads_twice, moves_reads_twice, gives_back, moves_gives_back, post_of_lock, moves_post_of_lock}
use Rattle.calculus.proofs.Laws.Maps.{some_injective, none_is_not_some}
use Rattle.calculus.proofs.Laws.NextWord.{word_injective}
use Rattle.calculus.proofs.Laws.Waiting.{waiting_halts, stuck_halts}
use Rattle.calculus.proofs.Examples.Claims.{odd_halt_is_not_safe}

-- ---- Odd halts: a constant is of the wrong kind for every word with one part but `ref` and `call`; and a `call` finds no procedure here

constant_stops : (o : Unary) → o ≢ ref → (s : State) (m : Move) (t : Thread) (s' : State) → unary_reduct [] s m t o (int 0) ≡ Some s' → ⊥
constant_stops join d s m t s' q = none_is_not_some q
constant_stops ref d s m t s' q = d refl
constant_stops read d s m t s' q = none_is_not_some q
constant_stops lock d s m t s' q = none_is_not_some q
constant_stops unlock d s m t s' q = none_is_not_some q
constant_stops post d s m t s' q = none_is_not_some q
constant_stops wait d s m t s' q = none_is_not_some q
constant_stops (hold w) d s m t s' q = none_is_not_some q
constant_stops (call f) d s m t s' q = none_is_not_some q

pub word_on_constant_halts : (o : Unary) → o ≢ ref → Halts [] (start_state (plain (on_constant o))) 0
unfolding start_state
word_on_constant_halts o d = stuck_halts [] (start_state (plain (on_constant o))) 0 refl
    λ m r s' w q. constant_stops o d (start_state (plain (on_constant o))) m (record { tid = 0; body = on_constant o }) s' (rw (word_injective (sym w)) at q)

constant_is_no_name : {A : Type 0} {o p : Unary} {k n : ℕ} → at_word (unary_redex o (int k)) ≡ at_word (unary_redex p (name n)) → A
constant_is_no_name h = let z : ◌≡◌ {A = ℕ} 0 1 = cc in absurd (omega (arith, z))

unary_is_no_value : {A : Type 0} {o : Unary} {e : Exp} {v : Value} → unary o e ≡ value v → A
unary_is_no_value h = let z : ◌≡◌ {A = ℕ} 0 1 = cc in absurd (omega (arith, z))

-- A thread waits on what a name names, so never on a constant.
constant_is_not_waited_for : (s : State) (o : Unary) (i : ℕ) → ¬ Waits s (record { tid = i; body = on_constant o })
constant_is_not_waited_for s o i (at_join n b k f) = constant_is_no_name b
constant_is_not_waited_for s o i (at_lock n b f) = constant_is_no_name b
constant_is_not_waited_for s o i (at_wait n b e) = constant_is_no_name b
constant_is_not_waited_for s o i (at_hold n N w k b e f) = constant_is_no_name b

pub word_on_constant_halts_oddly : (o : Unary) → o ≢ ref → ¬ HaltsWell [] (start_state (plain (on_constant o)))
unfolding start_state
word_on_constant_halts_oddly o d well = by_cases (well 0 _ refl (word_on_constant_halts o d))
  where
    by_cases : ¬ (Finished (record { tid = 0; body = on_constant o })
        ⊎ Waits (start_state (plain (on_constant o))) (record { tid = 0; body = on_constant o }))
    by_cases (inl (finished v e)) = unary_is_no_value e
    by_cases (inr w) = constant_is_not_waited_for (start_state (plain (on_constant o))) o 0 w

-- `! 0` and `unlock 0`, to name two.
pub read_of_constant_halts_oddly : ¬ HaltsWell [] (start_state (plain (on_constant read)))
read_of_constant_halts_oddly = word_on_constant_halts_oddly read λ h. let z : ◌≡◌ {A = ℕ} 0 1 = cc in omega (arith, z)

pub unlock_of_constant_halts_oddly : ¬ HaltsWell [] (start_state (plain (on_constant unlock)))
unlock_of_constant_halts_oddly = word_on_constant_halts_oddly unlock λ h. let z : ◌≡◌ {A = ℕ} 0 1 = cc in omega (arith, z)

-- A call of a procedure that is not there.
pub call_of_no_procedure_halts_oddly : ¬ HaltsWell [] (start_state (plain (on_constant (call 0))))
call_of_no_procedure_halts_oddly = word_on_constant_halts_oddly (call 0) λ h. let z : ◌≡◌ {A = ℕ} 0 1 = cc in omega (arith, z)

pub word_on_constant_is_not_safe : (o : Unary) → o ≢ ref → ¬ Safe (plain (on_constant o))
unfolding run
word_on_constant_is_not_safe o d = odd_halt_is_not_safe (plain (on_constant o)) [] (word_on_constant_halts_oddly o d)

-- ---- An odd halt: a lock is of the wrong kind for a `post`

-- The lock is 1, and the thread is about to post it.
abbrev lock_posted : State
lock_posted = run [] moves_post_of_lock (start_state post_of_lock)

abbrev about_to_post : Thread
about_to_post = record { tid = 0; body = unary post (value (name 1)) }

post_never_waits : (s : State) → ¬ Waits s about_to_post
post_never_waits s (at_join n b k f) = let z : ◌≡◌ {A = ℕ} 0 1 = cc in omega (arith, z)
post_never_waits s (at_lock n b f) = let z : ◌≡◌ {A = ℕ} 0 1 = cc in omega (arith, z)
post_never_waits s (at_wait n b e) = let z : ◌≡◌ {A = ℕ} 0 1 = cc in omega (arith, z)
post_never_waits s (at_hold n N w k b e f) = let z : ◌≡◌ {A = ℕ} 0 1 = cc in omega (arith, z)

post_of_lock_halts : Halts [] lock_posted 0
unfolding start_state run attempt reduce ℕ_discrete
post_of_lock_halts = stuck_halts [] lock_posted 0 refl λ m r s' w q.
    let stuck : unary_reduct [] lock_posted m about_to_post post (name 1) ≡ Some s' = rw (word_injective (sym w)) at q in
    none_is_not_some stuck

pub post_of_lock_halts_oddly : ¬ HaltsWell [] lock_posted
unfolding start_state run attempt reduce ℕ_discrete
post_of_lock_halts_oddly well = by_cases (well 0 about_to_post refl post_of_lock_halts)
  where
    by_cases : ¬ (Finished about_to_post ⊎ Waits lock_posted about_to_post)
    by_cases (inl (finished v e)) = unary_is_no_value e
    by_cases (inr w) = post_never_waits lock_posted w

pub post_of_lock_is_not_safe : ¬ Safe post_of_lock
post_of_lock_is_not_safe = odd_halt_is_not_safe post_of_lock moves_post_of_lock post_of_lock_halts_oddly

-- ---- Halts that the claim allows

-- Thread i of s waits, and so halts, whatever procedures there are.
pub record HaltsWaiting (s : State) (i : ℕ) : Type 0 where
  pub t : Thread
  pub there : ThreadAt s i t
  pub waits : Waits s t
  pub halts : (P : List Procedure) → Halts P s i

pub waiting : {t : Thread} (s : State) (i : ℕ) → ThreadAt s i t → Waits s t → HaltsWaiting s i
waiting {t} s i there w = record { t = t; there = there; waits = w; halts = λ P. waiting_halts P s i there w }

-- Figure 2 (c), while the spawned thread holds the lock.
pub figure_2c_waits_at_closed_lock : HaltsWaiting (run [] moves2c_to_lock (start_state figure2c)) 0
unfolding start_state run attempt reduce ℕ_discrete
figure_2c_waits_at_closed_lock = waiting (run [] moves2c_to_lock (start_state figure2c)) 0 refl (at_lock 2 refl refl)

-- The thread that the semaphore is for, before the first thread posts.
pub handover_waits_at_count_0 : HaltsWaiting (run [] moves_handover_to_wait (run [] moves_handover_to_newsem (start_state handover))) 1
unfolding start_state run attempt reduce ℕ_discrete
handover_waits_at_count_0 =
    waiting (run [] moves_handover_to_wait (run [] moves_handover_to_newsem (start_state handover))) 1 refl (at_wait 2 refl refl)

-- The book: a reader while the writer is in, and the writer while a reader is in.
pub reader_waits_for_writer : HaltsWaiting (run [] (goes 0 ∷ []) (run [] moves_to_book (start_state colour_book))) 1
unfolding start_state run attempt reduce ℕ_discrete
reader_waits_for_writer = waiting (run [] (goes 0 ∷ []) (run [] moves_to_book (start_state colour_book))) 1 refl (at_hold 2 2 rdlock writer refl refl refl)

pub writer_waits_for_reader : HaltsWaiting (run [] (goes 1 ∷ []) (run [] moves_to_book (start_state colour_book))) 0
unfolding start_state run attempt reduce ℕ_discrete dec_lt dec_le
writer_waits_for_reader =
    waiting (run [] (goes 1 ∷ []) (run [] moves_to_book (start_state colour_book))) 0 refl (at_hold 2 2 wrlock (readers 1) refl refl refl)

-- One thread reads twice and counts twice: one hold is out, and there is one place.
pub reader_waits_for_place : HaltsWaiting (run [] moves_reads_twice (start_state reads_twice)) 0
unfolding start_state run attempt reduce ℕ_discrete dec_lt dec_le
reader_waits_for_place = waiting (run [] moves_reads_twice (start_state reads_twice)) 0 refl (at_hold 1 1 rdlock (readers 1) refl refl refl)

-- A give-back when no hold of its kind is out.
pub rdunlock_waits_for_hold : HaltsWaiting (run [] moves_gives_back (start_state (gives_back rdunlock))) 0
unfolding start_state run attempt reduce ℕ_discrete
rdunlock_waits_for_hold = waiting (run [] moves_gives_back (start_state (gives_back rdunlock))) 0 refl (at_hold 1 1 rdunlock (readers 0) refl refl refl)

pub wrunlock_waits_for_hold : HaltsWaiting (run [] moves_gives_back (start_state (gives_back wrunlock))) 0
unfolding start_state run attempt reduce ℕ_discrete
wrunlock_waits_for_hold = waiting (run [] moves_gives_back (start_state (gives_back wrunlock))) 0 refl (at_hold 1 1 wrunlock (readers 0) refl refl refl)

-- Figure 2 (b), while the spawned thread has not read: of its two threads the first has another identifier, and the second has not finished.
pub figure_2b_waits_at_join : HaltsWaiting (run [] moves2b_to_join (start_state figure2b)) 0
unfolding start_state run attempt reduce ℕ_discrete
figure_2b_waits_at_join = waiting (run [] moves2b_to_join (start_state figure2b)) 0 refl (at_join 2 refl refl none_finished)
  where
    none_finished : (j : ℕ) (u : Thread) → ThreadAt (run [] moves2b_to_join (start_state figure2b)) j u → u.tid ≡ 2 → ¬ Finished u
    none_finished zero u at_u same f = let z : ◌≡◌ {A = ℕ} 0 2 = ap (λ (x : Thread). x.tid) (some_injective at_u) ∙ same in omega (arith, z)
    none_finished (suc zero) u at_u same (finished v e) = unary_is_no_value (ap (λ (x : Thread). x.body) (some_injective at_u) ∙ e)
    none_finished (suc (suc j)) u at_u same f = none_is_not_some at_u

-- ---- `unlock` goes ahead on any lock, held or not

pub unlock_opens : (P : List Procedure) (s : State) (m : Move) (t : Thread) (n : ℕ) (l : LockState) → s.names n ≡ a_lock l →
    unary_reduct P s m t unlock (name n) ≡ Some (becomes s m t (update s.names n (a_lock opened)) zero_exp)
unlock_opens P s m t n l e = ap (λ sl. lock_state sl >> Some (becomes s m t (update s.names n (a_lock opened)) zero_exp)) e
