-- The other direction of progress, in any state: a thread that has finished, or waits, halts.
use Rattle.std.proofs.Common.{Option, None, Some, slice_get}
use Prim.Native.Nat.{ℕ}
use mathlib.Core.Path.{◌≡◌, refl, sym, ap, ◌∙◌}
use mathlib.Core.List.{List}
use Rattle.calculus.specs.Expression.{name, join, lock, wait, hold, Redex, at_word, next_word, Procedure}
use Rattle.calculus.specs.State.{Thread, State, Move}
use Rattle.calculus.specs.Reduction.{◌>>=◌, if_identifier, lock_state, count, rw_state, inside_after, if_equal, value_of, word_of, unary_reduct, reduct, reduce}
use Rattle.calculus.specs.Claim.{ThreadAt, Finished, finished, Waits, at_join, at_lock, at_wait, at_hold, Halts}
use Rattle.calculus.proofs.Laws.Maps.{none_is_not_some, bind_is_some, bind_goes_on}
use Rattle.calculus.proofs.Laws.NextWord.{word_injective, word_is_no_value, next_is_value}
use Rattle.calculus.proofs.Laws.Questions.{equal_sound, value_tells, word_tells}

-- What never gives an answer gives none.
no_answer : {A : Type 0} (o : Option A) → ((a : A) → o ≡ Some a → ⊥) → o ≡ None
no_answer None f = refl
no_answer (Some a) f = absurd (f a refl)

-- A thread halts when its next word, if it has one, reduces by no move, whatever the move lists.
pub stuck_halts : {t : Thread} (P : List Procedure) (s : State) (i : ℕ) → ThreadAt s i t →
    ((m : Move) (r : Redex) (s' : State) → next_word t.body ≡ at_word r → reduct P s m t r ≡ Some s' → ⊥) → Halts P s i
unfolding reduce
stuck_halts {t} P s i there stuck m e =
    ap (λ o. o >>= λ u. word_of (next_word u.body) >>= reduct P s m u) (ap (slice_get s.threads) e ∙ there)
    ∙ no_answer (word_of (next_word t.body) >>= reduct P s m t) λ s' q.
    let (r, w, q₁) = bind_is_some (word_of (next_word t.body)) q in
    stuck m r s' (word_tells (next_word t.body) w) q₁

pub finished_halts : {t : Thread} (P : List Procedure) (s : State) (i : ℕ) → ThreadAt s i t → Finished t → Halts P s i
finished_halts P s i there (finished v e) = stuck_halts P s i there λ m r s' b q. word_is_no_value b (ap next_word e)

pub waiting_halts : {t : Thread} (P : List Procedure) (s : State) (i : ℕ) → ThreadAt s i t → Waits s t → Halts P s i
waiting_halts {t} P s i there (at_join n b kind none_finished) = stuck_halts P s i there λ m r s' w q.
    let q₀ : unary_reduct P s m t join (name n) ≡ Some s' = rw (word_injective (sym w ∙ b)) at q in
    let (_, _, q₁) = bind_is_some (if_identifier (s.names n)) q₀ in
    let (u, at_u, q₂) = bind_is_some (slice_get s.threads m.finished) q₁ in
    let (_, same, q₃) = bind_is_some (if_equal u.tid n) q₂ in
    let (v, ended, _) = bind_is_some (value_of (next_word u.body)) q₃ in
    let is_v = next_is_value u.body (value_tells (next_word u.body) ended) in
    none_finished m.finished u at_u (equal_sound u.tid n same) (finished v is_v)
waiting_halts {t} P s i there (at_lock n b found) = stuck_halts P s i there λ m r s' w q.
    let q₀ : unary_reduct P s m t lock (name n) ≡ Some s' = rw (word_injective (sym w ∙ b)) at q in
    none_is_not_some (bind_goes_on (lock_state (s.names n)) _ (ap lock_state found) q₀)
waiting_halts {t} P s i there (at_wait n b found) = stuck_halts P s i there λ m r s' w q.
    let q₀ : unary_reduct P s m t wait (name n) ≡ Some s' = rw (word_injective (sym w ∙ b)) at q in
    none_is_not_some (bind_goes_on (count (s.names n)) _ (ap count found) q₀)
waiting_halts {t} P s i there (at_hold n N w inside b found stays) = stuck_halts P s i there λ m r s' e q.
    let q₀ : unary_reduct P s m t (hold w) (name n) ≡ Some s' = rw (word_injective (sym e ∙ b)) at q in
    let (_, goes, _) = bind_is_some (inside_after N w inside) (bind_goes_on (rw_state (s.names n)) _ (ap rw_state found) q₀) in
    none_is_not_some (sym stays ∙ goes)
