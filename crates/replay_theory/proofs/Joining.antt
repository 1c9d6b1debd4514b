-- "Among several finished threads a join takes the lowest": what stands at the place that is found.
use Rattle.std.proofs.Common.{Some, slice_get}
use Prim.Native.Nat.{ℕ, zero, suc, ◌≤◌}
use mathlib.Core.Path.{◌≡◌, refl, sym, ◌∙◌, ap}
use mathlib.Core.Bool.{Bool, true, false, ◌&&◌}
use mathlib.Core.List.{List, [], ◌∷◌}
use native.Mathlib.Omega.{arith}
use lib.Dec.{eqb}
use borrow.Author.Tests.{eqb-true, eq-eqb}
use Rattle.spec.specs.Choice.{when◌then◌else◌}
use Rattle.spec.proofs.Clashes.{true_is_not_false}
use Rattle.spec.proofs.Tests.{both_true}
use Rattle.calculus.specs.Expression.{Value, Next, is_value, at_variable, at_word, next_word}
use Rattle.calculus.specs.State.{Thread}
use Rattle.calculus.specs.Reduction.{value_of}
use Rattle.calculus.specs.Claim.{Finished, finished}
use Rattle.calculus.proofs.Laws.Maps.{some_injective, none_is_not_some}
use Rattle.calculus.proofs.Laws.Questions.{value_tells}
use Rattle.calculus.proofs.Laws.NextWord.{next_is_value}
use Rattle.replay_theory.specs.Run.{has_finished, lowest_finished}

-- ---- Finished threads

pub finished_has_value : (q : Next) → has_finished q ≡ true → (v : Value) × (value_of q ≡ Some v)
unfolding has_finished
finished_has_value (is_value v) h = (v, refl)
finished_has_value (at_variable x) h = true_is_not_false (sym h)
finished_has_value (at_word w) h = true_is_not_false (sym h)

pub value_has_finished : {v : Value} (q : Next) → value_of q ≡ Some v → has_finished q ≡ true
unfolding has_finished
value_has_finished (is_value v) h = refl
value_has_finished (at_variable x) h = none_is_not_some h
value_has_finished (at_word w) h = none_is_not_some h

-- The test is the calculus's "A thread has finished when its expression is a value".
pub finished_sound : (t : Thread) → has_finished (next_word t.body) ≡ true → Finished t
finished_sound t h =
    let (v, q) = finished_has_value (next_word t.body) h in finished v (next_is_value t.body (value_tells (next_word t.body) q))

pub finished_complete : (t : Thread) → Finished t → has_finished (next_word t.body) ≡ true
finished_complete t (finished v e) = value_has_finished (next_word t.body) (ap (λ b. value_of (next_word b)) e)

-- ---- The first place of a finished thread with an identifier

-- The thread at the place found has finished and has the identifier, and at no place before it is there such a thread.
pub record FirstFinished (n : ℕ) (ts : List Thread) : Type 0 where
  pub thread : Thread
  pub there : slice_get ts (lowest_finished n ts) ≡ Some thread
  pub same : thread.tid ≡ n
  pub has_finished_lem : has_finished (next_word thread.body) ≡ true
  pub first : (p : ℕ) (t : Thread) → slice_get ts p ≡ Some t → t.tid ≡ n → has_finished (next_word t.body) ≡ true → lowest_finished n ts ≤ p

asked : ℕ → Thread → Bool
asked n t = eqb t.tid n && has_finished (next_word t.body)

asked_of : (n : ℕ) (t : Thread) → t.tid ≡ n → has_finished (next_word t.body) ≡ true → asked n t ≡ true
unfolding asked
asked_of n t p q = rw (eq-eqb t.tid n p, q) refl

place_past : ℕ → Bool → ℕ
place_past k b = when b then 0 else suc k

-- One such thread is enough for the first to be found.
pub first_is_there : (n : ℕ) (ts : List Thread) (q : ℕ) (u : Thread) → slice_get ts q ≡ Some u → u.tid ≡ n →
    has_finished (next_word u.body) ≡ true → FirstFinished n ts
unfolding lowest_finished asked place_past
first_is_there n [] q u h e f = none_is_not_some h
first_is_there n (t ∷ ts) q u h e f = by_cases (asked n t) refl q h (λ k z. first_is_there n ts k u z e f)
  where
    place_is : (b : Bool) → asked n t ≡ b → lowest_finished n (t ∷ ts) ≡ place_past (lowest_finished n ts) b
    place_is b is = ap (place_past (lowest_finished n ts)) is

    not_first : (v : Thread) → asked n t ≡ false → slice_get (t ∷ ts) 0 ≡ Some v → v.tid ≡ n → has_finished (next_word v.body) ≡ true → ⊥
    not_first v is z p w = true_is_not_false (sym (asked_of n v p w) ∙ ap (asked n) (sym (some_injective z)) ∙ is)

    no_lower : asked n t ≡ false → FirstFinished n ts → (p : ℕ) (v : Thread) → slice_get (t ∷ ts) p ≡ Some v → v.tid ≡ n →
        has_finished (next_word v.body) ≡ true → lowest_finished n (t ∷ ts) ≤ p
    no_lower is L zero v z s w = absurd (not_first v is z s w)
    no_lower is L (suc p) v z s w = let at = place_is false is in let below = L.first p v z s w in omega (arith, at, below)

    by_cases : (b : Bool) → asked n t ≡ b → (k : ℕ) → slice_get (t ∷ ts) k ≡ Some u → ((j : ℕ) → slice_get ts j ≡ Some u → FirstFinished n ts) →
        FirstFinished n (t ∷ ts)
    by_cases true is k z later =
        let both = both_true (eqb t.tid n) (has_finished (next_word t.body)) is in
        record {
          thread = t;
          there = ap (slice_get (t ∷ ts)) (place_is true is);
          same = eqb-true t.tid n both.0;
          has_finished_lem = both.1;
          first = λ p v y s w. let at = place_is true is in omega (arith, at);
        }
    by_cases false is zero z later = absurd (not_first u is z e f)
    by_cases false is (suc k) z later =
        let L = later k z in
        record {
          thread = L.thread;
          there = ap (slice_get (t ∷ ts)) (place_is false is) ∙ L.there;
          same = L.same;
          has_finished_lem = L.has_finished_lem;
          first = no_lower is L;
        }
