-- A step that is done is the language's; and there is none exactly where no move of that thread with that choice is a reduction, whatever
-- finished thread and whatever name the move lists.
use Rattle.std.proofs.Common.{Option, None, Some, slice_get}
use Prim.Native.Nat.{ℕ}
use mathlib.Core.Path.{◌≡◌, refl, sym, ◌∙◌, ap, subst}
use mathlib.Core.Logic.{◌↔◌}
use native.Mathlib.Omega.{arith}
use Rattle.calculus.specs.Expression.{Value, int, name, Unary, join, ref, read, lock, unlock, post, wait, hold, call, Redex, let_redex, if_redex, while_redex, spawn_redex, write_redex, unary_redex, nullary_redex, next_word}
use Rattle.calculus.specs.State.{Slot, unused, Thread, State, Move}
use Rattle.calculus.specs.Reduction.{◌>>=◌, if_unused, if_identifier, if_equal, value_of, word_of, named, unary_reduct, reduct, reduce}
use Rattle.calculus.specs.Claim.{ThreadAt}
use Rattle.calculus.proofs.Laws.Maps.{some_injective, none_is_not_some, bind_is_some}
use Rattle.calculus.proofs.Laws.Questions.{equal_sound, equal_complete, word_tells}
use Rattle.replay_theory.specs.Trace.{TraceLine}
use Rattle.replay_theory.specs.Paths.{next_path}
use Rattle.replay_theory.specs.Run.{Run, place_of, part_chosen, lowest_finished, finished_for, next_name, unary_traits, traits, move_of, after, stepped}
use Rattle.replay_theory.specs.Claim.{MoveOf, LowestFinished, Reduced, LanguageStep, NoStepOf}
use Rattle.replay_theory.proofs.Lists.{there_in_both}
use Rattle.replay_theory.proofs.Proper.{Proper, Stepped, step_taken, state_after, procedures_after, step_reduces}
use Rattle.replay_theory.proofs.Order.{not_below}
use Rattle.replay_theory.proofs.Implied.{running_implied, body_implied}
use Rattle.replay_theory.proofs.Joining.{FirstFinished, first_is_there, finished_has_value, value_has_finished, finished_sound, finished_complete}

-- ---- The move that a line lists goes wherever a move of that thread with that part goes

answered : {A B : Type 0} {a : A} {x : Option B} (o : Option A) (f : A → Option B) → o ≡ Some a → f a ≡ x → (o >>= f) ≡ x
answered o f e h = ap (λ z. z >>= f) e ∙ h

unused_is_free : (sl : Slot) → sl ≡ unused → if_unused sl ≡ Some tt
unused_is_free sl e = ap if_unused e

module _ (r : Run) (proper : Proper r) (m : Move) (t : Thread) where
  abbrev listed : Redex → Move
  listed w = move_of r m.thread w m.part

  abbrev Goes : Redex → Type 0
  Goes w = (s : State) × (reduct r.procedures r.state (listed w) t w ≡ Some s)

  names_next : (w : Redex) (new : Slot) → (s : State) × (named r.state (listed w) t new ≡ Some s)
  unfolding move_of
  names_next w new = (_, answered (if_unused (r.state.names (next_name r.things))) _ (unused_is_free _ (proper.unused_from_lem (next_name r.things) (omega arith))) refl)

  joins_lowest_lem : (n : ℕ) {one : Unit {0}} → if_identifier (r.state.names n) ≡ Some one → FirstFinished n r.state.threads → Goes (unary_redex join (name n))
  unfolding move_of finished_for traits unary_traits
  joins_lowest_lem n e L =
      let (v, value) = finished_has_value (next_word L.thread.body) L.has_finished_lem in (
        _,
        answered (if_identifier (r.state.names n)) _ e
            (answered (slice_get r.state.threads (lowest_finished n r.state.threads)) _ L.there
            (answered (if_equal L.thread.tid n) _ (equal_complete L.thread.tid n L.same)
            (answered (value_of (next_word L.thread.body)) _ value refl))),
      )

  joins_too : (v : Value) (s : State) → unary_reduct r.procedures r.state m t join v ≡ Some s → Goes (unary_redex join v)
  joins_too (int k) s q = none_is_not_some q
  joins_too (name n) s q =
      let (_, e, q₁) = bind_is_some (if_identifier (r.state.names n)) q in
      let (u, there, q₂) = bind_is_some (slice_get r.state.threads m.finished) q₁ in
      let (_, same, q₃) = bind_is_some (if_equal u.tid n) q₂ in
      let (v, finished, _) = bind_is_some (value_of (next_word u.body)) q₃ in
      joins_lowest_lem n e
      (first_is_there n r.state.threads m.finished u there (equal_sound u.tid n same) (value_has_finished (next_word u.body) finished))

  unary_goes_too : (o : Unary) (v : Value) (s : State) → unary_reduct r.procedures r.state m t o v ≡ Some s → Goes (unary_redex o v)
  unfolding move_of
  unary_goes_too join v s q = joins_too v s q
  unary_goes_too ref v s q = names_next (unary_redex ref v) _
  unary_goes_too read v s q = (s, q)
  unary_goes_too lock v s q = (s, q)
  unary_goes_too unlock v s q = (s, q)
  unary_goes_too post v s q = (s, q)
  unary_goes_too wait v s q = (s, q)
  unary_goes_too (hold w) v s q = (s, q)
  unary_goes_too (call f) v s q = (s, q)

  goes_too : (w : Redex) (s : State) → reduct r.procedures r.state m t w ≡ Some s → Goes w
  unfolding move_of
  goes_too (let_redex x v e) s q = (s, q)
  goes_too (if_redex e₁ e₂) s q = (s, q)
  goes_too (while_redex e) s q = (s, q)
  goes_too (spawn_redex v e) s q = (s, q)
  goes_too (write_redex v u) s q = (s, q)
  goes_too (unary_redex o v) s q = unary_goes_too o v s q
  goes_too (nullary_redex o) s q = names_next (nullary_redex o) _

pub step_when_reduction : (r : Run) (l : TraceLine) (m : Move) (s : State) → Proper r → MoveOf r l m → reduce r.procedures r.state m ≡ Some s →
    (r' : Run) × (stepped r l ≡ Some r')
unfolding reduce stepped move_of
step_when_reduction r l m s proper of q =
    let (t, there, q₁) = bind_is_some (slice_get r.state.threads m.thread) q in
    let (w, next, q₂) = bind_is_some (word_of (next_word t.body)) q₁ in
    let (s', reduces) = goes_too r proper m t w s q₂ in
    let goes : reduce r.procedures r.state (move_of r m.thread w m.part) ≡ Some s' =
    answered (slice_get r.state.threads m.thread) _ there (answered (word_of (next_word t.body)) _ next reduces) in (
      _,
      answered (place_of l.thread r.numbers) _ of.place
          (answered (slice_get r.state.threads m.thread) _ there
          (answered (word_of (next_word t.body)) _ next
          (answered (part_chosen w l.choice) _ (of.chosen t w there next)
          (answered (reduce r.procedures r.state (move_of r m.thread w m.part)) _ goes refl)))),
    )

-- ---- A step is the language's

-- The thread that a join takes is the lowest that has finished with its identifier.
module _ {r r' : Run} {l : TraceLine} (S : Stepped r l r') where
  join_finds : (n : ℕ) → S.word ≡ unary_redex join (name n) → FirstFinished n r.state.threads
  join_finds n is =
      let m = move_of r S.place S.word S.part in
      let q = subst (λ (w : Redex). reduct r.procedures r.state m S.thread w ≡ Some S.state) is (step_reduces S) in
      let (_, _, q₁) = bind_is_some (if_identifier (r.state.names n)) q in
      let (u, there, q₂) = bind_is_some (slice_get r.state.threads m.finished) q₁ in
      let (_, same, q₃) = bind_is_some (if_equal u.tid n) q₂ in
      let (v, finished, _) = bind_is_some (value_of (next_word u.body)) q₃ in
      first_is_there n r.state.threads m.finished u there (equal_sound u.tid n same) (value_has_finished (next_word u.body) finished)

  join_lists : (n : ℕ) → S.word ≡ unary_redex join (name n) → (move_of r S.place S.word S.part).finished ≡ lowest_finished n r.state.threads
  unfolding move_of finished_for traits unary_traits
  join_lists n is = ap (λ (w : Redex). finished_for (traits w).joining r.state.threads) is

  lowest_taken : Proper r → (n : ℕ) → S.word ≡ unary_redex join (name n) → LowestFinished r n (move_of r S.place S.word S.part).finished
  lowest_taken proper n is =
      let L = join_finds n is in
      let (i, number) = there_in_both r.numbers r.state.threads (lowest_finished n r.state.threads) proper.counted L.there in
      subst (LowestFinished r n) (sym (join_lists n is)) (record {
        lowest = i;
        thread = L.thread;
        there = record { number = number; thread = L.there };
        same = L.same;
        finished = finished_sound L.thread L.has_finished_lem;
        least = λ j p t there same f. not_below r proper (lowest_finished n r.state.threads) p i j
            (L.first p t there.thread same (finished_complete t f)) number there.number;
      })

  chosen_part : (t : Thread) (w : Redex) → ThreadAt r.state S.place t → word_of (next_word t.body) ≡ Some w →
      part_chosen w l.choice ≡ Some S.part
  chosen_part t w there next =
      let same_thread : t ≡ S.thread = some_injective (sym there ∙ S.thread_there) in
      let same_word : w ≡ S.word = some_injective (sym next ∙ ap (λ (u : Thread). word_of (next_word u.body)) same_thread ∙ S.is_next) in
      ap (λ (x : Redex). part_chosen x l.choice) same_word ∙ S.chosen

  -- What the step reduces.
  abbrev pub reduced : Reduced
  reduced = record { thread = l.thread; path = next_path S.thread.body; word = S.word }

  pub step_is_the_languages : Proper r → LanguageStep r l reduced r'
  unfolding move_of after
  step_is_the_languages proper =
      let move = move_of r S.place S.word S.part in
      let next = word_tells (next_word S.thread.body) S.is_next in
      let reduces = S.reduces ∙ ap Some (state_after S) in
      let numbered = sym (ap (λ (z : Run). z.numbers) S.is_after) in
      record {
        move = move;
        listed = record { place = S.there; chosen = chosen_part };
        running = running_implied r l.thread move S.thread S.word S.there S.thread_there next;
        thread = S.thread;
        there = S.thread_there;
        taker = refl;
        next = next;
        path = refl;
        reduces = reduces;
        joins_lowest = lowest_taken proper;
        puts_body = λ f v p is called.
            body_implied r l.thread move S.thread S.word S.there S.thread_there next r' f v p reduces numbered is called;
        same_procedures = procedures_after S;
        numbered = numbered;
        counted = sym (ap (λ (z : Run). z.threads) S.is_after);
      }

-- ---- No step

-- No step exactly where no such move is a reduction.
pub no_step_exactly : (r : Run) (l : TraceLine) → Proper r → (stepped r l ≡ None) ↔ NoStepOf r l
no_step_exactly r l proper = (there, back)
  where
    there : stepped r l ≡ None → NoStepOf r l
    there q m of = by_cases (reduce r.procedures r.state m) refl
      where
        by_cases : (o : Option State) → reduce r.procedures r.state m ≡ o → o ≡ None
        by_cases None e = refl
        by_cases (Some s) e = let (r', steps) = step_when_reduction r l m s proper of e in none_is_not_some (sym q ∙ steps)

    back : NoStepOf r l → stepped r l ≡ None
    back h = by_cases (stepped r l) refl
      where
        by_cases : (o : Option Run) → stepped r l ≡ o → o ≡ None
        by_cases None e = refl
        by_cases (Some r') e =
            let step = step_is_the_languages (step_taken r r' l e) proper in
            none_is_not_some (sym (h step.move step.listed) ∙ step.reduces)
