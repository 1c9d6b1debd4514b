-- Two threads clash exactly when one is about to write a cell that the other is about to read or write, as the calculus says it.
use Rattle.std.proofs.Common.{Option, None, Some}
use Prim.Native.Nat.{ℕ}
use mathlib.Core.Path.{◌≡◌, refl, sym, ◌∙◌, ap}
use mathlib.Core.Logic.{◌≢◌, inl, inr}
use mathlib.Core.Bool.{Bool, true, false, ◌||◌}
use borrow.Author.Tests.{eqb-true, eq-eqb}
use Rattle.spec.proofs.Clashes.{true_is_not_false}
use Rattle.calculus.specs.Expression.{Value, int, name, Unary, join, ref, read, lock, unlock, post, wait, hold, call, Redex, let_redex, if_redex, while_redex, spawn_redex, write_redex, unary_redex, nullary_redex, at_word, next_word}
use Rattle.calculus.specs.State.{Slot, unused, identifier, cell, a_lock, semaphore, rwlock, Thread, State}
use Rattle.calculus.specs.Reduction.{◌>>=◌, name_of, cell_value, word_of}
use Rattle.calculus.specs.Claim.{ThreadAt, AboutToRead, about_to_read, AboutToWrite, about_to_write, Race, race}
use Rattle.calculus.proofs.Laws.Maps.{some_injective, none_is_not_some, bind_is_some}
use Rattle.calculus.proofs.Laws.Questions.{word_tells}
use Rattle.replay_theory.specs.Run.{unary_traits, traits}
use Rattle.replay_theory.specs.LowestPair.{if_cell, Uses, uses_of, same_cell, clash}
use Rattle.replay_theory.specs.Claim.{Meet, writes_it, reads_it}
use Rattle.replay_theory.proofs.Traits.{unary_plain}

-- ---- What a thread is about to use

name_tells : (v : Value) (n : ℕ) → name_of v ≡ Some n → v ≡ name n
name_tells (int k) n h = none_is_not_some h
name_tells (name m) n h = ap name (some_injective h)

unary_reads_tells : (o : Unary) (v : Value) (n : ℕ) → (unary_traits o v).reading ≡ Some n → unary_redex o v ≡ unary_redex read (name n)
unfolding unary_traits
unary_reads_tells join v n h = none_is_not_some h
unary_reads_tells ref v n h = none_is_not_some h
unary_reads_tells read v n h = ap (unary_redex read) (name_tells v n h)
unary_reads_tells lock v n h = none_is_not_some h
unary_reads_tells unlock v n h = none_is_not_some h
unary_reads_tells post v n h = none_is_not_some h
unary_reads_tells wait v n h = none_is_not_some h
unary_reads_tells (hold w) v n h = none_is_not_some h
unary_reads_tells (call f) v n h = none_is_not_some h

reads_tells : (w : Redex) (n : ℕ) → (traits w).reading ≡ Some n → w ≡ unary_redex read (name n)
unfolding traits
reads_tells (let_redex x v e) n h = none_is_not_some h
reads_tells (if_redex e₁ e₂) n h = none_is_not_some h
reads_tells (while_redex e) n h = none_is_not_some h
reads_tells (spawn_redex v e) n h = none_is_not_some h
reads_tells (write_redex v u) n h = none_is_not_some h
reads_tells (unary_redex o v) n h = unary_reads_tells o v n h
reads_tells (nullary_redex o) n h = none_is_not_some h

writes_tells : (w : Redex) (n : ℕ) → (traits w).writing ≡ Some n → (v : Value) × (w ≡ write_redex (name n) v)
unfolding traits
writes_tells (let_redex x v e) n h = none_is_not_some h
writes_tells (if_redex e₁ e₂) n h = none_is_not_some h
writes_tells (while_redex e) n h = none_is_not_some h
writes_tells (spawn_redex v e) n h = none_is_not_some h
writes_tells (write_redex v u) n h = (u, ap (λ x. write_redex x u) (name_tells v n h))
writes_tells (unary_redex o v) n h = none_is_not_some (sym (unary_plain o v).1 ∙ h)
writes_tells (nullary_redex o) n h = none_is_not_some h

content_tells : {v : Value} (sl : Slot) → cell_value sl ≡ Some v → sl ≡ cell v
content_tells unused h = none_is_not_some h
content_tells identifier h = none_is_not_some h
content_tells (cell w) h = ap cell (some_injective h)
content_tells (a_lock l) h = none_is_not_some h
content_tells (semaphore c) h = none_is_not_some h
content_tells (rwlock N i) h = none_is_not_some h

module _ (s : State) (t : Thread) where
  abbrev pub uses : Uses
  uses = uses_of s.names (word_of (next_word t.body))

  -- The name that a test of the next word finds, if a cell has it.
  cell_found : (ask : Redex → Option ℕ) (n : ℕ) → if_cell s.names (word_of (next_word t.body) >>= ask) ≡ Some n →
      (w : Redex) × (v : Value) × (next_word t.body ≡ at_word w) × (ask w ≡ Some n) × (s.names n ≡ cell v)
  unfolding if_cell
  cell_found ask n h =
      let (m, asked, h₁) = bind_is_some (word_of (next_word t.body) >>= ask) h in
      let (v, held, h₂) = bind_is_some (cell_value (s.names m)) h₁ in
      let (w, next, h₃) = bind_is_some (word_of (next_word t.body)) asked in
      let same : m ≡ n = some_injective h₂ in
      (w, v, word_tells (next_word t.body) next, h₃ ∙ ap Some same, ap s.names (sym same) ∙ content_tells (s.names m) held)

  reading_sound : (n : ℕ) → uses.reading ≡ Some n → AboutToRead s t n
  unfolding uses_of
  reading_sound n h = let (w, v, next, asked, held) = cell_found (λ x. (traits x).reading) n h in about_to_read v held (next ∙ ap at_word (reads_tells w n asked))

  writing_sound : (n : ℕ) → uses.writing ≡ Some n → AboutToWrite s t n
  unfolding uses_of
  writing_sound n h =
      let (w, v, next, asked, held) = cell_found (λ x. (traits x).writing) n h in
      let (u, is) = writes_tells w n asked in
      about_to_write v u held (next ∙ ap at_word is)

  reading_complete : (n : ℕ) → AboutToRead s t n → uses.reading ≡ Some n
  unfolding uses_of if_cell traits unary_traits
  reading_complete n (about_to_read v held next) = rw (next, held) refl

  writing_complete : (n : ℕ) → AboutToWrite s t n → uses.writing ≡ Some n
  unfolding uses_of if_cell traits
  writing_complete n (about_to_write v u held next) = rw (next, held) refl

-- ---- Two threads that meet

same_cell_sound : (a b : Option ℕ) → same_cell a b ≡ true → (n : ℕ) × (a ≡ Some n) × (b ≡ Some n)
unfolding same_cell
same_cell_sound None b h = true_is_not_false (sym h)
same_cell_sound (Some n) None h = true_is_not_false (sym h)
same_cell_sound (Some n) (Some m) h = (n, refl, ap Some (sym (eqb-true n m h)))

same_cell_complete : (a b : Option ℕ) (n : ℕ) → a ≡ Some n → b ≡ Some n → same_cell a b ≡ true
unfolding same_cell
same_cell_complete a b n p q = rw (p, q) (eq-eqb n n refl)

pub clash_sound : (s : State) (t u : Thread) → clash (uses s t) (uses s u) ≡ true → Meet s t u
unfolding clash
clash_sound s t u = by_cases (same_cell (uses s t).writing (uses s u).reading) (same_cell (uses s t).writing (uses s u).writing) refl refl
  where
    by_cases : (a b : Bool) → same_cell (uses s t).writing (uses s u).reading ≡ a → same_cell (uses s t).writing (uses s u).writing ≡ b →
        (a || (b || same_cell (uses s t).reading (uses s u).writing)) ≡ true → Meet s t u
    by_cases true b p q h =
        let (n, x, y) = same_cell_sound (uses s t).writing (uses s u).reading p in
        writes_it n (writing_sound s t n x) (inl (reading_sound s u n y))
    by_cases false true p q h =
        let (n, x, y) = same_cell_sound (uses s t).writing (uses s u).writing q in
        writes_it n (writing_sound s t n x) (inr (writing_sound s u n y))
    by_cases false false p q h =
        let (n, x, y) = same_cell_sound (uses s t).reading (uses s u).writing h in
        reads_it n (reading_sound s t n x) (writing_sound s u n y)

pub clash_complete : (s : State) (t u : Thread) → Meet s t u → clash (uses s t) (uses s u) ≡ true
unfolding clash
clash_complete s t u (writes_it n w (inl x)) = rw (same_cell_complete _ _ n (writing_complete s t n w) (reading_complete s u n x)) refl
clash_complete s t u (writes_it n w (inr x)) =
    second (same_cell (uses s t).writing (uses s u).reading) _ _ (same_cell_complete _ _ n (writing_complete s t n w) (writing_complete s u n x))
  where
    second : (a b c : Bool) → b ≡ true → (a || (b || c)) ≡ true
    second true b c h = refl
    second false true c h = refl
    second false false c h = true_is_not_false (sym h)
clash_complete s t u (reads_it n x w) =
    third (same_cell (uses s t).writing (uses s u).reading) (same_cell (uses s t).writing (uses s u).writing) _
    (same_cell_complete _ _ n (reading_complete s t n x) (writing_complete s u n w))
  where
    third : (a b c : Bool) → c ≡ true → (a || (b || c)) ≡ true
    third true b c h = refl
    third false true c h = refl
    third false false c h = h

pub meet_is_race : (s : State) (p q : ℕ) (t u : Thread) → p ≢ q → ThreadAt s p t → ThreadAt s q u → Meet s t u → Race s
meet_is_race s p q t u d a b (writes_it n w x) = race p q n t u d a b w x
meet_is_race s p q t u d a b (reads_it n x w) = race q p n u t (λ e. d (sym e)) b a w (inl x)
