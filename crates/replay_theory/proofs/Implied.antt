-- Two parts of a step that its other parts imply: its thread is running, and a call puts the body where it stood.
use Rattle.std.proofs.Common.{Option, Some, slice_get}
use Prim.Native.Nat.{ℕ}
use mathlib.Core.Path.{◌≡◌, refl, sym, ◌∙◌, ap, subst}
use lib.Dec.{ltb}
use lib.ListN.{set}
use Rattle.calculus.specs.Expression.{Value, call, Redex, unary_redex, at_word, next_word, plug, substitute, Procedure}
use Rattle.calculus.specs.State.{Thread, Move}
use Rattle.calculus.specs.Reduction.{◌>>=◌, word_of, becomes, reduct, reduce}
use Rattle.calculus.specs.Claim.{ThreadAt}
use Rattle.calculus.proofs.Laws.Maps.{some_injective, bind_is_some, bind_goes_on}
use Rattle.replay_theory.specs.Paths.{next_path, part_at}
use Rattle.replay_theory.specs.Run.{Run, place_of, has_finished, record_for, record_of, unary_traits, traits, effect, entries_after, numbers_after}
use Rattle.replay_theory.specs.Claim.{part_in}
use Rattle.replay_theory.specs.declared.Status.TheVariants.{Running}
use Rattle.replay_theory.proofs.Lists.{set_here}
use Rattle.replay_theory.proofs.Calls.{body_is_there}

module _ (r : Run) (i : ℕ) (m : Move) (t : Thread) (w : Redex) (place : place_of i r.numbers ≡ Some m.thread) (there : ThreadAt r.state m.thread t)
    (next : next_word t.body ≡ at_word w) where
  pub running_implied : record_of r i ≡ Some Running
  unfolding record_of record_for has_finished
  running_implied =
      ap (λ (o : Option ℕ). record_for (ltb i r.threads) (o >>= slice_get r.state.threads)) place
      ∙ ap (record_for (ltb i r.threads)) there ∙ rw next refl

  pub body_implied : (r' : Run) (f : ℕ) (v : Value) (p : Procedure) → reduce r.procedures r.state m ≡ Some r'.state →
      r'.numbers ≡ numbers_after r m (effect w) → w ≡ unary_redex (call f) v → slice_get r.procedures f ≡ Some p →
      part_in r' i (next_path t.body) ≡ Some (substitute p.parameter v p.body)
  unfolding reduce part_in unary_traits traits entries_after
  body_implied r' f v p reduces numbered is called =
      let body = substitute p.parameter v p.body in
      let moved : Thread = record { tid = t.tid; body = plug t.body body } in
      let q = subst (λ (x : Redex). reduct r.procedures r.state m t x ≡ Some r'.state) is
      (bind_goes_on (word_of (next_word t.body)) _ (ap word_of next) (bind_goes_on (slice_get r.state.threads m.thread) _ there reduces)) in
      let (p', called', q₁) = bind_is_some (slice_get r.procedures f) q in
      let one : p' ≡ p = some_injective (sym called' ∙ called) in
      let state : r'.state ≡ becomes r.state m t r.state.names body =
      sym (some_injective q₁) ∙ ap (λ (x : Procedure). becomes r.state m t r.state.names (substitute x.parameter v x.body)) one in
      let numbers : r'.numbers ≡ r.numbers = numbered ∙ ap (λ (x : Redex). numbers_after r m (effect x)) is in
      (λ z. (place_of i (numbers z) >>= slice_get (state z).threads) >>= λ u. part_at (next_path t.body) u.body)
      ∙ ap (λ (o : Option ℕ). (o >>= slice_get (set r.state.threads m.thread moved)) >>= λ u. part_at (next_path t.body) u.body) place
      ∙ ap (λ (o : Option Thread). o >>= λ u. part_at (next_path t.body) u.body) (set_here r.state.threads m.thread moved there)
      ∙ body_is_there body t.body w next
