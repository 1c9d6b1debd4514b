-- Laws of runs.
use Rattle.std.proofs.Common.{Some}
use mathlib.Core.Path.{◌≡◌, refl, ap, ◌∙◌}
use mathlib.Core.List.{List, [], ◌∷◌, ◌++◌}
use Rattle.calculus.specs.Expression.{Procedure}
use Rattle.calculus.specs.State.{State, Move}
use Rattle.calculus.specs.Reduction.{reduce, or_else, attempt, states, run}
use Rattle.calculus.specs.Claim.{Every, taking_both}
use Rattle.calculus.proofs.Laws.Maps.{bind_is_some}

module _ (P : List Procedure) where
  -- What holds of every state on the way holds of the last.
  pub last_is_on_the_way : (Q : State → Type 0) (ms : List Move) (s : State) → Every Q (states P ms s) → Q (run P ms s)
  unfolding states run
  last_is_on_the_way Q [] s h = h.0
  last_is_on_the_way Q (m ∷ ms) s h = last_is_on_the_way Q ms (attempt P s m) h.1

  pub run_of_both : (ms ns : List Move) (s : State) → run P (ms ++ ns) s ≡ run P ns (run P ms s)
  unfolding run
  run_of_both [] ns s = refl
  run_of_both (m ∷ ms) ns s = run_of_both ms ns (attempt P s m)

  -- A run whose first two moves are reductions goes on from the state after them.
  pub run_goes_on : (s s' : State) (m k : Move) (ms : List Move) → taking_both P s m k ≡ Some s' → run P (m ∷ k ∷ ms) s ≡ run P ms s'
  unfolding run attempt
  run_goes_on s s' m k ms q =
      let (s₁, e, q₁) = bind_is_some (reduce P s m) q in
      ap (λ o. run P ms (or_else (reduce P (or_else o s) k) (or_else o s))) e ∙ ap (λ o. run P ms (or_else o s₁)) q₁
