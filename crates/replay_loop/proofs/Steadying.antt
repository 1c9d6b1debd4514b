-- A line that goes on leaves a point further in the piece, whose counts still have room, whatever the numbers hold.
use Rattle.std.proofs.Common.{Option, None, Some, Result, Ok, Err}
use Rattle.std.specs.Prelude.{IfOk}
use Prim.Native.Nat.{ℕ, ◌-◌, ◌<◌, ◌≤◌}
use mathlib.Core.Path.{◌≡◌, refl, subst}
use mathlib.Core.List.{List, [], ◌∷◌}
use native.Mathlib.Omega.{arith}
use lib.ListN.{length, drop}
use Rattle.spec.specs.Text.{Field}
use Rattle.spec.specs.Reading.{numerals}
use Rattle.lexer.specs.Views.{line_at}
use Rattle.lexer.specs.Numbers.{stored}
use Rattle.trace.specs.Lines.{move_in, move_of}
use Rattle.replay_engine.specs.declared.Halted.{Halted}
use Rattle.replay_engine.specs.Steps.{stepped}
use Rattle.threads.specs.declared.Threads.{Threads}
use Rattle.replay_simulation.proofs.Resting.{rest_at}
use Rattle.replay_loop.specs.declared.Point.{Point}
use Rattle.replay_loop.specs.Play.{stopped_by, by_outcome, after_step, line_done, Steady}
use Rattle.replay_theory.specs.declared.Ending.{Ending}
use Rattle.replay_engine.proofs.Counting.{stepped_few_on_ok}

-- what is owed of a point behind a line, by whether it goes on
abbrev Onward : Option Ending → (piece : List ℕ) → (before after : Point) → Type 0
Onward (Some e) piece q q' = Unit {0}
Onward None piece q q' = Steady piece q' × (q.at < q'.at)

abbrev Leads : (piece : List ℕ) → (before : Point) → Point × List ℕ → Type 0
Leads piece q r = Onward r.0.ending piece q r.0

module _ (p s piece : List ℕ) (q : Point) (S : Steady piece q) where
  by_outcome_lem : (o : Result Threads Halted) (s' : List ℕ) (next : ℕ) → IfOk o (λ T. T.count ≤ 16) → q.at < next → next ≤ length piece → Leads piece q (by_outcome o p s' q next, s')
  unfolding by_outcome stopped_by
  by_outcome_lem (Ok T) s' next few further low =
      let b = S.room in
      (record { in_piece = low; room = omega (arith, b, further, low); few = few }, further)
  by_outcome_lem (Err h) s' next few further low = tt

  by_step : (r : Result Threads Halted × List ℕ) (next : ℕ) → IfOk r.0 (λ T. T.count ≤ 16) → q.at < next → next ≤ length piece → Leads piece q (after_step p q next r)
  unfolding after_step
  by_step (r, s') next few further low = by_outcome_lem r s' next few further low

  by_numbers : (o : Option (List ℕ)) (next : ℕ) → q.at < next → next ≤ length piece → Leads piece q (line_done p s q (move_of o next))
  unfolding line_done move_of stopped_by
  by_numbers None next further low = tt
  by_numbers (Some []) next further low = tt
  by_numbers (Some (t ∷ [])) next further low = tt
  by_numbers (Some (t ∷ c ∷ [])) next further low =
      by_step (stepped p s q.threads (stored t) (stored c)) next (stepped_few_on_ok p s q.threads (stored t) (stored c) S.few) further low
  by_numbers (Some (t ∷ c ∷ x ∷ xs)) next further low = tt

  line_leads : Leads piece q (line_done p s q (move_in (length piece) (line_at (drop q.at piece))))
  unfolding line_done move_in stopped_by
  line_leads = by_line_lem (line_at (drop q.at piece)) refl
    where
      by_line_lem : (o : Option (List Field × List ℕ)) → line_at (drop q.at piece) ≡ o → Leads piece q (line_done p s q (move_in (length piece) o))
      by_line_lem None e = tt
      by_line_lem (Some (fs, r)) e =
          let rest = rest_at piece q.at fs r S.in_piece e in
          by_numbers (numerals fs) (length piece - length r) rest.further rest.in_text_lem

  pub line_steady : {q' : Point} {s' : List ℕ} → line_done p s q (move_in (length piece) (line_at (drop q.at piece))) ≡ (q', s') → q'.ending ≡ None → Steady piece q' × (q.at < q'.at)
  line_steady {q'} {s'} e z = subst (λ (x : Option Ending). Onward x piece q q') z (subst (Leads piece q) e line_leads)

pub may_go : (piece : List ℕ) (q : Point) → Steady piece q → q.at < length piece → (q.at ≤ length piece) × (q.steps < 18446744073709551615) × (q.threads.count ≤ 16)
may_go piece q S h = (S.in_piece, let b = S.room in omega (arith, b, h), S.few)
