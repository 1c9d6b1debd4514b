-- An answer that is the verdict keeps every promise of the offered call.
use mathlib.Core.Path.{◌≡◌, refl, ap, sym, ◌∙◌}
use mathlib.Core.Logic.{◌↔◌}
use mathlib.Core.List.{List}
use mathlib.Core.Bool.{true}
use Prim.Native.Nat.{ℕ, ◌≤◌}
use native.Mathlib.Omega.{arith}
use Rattle.spec.specs.Verdict.{verdict, returned, numbers4, on_conditions}
use lib.ListN.{length}
use Rattle.spec.specs.Workspace.{workspace_size, workspace_after}
use Rattle.spec.specs.Accepted.{Right}
use Rattle.spec.specs.declared.Answer.{Answer}
use Rattle.spec.specs.declared.Answer.TheVariants.{Accept, Refuse}
use Rattle.spec.proofs.Clashes.{true_is_not_false}
use Rattle.spec.proofs.Accepted.{accepted_is_right, right_is_accepted}
use Rattle.spec.proofs.FirstFalse.{refusal_names_first_false}
use Rattle.spec.proofs.Refusals.{refusal_number}
use Rattle.soundness.specs.SafeText.{SafeText}
use Rattle.soundness.specs.EitherOrderText.{EitherOrderText}
use Rattle.soundness.proofs.Safety.{accepted_is_safe}
use Rattle.soundness.proofs.EitherOrder.{accepted_is_in_either_order}
use Rattle.checker.specs.Promise.{RefutedBy}

-- 0,0,0,0 is returned for Accept alone
pub zeros_accept : (a : Answer) → returned a ≡ numbers4 0 0 0 0 → a ≡ Accept
unfolding numbers4
zeros_accept Accept h = refl
zeros_accept (Refuse r) h = absurd (omega (arith, refusal_number r, ap (λ n. n.number) h))

module _ (room : ℕ) (p s : List ℕ) (a : Answer) (verdicts : a ≡ verdict room p s) where
  accepts : returned a ≡ numbers4 0 0 0 0 → verdict room p s ≡ Accept
  accepts h = sym verdicts ∙ zeros_accept a h

  pub answer_kept : returned a ≡ returned (verdict room p s)
  answer_kept = ap returned verdicts

  pub derivation_kept : workspace_size ≤ room → (returned a ≡ numbers4 0 0 0 0) ↔ Right p s
  unfolding returned
  derivation_kept enough =
      ((λ h. accepted_is_right room p s (accepts h)), (λ r. ap returned (verdicts ∙ right_is_accepted room p s enough r)))

  pub first_false_kept : on_conditions (returned a).number ≡ true → RefutedBy p s a
  unfolding returned numbers4 on_conditions
  first_false_kept = by_cases a verdicts
    where
      by_cases : (b : Answer) → b ≡ verdict room p s → on_conditions (returned b).number ≡ true → RefutedBy p s b
      by_cases Accept e h = true_is_not_false (sym h)
      by_cases (Refuse r) e h = record { refusal = r; numbers = refl; refuted = refusal_names_first_false room p s r (sym e) h }

  pub safe_kept : returned a ≡ numbers4 0 0 0 0 → SafeText p
  safe_kept h = accepted_is_safe room p s (accepts h)

  pub either_order_kept : returned a ≡ numbers4 0 0 0 0 → EitherOrderText p
  either_order_kept h = accepted_is_in_either_order room p s (accepts h)

-- every promise of the offered call, in the order of its clauses; U is that of the texts, which are lent unchanged
pub promises_kept : {U : Type 0} (w w' p s : List ℕ) (a : Answer) → a ≡ verdict (length w) p s → w' ≡ workspace_after w → U
    → (returned a ≡ returned (verdict (length w) p s))
    × ((w' ≡ workspace_after w)
    × (U
    × ((workspace_size ≤ length w → (returned a ≡ numbers4 0 0 0 0) ↔ Right p s)
    × ((on_conditions (returned a).number ≡ true → RefutedBy p s a)
    × ((returned a ≡ numbers4 0 0 0 0 → SafeText p)
    × (returned a ≡ numbers4 0 0 0 0 → EitherOrderText p))))))
promises_kept w w' p s a v c u =
    let room = length w in
    let derivation = derivation_kept room p s a v in
    let first_false = first_false_kept room p s a v in
    let safe = safe_kept room p s a v in
    let either_order = either_order_kept room p s a v in
    (answer_kept room p s a v, (c, (u, (derivation, (first_false, (safe, either_order))))))
