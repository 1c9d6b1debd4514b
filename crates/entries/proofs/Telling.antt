-- What the numbers that are stored of a replay promise.
use Rattle.std.proofs.Common.{None}
use Prim.Native.Nat.{ℕ}
use mathlib.Core.Path.{◌≡◌, sym, ◌∙◌, ap, subst}
use mathlib.Core.List.{List}
use Rattle.spec.specs.Verdict.{verdict}
use Rattle.spec.specs.declared.Answer.TheVariants.{Accept}
use Rattle.spec.specs.declared.Refusal.TheVariants.{ShortWorkspace}
use Rattle.replay_theory.specs.declared.Numbers.{Numbers}
use Rattle.replay_theory.specs.Replay.{replay, refused, returned_for}
use Rattle.replay_theory.specs.Claim.{TraceFollowed, RaceFound}
use Rattle.replay_theory.proofs.Reported.{trace_is_followed, race_is_found, none_if_accepted}
use Rattle.replay_answers.specs.declared.RaceNumbers.{RaceNumbers}
use Rattle.replay_answers.specs.Numbers.{answer_told, race_told, race_numbers, Stored}
use Rattle.replay_kept.specs.declared.numbers.Told.{Told}
use Rattle.replay_kept.specs.Kept.{told_numbers}

-- The four numbers of the answer, the steps and the three numbers of the race are those of what is told.
module _ {t : Told} {a : Numbers} {steps state first second : ℕ} (S : (a ≡ t.ending) × (steps ≡ t.steps) × (race_told state first second ≡ t.race)) where
  module _ (room : ℕ) (program trace : List ℕ) (e : t ≡ told_numbers (replay room program trace)) where
    pub answers : a ≡ returned_for (replay room program trace).ending
    unfolding told_numbers
    answers = S.0 ∙ ap (λ (x : Told). x.ending) e

    pub reports : (steps ≡ (replay room program trace).report.steps) × (race_told state first second ≡ race_numbers (replay room program trace).report.race)
    unfolding told_numbers
    reports = (S.1 ∙ ap (λ (x : Told). x.steps) e, S.2 ∙ ap (λ (x : Told). x.race) e)

    pub stops : TraceFollowed room program trace steps a
    stops = rw (reports.0, answers) (trace_is_followed room program trace)

    pub first_race : Stored (RaceFound room program trace) state first second
    first_race = record { race = _; told = reports.1; holds = race_is_found room program trace }

    pub safe : (other : ℕ) (split : List ℕ) → verdict other program split ≡ Accept → race_told state first second ≡ race_numbers None
    safe other split accepted = reports.1 ∙ ap race_numbers (none_if_accepted room program trace other split accepted)

  pub short_told : t ≡ told_numbers (refused ShortWorkspace) → (a ≡ returned_for (refused ShortWorkspace).ending) × (steps ≡ 0) × (race_told state first second ≡ race_numbers None)
  unfolding told_numbers refused
  short_told e = (S.0 ∙ ap (λ (x : Told). x.ending) e, S.1 ∙ ap (λ (x : Told). x.steps) e, S.2 ∙ ap (λ (x : Told). x.race) e)
