-- A short work space is refused as it is; of a longer one the first numbers are lent on and then cleared.
use Rattle.std.proofs.Common.{◌≡◌, ℕ, ◌++◌, drop, replicate, refl, sym, ap, ◌∙◌}
use Rattle.spec.proofs.Reasons.{short_workspace}
use Rattle.workspace.specs.Layout.{work_size}
use Rattle.workspace.proofs.Lent.{short_kept, long_cleared}
use Rattle.checker.proofs.Promises.{promises_kept}
use Rattle.checker.proofs.Stages.{room_enough}
use Rattle.checker.proofs.check.Goals as goal

pub returns-in_default : goal.returns-in_default
returns-in_default c =
    let program = c.args.program.now in
    let split = c.args.split.now in
    let short = c.in_default.ensures.cases in
    let (answer, (cleared, (unchanged, (derivation, (first_false, (safe, either_order)))))) =
    promises_kept {U = (program ≡ program) × (split ≡ split)} c.args.work.now c.args.work.now program split _
    (sym (short_workspace _ _ _ short)) (short_kept _ short) (refl, refl) in
    record {
      answer = answer;
      cleared = cleared;
      unchanged = unchanged;
      derivation = derivation;
      first_false = first_false;
      safe = safe;
      either_order = either_order;
    }

pub returns : goal.returns
returns c =
    let program = c.args.program.now in
    let split = c.args.split.now in
    let enough = c.in-Some.ensures.variant.0 refl in
    let empty = c.clear.ensures ∙ ap (λ (n : ℕ). replicate n 0) c.check_texts-outcome.array_long in
    let (answer, (cleared, (unchanged, (derivation, (first_false, (safe, either_order)))))) =
    promises_kept {U = (program ≡ program) × (split ≡ split)} c.args.work.now _ program split _
    (c.answer.ensures ∙ c.check_texts-outcome.ensures ∙ room_enough _ _ _ enough)
    (long_cleared _ _ enough (ap (◌++ drop work_size c.args.work.now) empty))
    (refl, refl) in
    record {
      answer = answer;
      cleared = cleared;
      unchanged = unchanged;
      derivation = derivation;
      first_false = first_false;
      safe = safe;
      either_order = either_order;
    }
