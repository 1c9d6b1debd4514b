-- A short work space is refused as it is; of a longer one the first numbers are lent on and then cleared.
use mathlib.Core.Path.{refl, sym, ap, ◌∙◌}
use mathlib.Core.List.{◌++◌}
use Prim.Native.Nat.{ℕ}
use lib.ListN.{drop, replicate}
use Rattle.spec.specs.declared.Refusal.TheVariants.{ShortWorkspace}
use Rattle.workspace.specs.Layout.{work_size}
use Rattle.workspace.proofs.Lent.{short_kept, long_cleared}
use Rattle.fill_theory.proofs.Reasons.{short_workspace}
use Rattle.fill.proofs.Sound.{refusal_sound, told_as}
use Rattle.fill.proofs.Promises.{room_enough, solvable_kept, too_large_kept, greatest_kept, accepted_kept}
use Rattle.fill.proofs.fill.Goals as goal

pub returns-in_default : goal.returns-in_default
returns-in_default c =
    let short = c.in_default.ensures.cases in
    let told = told_as (sym (short_workspace _ _ c.args.program.now c.args.split.now short)) (refusal_sound ShortWorkspace c.args.out.now) in
    record {
      answer = told.numbers;
      written = told.buffer;
      cleared = short_kept _ short;
      unchanged = (refl, refl);
      solvable = solvable_kept _ _ _ _ _ _ told;
      too_large = too_large_kept _ _ _ _ _ _ told;
      greatest = greatest_kept _ _ _ _ _ _ told;
      accepted = accepted_kept _ _ _ _ _ _ told;
    }

pub returns : goal.returns
returns c =
    let enough = c.in-Some.ensures.variant.0 refl in
    let cleared = c.clear.ensures ∙ ap (λ (n : ℕ). replicate n 0) c.fill_texts-filled.array_long in
    let told = told_as (room_enough _ _ _ _ enough) c.fill_texts-filled.ensures in
    record {
      answer = told.numbers;
      written = told.buffer;
      cleared = long_cleared _ _ enough (ap (◌++ drop work_size c.args.work.now) cleared);
      unchanged = (refl, refl);
      solvable = solvable_kept _ _ _ _ _ _ told;
      too_large = too_large_kept _ _ _ _ _ _ told;
      greatest = greatest_kept _ _ _ _ _ _ told;
      accepted = accepted_kept _ _ _ _ _ _ told;
    }
