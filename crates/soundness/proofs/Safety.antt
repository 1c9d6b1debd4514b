-- Demand 3 of two texts: what is accepted is safe.
use mathlib.Core.Path.{◌≡◌}
use mathlib.Core.List.{List}
use Prim.Native.Nat.{ℕ}
use Rattle.spec.specs.Verdict.{verdict}
use Rattle.spec.specs.Accepted.{Right}
use Rattle.spec.specs.declared.Answer.TheVariants.{Accept}
use Rattle.spec.proofs.Accepted.{accepted_is_right}
use Rattle.spec.proofs.Ranges.{well_formed_in_range}
use Rattle.calculus.proofs.Safety.{derived_is_safe}
use Rattle.soundness.specs.SafeText.{SafeText}
use Rattle.soundness.proofs.Capabilities.{at_most_cap}
use Rattle.soundness.proofs.Bodies.{program_derivation_is_figure_5}

-- a pair that is right lists a safe program: its split's derivation is one of Figure 5, and what Figure 5 derives is safe
pub right_is_safe : (program_text split_text : List ℕ) → Right program_text split_text → SafeText program_text
right_is_safe program_text split_text r =
    let j = r.judgeable in
    let R = well_formed_in_range j.sheets.split in
    let derivation = program_derivation_is_figure_5 r.S R j.locks r.bodies r.derives j.sheets.program.used_inside in
    record {
      P = r.P;
      program = j.sheets.program;
      holds = derived_is_safe R.denominator.0 derivation (at_most_cap j.at_most_one);
    }

pub accepted_is_safe : (room : ℕ) (program_text split_text : List ℕ) → verdict room program_text split_text ≡ Accept → SafeText program_text
accepted_is_safe room program_text split_text h = right_is_safe program_text split_text (accepted_is_right room program_text split_text h)
