-- Request (xiii) of two texts: what is accepted takes steps on cells in either order.
use mathlib.Core.Path.{◌≡◌}
use mathlib.Core.List.{List}
use Prim.Native.Nat.{ℕ}
use Rattle.spec.specs.Verdict.{verdict}
use Rattle.spec.specs.declared.Answer.TheVariants.{Accept}
use Rattle.calculus.proofs.EitherOrder.{safe_is_in_either_order}
use Rattle.soundness.specs.Erasure.{erase_program}
use Rattle.soundness.specs.EitherOrderText.{EitherOrderText}
use Rattle.soundness.proofs.Safety.{accepted_is_safe}

pub accepted_is_in_either_order : (room : ℕ) (program_text split_text : List ℕ) → verdict room program_text split_text ≡ Accept →
    EitherOrderText program_text
accepted_is_in_either_order room program_text split_text h =
    let s = accepted_is_safe room program_text split_text h in
    record { P = s.P; program = s.program; holds = safe_is_in_either_order (erase_program s.P) s.holds }
