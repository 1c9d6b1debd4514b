-- What is claimed of a text, by what the calculus claims of a program.
use Rattle.std.specs.Prelude.{List, ℕ}
use Rattle.spec.specs.Program as sheet
use Rattle.spec.specs.WellFormed.{WellFormedProgram}
use Rattle.calculus.specs.Expression.{Program}
use Rattle.soundness.specs.Erasure.{erase_program}

-- The text lists a program, and the claim holds of it.
pub record Listed (Claim : Program → Type 0) (text : List ℕ) : Type 0 where
  pub P : sheet.Program
  pub program : WellFormedProgram text P
  pub holds : Claim (erase_program P)
