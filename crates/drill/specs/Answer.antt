-- What a drill returns.
use Rattle.std.specs.Prelude.{Bool, ◌&&◌, ℕ, leb, length, Option, None, Some}
use Rattle.spec.specs.Choice.{when◌then◌else◌}
use Rattle.drill_theory.specs.Draw.{drawn}
use Rattle.drill_theory.specs.Pair.{program_of, split_of}
use Rattle.drill.specs.declared.Drilled.{Drilled}

-- the four numbers returned: 0 or a refusal, the new x, the lengths of program and split
pub record Numbers : Type 0 where
  pub number : ℕ
  pub next : ℕ
  pub program : ℕ
  pub split : ℕ

unfoldable pub drilled_numbers : (number next program split : ℕ) → Numbers
drilled_numbers n x p s = record { number = n; next = x; program = p; split = s }

-- how an answer of the code stands for them
unfoldable pub returned_by : Option Drilled → Numbers
returned_by (Some d) = drilled_numbers 0 d.next d.program d.split
returned_by None = drilled_numbers 38 0 0 0

-- whether buffers of these lengths have room for the texts of a seed
unfoldable pub roomy : (seed program split : ℕ) → Bool
roomy seed program split = leb (length (program_of seed)) program && leb (length (split_of seed)) split

-- "On success the answer is 0, the new x and the lengths of program and split"; "38, with three zeros, if either output buffer
-- is shorter than its text"
unfoldable pub answer_of : (seed program split : ℕ) → Numbers
answer_of seed program split =
    when roomy seed program split
    then drilled_numbers 0 (drawn seed) (length (program_of seed)) (length (split_of seed))
    else drilled_numbers 38 0 0 0
