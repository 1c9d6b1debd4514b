-- Conditions judged in order.
use Rattle.std.specs.Prelude.{List, ℕ, Result}
use Rattle.spec.specs.declared.Refusal.{Refusal}
use Rattle.spec.specs.Reading.{◌>>=◌}
use Rattle.spec.specs.Conditions.{Condition}
use Rattle.spec.specs.StepContexts.{numbered, first_false}

-- the first refusal of two outcomes
unfoldable pub both : Result (Unit {0}) Refusal → Result (Unit {0}) Refusal → Result (Unit {0}) Refusal
unfolding ◌>>=◌
both a b = a >>= λ holds. b

-- the first false one of a step's conditions, which are numbered from i on
unfoldable pub first_false_from : (line i : ℕ) → List Condition → Result (Unit {0}) Refusal
unfolding numbered first_false ◌>>=◌
first_false_from line i cs = first_false (numbered line i cs)
