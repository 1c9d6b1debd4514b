-- The four numbers that filling returns: the length of the sheet that is written, or the reason why none is.
use Rattle.std.specs.Prelude.{ℕ, Result, Ok, Err}
use Rattle.spec.specs.Verdict.{numbers4, returned}
use Rattle.spec.specs.declared.Refusal.{Refusal}
use Rattle.spec.specs.declared.Returned.{Returned}
use Rattle.spec.specs.declared.Answer.TheVariants.{Refuse}

unfoldable pub returned_by : Result ℕ Refusal → Returned
returned_by (Ok length) = numbers4 0 length 0 0
returned_by (Err r) = returned (Refuse r)
