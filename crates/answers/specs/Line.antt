-- The line of document 01 for each outcome of a run: an answer, or none where the sheets can't be read.
use Rattle.std.specs.Prelude.{List, [], ◌∷◌, map, ℕ, Option, None, Some}
use Rattle.spec.specs.Text.{bytes}
use Rattle.spec.specs.Verdict.{returned}
use Rattle.spec.specs.declared.Returned.{Returned}
use Rattle.spec.specs.declared.Answer.{Answer}
use Rattle.spec.specs.declared.Answer.TheVariants.{Accept, Refuse}
use Rattle.text_theory.specs.Text.{decimal, line}

-- `REFUSE,` and four numbers
unfoldable pub refusal_line : Returned → List ℕ
refusal_line r = line (bytes "REFUSE" ∷ map decimal (r.number ∷ r.line ∷ r.condition ∷ r.location ∷ [])) []

unfoldable pub answer_line : Answer → List ℕ
answer_line Accept = line (bytes "ACCEPT" ∷ []) []
answer_line (Refuse r) = refusal_line (returned (Refuse r))

unfoldable pub output_line : Option Answer → List ℕ
output_line (Some a) = answer_line a
output_line None = line (bytes "UNREAD" ∷ []) []
