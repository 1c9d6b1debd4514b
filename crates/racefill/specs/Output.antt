-- What is written to standard output.
use Rattle.std.specs.Prelude.{List, ℕ, Option, None, Some, Result, Ok, Err}
use Rattle.spec.specs.declared.Refusal.{Refusal}
use Rattle.spec.specs.Split.{split_limit}
use Rattle.spec.specs.Workspace.{workspace_size}
use Rattle.spec.specs.declared.Answer.TheVariants.{Refuse}
use Rattle.answers.specs.Line.{output_line}
use Rattle.fill_theory.specs.Answer.{fill}

-- the whole sheet, or the line of a refusal
unfoldable pub output_of : Result (List ℕ) Refusal → List ℕ
output_of (Err r) = output_line (Some (Refuse r))
output_of (Ok text) = text

-- for two files, each with its text if it was read
unfoldable pub output_for : (program split : Option (List ℕ)) → List ℕ
output_for None s = output_line None
output_for (Some p) None = output_line None
output_for (Some p) (Some s) = output_of (fill workspace_size split_limit p s)
