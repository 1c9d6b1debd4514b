-- The four numbers that are told, if the sheets were read.
use Rattle.std.specs.Prelude.{List, ℕ, Option, None, Some}
use Rattle.spec.specs.Verdict.{verdict, returned}
use Rattle.spec.specs.Workspace.{workspace_size}
use Rattle.spec.specs.declared.Returned.{Returned}
use Rattle.spec.specs.declared.Answer.{Answer}

-- by an answer, or by none
unfoldable pub told : Option Answer → Option Returned
told (Some a) = Some (returned a)
told None = None

-- of two files, each with its text if it was read: document 01's answer to both
unfoldable pub told_of : (program split : Option (List ℕ)) → Option Returned
told_of None s = None
told_of (Some p) None = None
told_of (Some p) (Some s) = Some (returned (verdict workspace_size p s))
