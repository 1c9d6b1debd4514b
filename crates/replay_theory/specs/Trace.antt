-- The lines of a trace.
use Rattle.std.specs.Prelude.{ℕ, List, [], ◌∷◌, Option, None, Some}
use Rattle.spec.specs.Text.{Line, closed, unclosed, fields}
use Rattle.spec.specs.Reading.{numerals}

-- "Each trace line is `thread,choice`"
pub record TraceLine : Type 0 where
  pub thread : ℕ
  pub choice : ℕ

unfoldable pub two_numbers : List ℕ → Option TraceLine
two_numbers [] = None
two_numbers (i ∷ []) = None
two_numbers (i ∷ c ∷ []) = Some (record { thread = i; choice = c })
two_numbers (i ∷ c ∷ n ∷ ns) = None

unfoldable pub spelled : Option (List ℕ) → Option TraceLine
spelled None = None
spelled (Some ns) = two_numbers ns

-- nothing for "a line that is not two numerals parted by a comma and closed by byte 10"
unfoldable pub trace_line : Line → Option TraceLine
trace_line (closed l) = spelled (numerals (fields l))
trace_line (unclosed l) = None
