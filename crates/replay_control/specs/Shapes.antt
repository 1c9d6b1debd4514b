-- The shapes of steps: how their words are evaluated.
use Rattle.std.specs.Prelude.{ℕ, ◌+◌, Bool, true, false, List, get_or}
use Rattle.workspace.specs.Layout.{words_at, rule_of, shape_of}
use Rattle.workspace.specs.declared.Shape.{Shape}
use Rattle.workspace.specs.declared.Shape.TheVariants.{If, Write}

-- the shape of step k
unfoldable pub shape_at : (p : List ℕ) (k : ℕ) → Shape
shape_at p k = shape_of (rule_of (get_or p (words_at + k) 0))

unfoldable pub is_write : Shape → Bool
is_write Write = true
is_write x = false

unfoldable pub is_if : Shape → Bool
is_if If = true
is_if x = false
