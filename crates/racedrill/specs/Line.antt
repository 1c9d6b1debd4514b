-- `DRILL,` with the new x and the lengths of program and split.
use Rattle.std.specs.Prelude.{List, [], ◌∷◌, map, ℕ}
use Rattle.spec.specs.Text.{bytes}
use Rattle.text_theory.specs.Text.{decimal, line}

unfoldable pub drill_line : (next program split : ℕ) → List ℕ
drill_line next program split = line (bytes "DRILL" ∷ map decimal (next ∷ program ∷ split ∷ [])) []
