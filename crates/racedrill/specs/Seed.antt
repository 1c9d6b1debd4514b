-- The seed of `racedrill`: a numeral below 2^32, spelt as in the sheets.
use Rattle.std.specs.Prelude.{ℕ, ltb, Option, None, Some}
use Rattle.spec.specs.Choice.{when◌then◌else◌}
use Rattle.spec.specs.Text.{Field, numeral}

unfoldable pub seed_in : Option ℕ → Option ℕ
seed_in None = None
seed_in (Some n) = when ltb n 4294967296 then Some n else None

unfoldable pub seed_of : Field → Option ℕ
seed_of f = seed_in (numeral f)
