-- The s of a row, as its readers see it.
use Rattle.std.specs.Prelude.{ℕ}
use Rattle.spec.specs.Choice.{when◌then◌else◌}
use Rattle.spec.specs.Words.{takes_start, keeps_back}
use Rattle.spec.specs.declared.Refusal.{Refusal}
use Rattle.spec.specs.declared.Refusal.TheVariants.{NoStart, NoKept}
use Rattle.spec.specs.declared.Word.{Word}

-- how many of the maps can be the s of a step with this word
abbrev pub start_limit : Word → (maps : ℕ) → ℕ
start_limit w maps = when takes_start w then maps else 0

-- the refusal of an empty s that may not be
unfoldable pub empty_refusal : Word → (line : ℕ) → Refusal
empty_refusal w line = when keeps_back w then NoKept line else NoStart line
