-- All that a word says of the number v of its step.
use Rattle.std.specs.Prelude.{ℕ}
use Rattle.spec.specs.Words.{role, least_value, largest_value}
use Rattle.spec.specs.declared.Role.{Role}
use Rattle.spec.specs.declared.Word.{Word}
use Rattle.keywords.specs.declared.numbers.Number.{Number}

abbrev pub numbered : Role → (least largest : ℕ) → Number
numbered r m n = record { role = r; least = m; largest = n }

abbrev pub number_of : Word → Number
number_of w = numbered (role w) (least_value w) (largest_value w)
