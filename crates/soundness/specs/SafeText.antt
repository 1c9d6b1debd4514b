-- Demand 3 of a text: the program that it lists is safe, for every list of moves.
use Rattle.std.specs.Prelude.{List, ℕ}
use Rattle.calculus.specs.Claim.{Safe}
use Rattle.soundness.specs.Listed.{Listed}

abbrev pub SafeText : List ℕ → Type 0
SafeText text = Listed Safe text
