-- Request (xiii) of a text: steps on cells of the program that it lists may be taken in either order.
use Rattle.std.specs.Prelude.{List, ℕ}
use Rattle.calculus.specs.Claim.{InEitherOrder}
use Rattle.soundness.specs.Listed.{Listed}

abbrev pub EitherOrderText : List ℕ → Type 0
EitherOrderText text = Listed InEitherOrder text
