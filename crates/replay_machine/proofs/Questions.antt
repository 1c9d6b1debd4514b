-- Chains of questions that are asked alike come to alike answers.
use Rattle.std.proofs.Common.{Option, None, Some, option_map}
use mathlib.Core.Path.{◌≡◌, refl}
use Rattle.calculus.specs.Reduction.{◌>>=◌}

-- h of what one chain comes to is what the other does, if it is so after the first answer.
pub asks : {A B C : Type 0} (h : B → C) (o : Option A) (f : A → Option C) (g : A → Option B) → ((a : A) → o ≡ Some a → f a ≡ option_map h (g a)) →
    (o >>= f) ≡ option_map h (o >>= g)
asks h None f g alike = refl
asks h (Some a) f g alike = alike a refl
