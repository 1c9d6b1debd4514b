-- Looking for something: it is found, or there is none.
use Rattle.std.specs.Prelude.{Bool, true, false, List, [], ◌∷◌, ℕ, zero, suc, ◌+◌, Option, None, Some}

infixl 1 ◌>>=◌
unfoldable pub ◌>>=◌ : {A B : Type 0} → Option A → (A → Option B) → Option B
None >>= f = None
Some a >>= f = f a

-- go on if the test holds
unfoldable pub require : Bool → Option (Unit {0})
require true = Some tt
require false = None

-- what is found for each of n numbers from l on, if something is found for all of them
unfoldable pub for_each : {A : Type 0} → (ℕ → Option A) → (l n : ℕ) → Option (List A)
for_each f l zero = Some []
for_each f l (suc n) = do
  a ← f l
  as' ← for_each f (l + 1) n
  Some (a ∷ as')
