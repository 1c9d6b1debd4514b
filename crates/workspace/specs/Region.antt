-- Lists that stand in the work space, and which part of it a call may have changed.
use Rattle.std.specs.Prelude.{◌≡◌, ◌⊎◌, List, ℕ, ◌+◌, ◌<◌, ◌≤◌, length, get_or}

-- the list xs stands in the work space w from place b on
pub record Region (w : List ℕ) (b : ℕ) (xs : List ℕ) : Type 0 where
  pub fits : b + length xs ≤ length w
  pub at : (i : ℕ) → i < length xs → get_or w (b + i) 0 ≡ get_or xs i 0

-- w' is w but for the places from a up to, not including, b
pub record ChangedWithin (a b : ℕ) (w w' : List ℕ) : Type 0 where
  pub long : length w' ≡ length w
  pub kept : (i : ℕ) → (i < a) ⊎ (b ≤ i) → get_or w' i 0 ≡ get_or w i 0
