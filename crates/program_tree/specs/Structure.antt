-- Where the steps that the work space stores end.
use Rattle.std.specs.Prelude.{◌≡◌, List, [], ◌∷◌, ◌++◌, ℕ, suc, zero, ◌+◌, ◌-◌, Option, None, Some}
use Rattle.spec.specs.Expression.{Expr, size, listed}
use Rattle.spec.specs.declared.Word.{Word}
use Rattle.spec.specs.declared.Word.TheVariants.{Leaf, Unary, Binary}
use Rattle.workspace.specs.Layout.{ends_at, step_room}
use Rattle.workspace.specs.Holds.{ends}
use Rattle.workspace.specs.Region.{Region, ChangedWithin}
use Rattle.workspace.specs.Steps.{steps_from}

-- how many parts a step with this word has
abbrev pub parts_of : Word → ℕ
parts_of (Leaf w) = 0
parts_of (Unary w) = 1
parts_of (Binary w) = 2

-- the expressions that the steps from index k on list, one after the other
unfoldable pub listed_from : List ℕ → (n k : ℕ) → List Expr
listed_from w n k = listed k (steps_from w k (n - k))

-- where the first m of some expressions end, of which the first begins at index k; nowhere, if there are fewer
unfoldable pub reached : (m k : ℕ) → List Expr → Option ℕ
reached zero k es = Some k
reached (suc m) k [] = None
reached (suc m) k (e ∷ es) = reached m (k + size e) es

-- for each step of them in line order, the index just past it
unfoldable pub ends_of : (m k : ℕ) → List Expr → List ℕ
ends_of zero k es = []
ends_of (suc m) k [] = []
ends_of (suc m) k (e ∷ es) = ends k e ++ ends_of m (k + size e) es

-- what reading m steps from index k on answers, and what it leaves in the work space
pub record Ended (n m k : ℕ) (w w' : List ℕ) (r : Option ℕ) : Type 0 where
  pub answer : r ≡ reached m k (listed_from w n k)
  pub marks : Region w' (ends_at + k) (ends_of m k (listed_from w n k))
  pub changed : ChangedWithin (ends_at + k) (ends_at + step_room) w w'
