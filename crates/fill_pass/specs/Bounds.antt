-- The most that each post may be, and what the code of the bounds asks and promises.
use Rattle.std.specs.Prelude.{◌≡◌, List, [], ◌∷◌, ◌++◌, ℕ, ◌+◌, ◌*◌, ◌≤◌, ◌<◌, min, get_or}
use Rattle.workspace.specs.Region.{Region, ChangedWithin}
use Rattle.fill_theory.specs.Flow.{taking, Flow, alone, after, in_turn, branch, loop, fork, call, steps}
use Rattle.fill_theory.specs.Pass.{back, ceiling, attainable}
use Rattle.fill_transfer.specs.declared.Column.{Column}
use Rattle.fill_theory.specs.declared.UnaryTransfer.{UnaryTransfer}
use Rattle.fill_transfer.specs.Shows.{Shows}
use Rattle.fill_transfer.specs.Bounds.{top, part_upper_bound, unary_upper_bound}

-- ------------------------------------------------------------------ the most that each post may be

-- in step order, if the flow may leave at most c
unfoldable pub upper_bounds_of : (c : ℕ) → Flow → List ℕ
upper_bounds_of c (alone E) = c ∷ []
upper_bounds_of c (after E f) = c ∷ upper_bounds_of (back E c) f
upper_bounds_of c (in_turn E f g) = c ∷ (upper_bounds_of (ceiling top (back E c) g) f ++ upper_bounds_of (back E c) g)
upper_bounds_of c (branch f g) = c ∷ (upper_bounds_of top f ++ upper_bounds_of top g)
upper_bounds_of c (loop f) = min c (min (ceiling top top f) (attainable top top top f)) ∷ upper_bounds_of top f
upper_bounds_of c (fork s k f g) = c ∷ (upper_bounds_of (back (taking s) c) f ++ upper_bounds_of top g)
upper_bounds_of c (call b d f) = c ∷ upper_bounds_of b f

-- ------------------------------------------------------------------ contracts

-- a step moves less than 2^34, so that a number with room for n steps stays below 2^63 through them
abbrev pub Room : (n x : ℕ) → Type 0
Room n x = x + 17179869184 * n ≤ 4611690416473899008

-- from step k on the work space w shows a flow of steps that there are, and m has the most that each of them may leave
pub record Bounded (w m : List ℕ) (column : Column) (k x : ℕ) : Type 0 where
  pub flow : Flow
  pub cap : ℕ
  pub shown : Shows w column k flow
  pub capped : Region m k (upper_bounds_of cap flow)
  pub inside : k + steps flow ≤ 256
  pub fits : (i : ℕ) → get_or w i 0 < 4294967296
  pub room : Room (steps flow) x

-- whichever flow is shown, what it reaches from x
pub record Reached (w m : List ℕ) (column : Column) (k x r : ℕ) : Type 0 where
  pub answers : (f : Flow) (c : ℕ) → Shows w column k f → Region m k (upper_bounds_of c f) → r ≡ attainable top x c f

-- the part of step k may be looked at from no bound
pub record PartBounded (w m : List ℕ) (column : Column) (k : ℕ) : Type 0 where
  pub inside : k < 256
  pub part : Bounded w m column (k + 1) top

-- whichever flow is shown as the part of step k
pub record OwnUpperBound (w m : List ℕ) (column : Column) (k : ℕ) (transfer : UnaryTransfer) (c first r : ℕ) : Type 0 where
  pub answers : (f : Flow) → Shows w column (k + 1) f → Region m (k + 1) (upper_bounds_of (part_upper_bound transfer c) f)
      → r ≡ unary_upper_bound transfer c first (attainable top top (part_upper_bound transfer c) f)

-- from step k on the work space shows a flow of steps that there are
pub record Cappable (w : List ℕ) (column : Column) (k c : ℕ) : Type 0 where
  pub flow : Flow
  pub shown : Shows w column k flow
  pub inside : k + steps flow ≤ 256
  pub fits : (i : ℕ) → get_or w i 0 < 4294967296
  pub room : Room (steps flow) c

-- from the caps m to m': whichever flow is shown, its caps, with its ceiling as the answer
pub record Capped (w : List ℕ) (column : Column) (k c : ℕ) (m m' : List ℕ) (r : ℕ) : Type 0 where
  pub answers : (f : Flow) → Shows w column k f → (r ≡ ceiling top c f) × Region m' k (upper_bounds_of c f)
  pub changed : (f : Flow) → Shows w column k f → ChangedWithin k (k + steps f) m m'
