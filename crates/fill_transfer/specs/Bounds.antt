-- The bounds of a step by its transfer function: from the most that its post may be to those of its parts, and from what its parts can start with to
-- what it can.
use Rattle.std.specs.Prelude.{ℕ, min}
use Rattle.fill_theory.specs.Flow.{taking}
use Rattle.fill_theory.specs.Pass.{forth, back}
use Rattle.fill_theory.specs.declared.UnaryTransfer.{UnaryTransfer}
use Rattle.fill_theory.specs.declared.UnaryTransfer.TheVariants.{After, Loop, Call}
use Rattle.fill_theory.specs.declared.BinaryTransfer.{BinaryTransfer}
use Rattle.fill_theory.specs.declared.BinaryTransfer.TheVariants.{InTurn, Branch, Fork}

-- no bound: 2^62, more than any post can be
unfoldable pub top : ℕ
top = 4611686018427387904

-- ------------------------------------------------------------------ a step and its parts

-- the most that the parts of a step may leave, if it may leave at most c; for the first of two, if the second may start with at most `last`
unfoldable pub part_upper_bound : UnaryTransfer → (c : ℕ) → ℕ
part_upper_bound (After E) c = back E c
part_upper_bound Loop c = top
part_upper_bound (Call wanted left) c = wanted

unfoldable pub last_upper_bound : BinaryTransfer → (c : ℕ) → ℕ
last_upper_bound (InTurn E) c = back E c
last_upper_bound Branch c = top
last_upper_bound (Fork start due) c = top

unfoldable pub first_upper_bound : BinaryTransfer → (c last : ℕ) → ℕ
first_upper_bound (InTurn E) c last = last
first_upper_bound Branch c last = top
first_upper_bound (Fork start due) c last = back (taking start) c

-- the most that a step may leave, if its part may start with at most `first` and can leave `leaves`
unfoldable pub unary_upper_bound : UnaryTransfer → (c first leaves : ℕ) → ℕ
unary_upper_bound (After E) c first leaves = c
unary_upper_bound Loop c first leaves = min c (min first leaves)
unary_upper_bound (Call wanted left) c first leaves = c

-- the most that a step may start with, if its parts may start with at most `first` and `last`
unfoldable pub unary_ceiling : UnaryTransfer → (first : ℕ) → ℕ
unary_ceiling (After E) first = first
unary_ceiling Loop first = top
unary_ceiling (Call wanted left) first = first

unfoldable pub binary_ceiling : BinaryTransfer → (first last : ℕ) → ℕ
binary_ceiling (InTurn E) first last = first
binary_ceiling Branch first last = min first last
binary_ceiling (Fork start due) first last = first

-- the most that a step can leave from x, if it may leave at most `cap` and its parts can leave `first` and `last`
unfoldable pub unary_attainable : UnaryTransfer → (x cap first : ℕ) → ℕ
unary_attainable (After E) x cap first = forth E first
unary_attainable Loop x cap first = min x cap
unary_attainable (Call wanted left) x cap first = left

unfoldable pub binary_attainable : BinaryTransfer → (cap first last : ℕ) → ℕ
binary_attainable (InTurn E) cap first last = forth E last
binary_attainable Branch cap first last = min cap (min first last)
binary_attainable (Fork start due) cap first last = forth (taking start) first
