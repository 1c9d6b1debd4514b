-- The number after a step, by its transfer function, from those that its parts leave.
use Rattle.std.specs.Prelude.{ℕ, min, leb, eqb, Option, Some}
use Rattle.fill_theory.specs.Found.{◌>>=◌, require}
use Rattle.fill_theory.specs.Flow.{taking}
use Rattle.fill_theory.specs.Pass.{apply}
use Rattle.fill_theory.specs.declared.UnaryTransfer.{UnaryTransfer}
use Rattle.fill_theory.specs.declared.UnaryTransfer.TheVariants.{After, Loop, Call}
use Rattle.fill_theory.specs.declared.BinaryTransfer.{BinaryTransfer}
use Rattle.fill_theory.specs.declared.BinaryTransfer.TheVariants.{InTurn, Branch, Fork}

-- ------------------------------------------------------------------ a step after its parts

-- the number before the part of a step whose post may be at most `cap`
unfoldable pub part_pre : UnaryTransfer → (pre cap : ℕ) → ℕ
part_pre (After E) pre cap = pre
part_pre Loop pre cap = min pre cap
part_pre (Call wanted left) pre cap = pre

-- the number after a step with one part, which starts with `before` and ends with `first`
unfoldable pub after_unary : UnaryTransfer → (before first : ℕ) → Option ℕ
after_unary (After E) before first = apply E first
after_unary Loop before first = require (leb before first) >>= λ kept. Some before
after_unary (Call wanted left) before first = require (eqb first wanted) >>= λ exact. Some left

-- the number before the second part
unfoldable pub second_pre : BinaryTransfer → (pre first : ℕ) → ℕ
second_pre (InTurn E) pre first = first
second_pre Branch pre first = pre
second_pre (Fork start due) pre first = start

-- the number after a step with two parts, which end with `first` and `last`, if it may be at most `cap`
unfoldable pub after_binary : BinaryTransfer → (cap first last : ℕ) → Option ℕ
after_binary (InTurn E) cap first last = apply E last
after_binary Branch cap first last = Some (min cap (min first last))
after_binary (Fork start due) cap first last = require (leb due last) >>= λ paid. apply (taking start) first
