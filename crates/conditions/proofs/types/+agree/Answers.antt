use Rattle.std.proofs.Common.{arith}
use Rattle.spec.specs.Kinds.{same_kind, is}
use Rattle.conditions.proofs.Agreement.{plain_agree, refs_by_contents}
use Rattle.conditions.proofs.types.+agree.Goals as goal

pub returns-in_default : goal.returns-in_default
unfolding is same_kind
returns-in_default t c = grind (arith, plain_agree)

pub returns-then-c-a : goal.returns-then-c-a
returns-then-c-a t c = grind (arith, refs_by_contents)
