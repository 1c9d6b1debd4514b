use Rattle.spec.specs.Words.{role, least_value, largest_value}
use Rattle.keywords.proofs.numbers.leaf_number.Goals as goal

pub returns-in-Int : goal.returns-in-Int
unfolding role least_value largest_value
returns-in-Int c = rw c.in-Int.is c.numbered-in-Int.ensures
