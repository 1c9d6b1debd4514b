-- Agreement calls itself on the contents of two refs. The measure is the first type's number.
use Rattle.conditions.proofs.types.+agree.Given as goal

abbrev pub decreases-agree : goal.decreases-agree
decreases-agree l = l.a.0
