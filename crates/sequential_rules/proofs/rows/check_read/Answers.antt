use Rattle.std.proofs.Common.{refl}
use Rattle.spec.specs.Kinds.{same_kind, is, ref_location, content}
use Rattle.spec.specs.Conditions.{contains}
use Rattle.spec.specs.StepContexts.{judge}
use Rattle.conditions.proofs.FirstFalse.{later, only}
use Rattle.sequential_rules.proofs.rows.check_read.Goals as goal

pub returns : goal.returns
unfolding is same_kind contains content ref_location judge
returns c =
    rw (← c.type_at.ensures, c.in-Ref.is)
    (later _ _ _ _ refl
    (later _ _ _ _ c.in_ok-agree.ensures
    (later _ _ _ _ c.in_ok-equal.ensures
    (only _ _ _ c.holds_at_least.ensures))))
