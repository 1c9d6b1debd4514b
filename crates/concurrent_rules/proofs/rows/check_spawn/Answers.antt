-- The last condition subtracts what the body starts with.
use Rattle.std.proofs.Common.{◌≡◌, refl}
use Rattle.spec.specs.Kinds.{same_kind, is, first_map}
use Rattle.spec.specs.StepContexts.{judge}
use Rattle.conditions.specs.declared.Relation.TheVariants.{Sum}
use Rattle.conditions.proofs.FirstFalse.{later, only}
use Rattle.rule_rows.specs.Table.{flows}
use Rattle.concurrent_rules.proofs.rows.check_spawn.Goals as goal

pub returns : goal.returns
unfolding is same_kind first_map judge
returns c =
    let fourth : c.sum.result ≡ judge c.args.s.line 4 (flows c.args.work.now c.args.s (Sum c.args.s.post c.args.s.start c.args.s.post1)) = c.sum.ensures in
    rw (← c.type_at.ensures, c.in-Tid.is)
    (later _ _ _ _ c.in_ok-is_int.ensures
    (later _ _ _ _ refl
    (later _ _ _ _ c.in_ok-at_least.ensures
    (only _ _ _ fourth))))
