-- The third condition refuses, under its own number: those before it hold.
use Rattle.std.proofs.Common.{◌≡◌, Err, refl}
use Rattle.spec.specs.Kinds.{same_kind, is, content}
use Rattle.spec.specs.Conditions.{T, contains}
use Rattle.spec.specs.StepContexts.{judge}
use Rattle.conditions.specs.Agreement.{agree_in}
use Rattle.conditions.proofs.FirstFalse.{exit, later}
use Rattle.sequential_rules.proofs.rows.check_write.Goals as goal

pub returns-in_err-agree : goal.returns-in_err-agree
unfolding is same_kind contains content judge
returns-in_err-agree c =
    let third : Err c.in_err-agree.field-0.0 ≡ judge c.args.s.line 3 (T (agree_in c.args.work.now c.args.s.locations c.in-Ref.content c.args.s.type2)) = c.in_err-agree.ensures in
    rw (← c.type_at.ensures, c.in-Ref.is)
    (later _ _ _ _ c.in_ok-is_int.ensures
    (later _ _ _ _ refl
    (exit _ _ _ _ _ c.from_residual-in_err-agree.ensures.1 third)))
