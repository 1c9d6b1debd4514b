use Rattle.std.proofs.lemmas.Result.{err_from_is_err_and}
use Rattle.program_scopes.proofs.ScopeLoop.{bodies_start, body_due, body_refuses, body_passes, root_below, root_scoped}
use Rattle.program_scopes.specs.Scopes.{unbound}
use Rattle.program_scopes.proofs.scopes.Goals as goal

pub loop-f-init : goal.loop-f-init
unfolding unbound
loop-f-init c = bodies_start c.told-work c.requires

pub scope_body-requires : goal.scope_body-requires
scope_body-requires c = body_due c.requires c.loop-f.invariant c.loop-f-test.true

pub returns-in_err-scope_body : goal.returns-in_err-scope_body
returns-in_err-scope_body c =
    let p = err_from_is_err_and c.from_residual.result c.from_residual.ensures.1 in
    rw (p.1, p.2) (body_refuses c.requires c.loop-f.invariant c.loop-f-test.true c.in_err-scope_body.ensures)

pub loop-f-preserved : goal.loop-f-preserved
loop-f-preserved c = body_passes c.requires c.loop-f.invariant c.loop-f-test.true c.in_ok-scope_body.ensures

pub scope_steps-requires : goal.scope_steps-requires
scope_steps-requires c =
    (root_below c.requires c.loop-f.invariant c.loop-f.auto.f-end c.loop-f-test.false c.index-root.ensures.0, c.requires.few)

pub returns : goal.returns
returns c =
    root_scoped c.requires c.loop-f.invariant c.loop-f.auto.f-end c.loop-f-test.false c.index-root.ensures.0 c.scope_steps.ensures
