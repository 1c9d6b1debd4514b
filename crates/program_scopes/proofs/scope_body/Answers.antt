-- A body judged with the procedure's variable bound.
use mathlib.Core.Path.{sym, ◌∙◌}
use Rattle.program_scopes.proofs.ScopeLoop.{body_rebound, body_scoped}
use Rattle.program_scopes.proofs.scope_body.Goals as goal

pub returns-then-is_some : goal.returns-then-is_some
returns-then-is_some c =
    body_rebound c.index-v.ensures.0 c.binder.ensures (sym c.is_some.ensures ∙ c.if-is_some.true)

pub returns : goal.returns
returns c =
    body_scoped c.index-v.ensures.0 c.binder.ensures (sym c.is_some.ensures ∙ c.if-is_some.false)
    c.index-from.ensures.0 c.index-to.ensures.0 c.bind.ensures c.scope_steps.ensures
