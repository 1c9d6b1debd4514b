use Rattle.std.proofs.Common.{Ok}
use Rattle.std.proofs.lemmas.Result.{err_from_is_err_and}
use Rattle.program_scopes.proofs.ScopeLaws.{start, finish, refuses, binds, stores}
use mathlib.Core.Path.{refl, ap, ◌∙◌}
use Rattle.program_scopes.proofs.scope_steps.Goals as goal
use Rattle.program_scopes.proofs.scope_steps.Goals.{in-Bind, in-Store}

pub loop-k-init : goal.loop-k-init
loop-k-init c = let pre = c.requires in start _ _ _ _ _ c.told-work pre.0 pre.1

pub returns-in_err-judged : goal.returns-in_err-judged
returns-in_err-judged c =
    let pre = c.requires in
    let p = err_from_is_err_and c.from_residual.result c.from_residual.ensures.1 in
    rw (p.1, p.2)
    (refuses c.loop-k.invariant c.told-work pre.1 c.loop-k-test.true c.index-v.ensures.0 c.binder-b.ensures c.in_err-judged.ensures refl)

pub loop-k-preserved : goal.loop-k-preserved
loop-k-preserved c =
    let pre = c.requires in
    elim c.match-judged.branch [
      | in-Bind w ↦
          binds c.loop-k.invariant c.told-work pre.1 c.loop-k-test.true c.index-v.ensures.0 c.binder-b.ensures c.in_ok-judged.ensures _ _
          w.work-is (w.table-is ∙ w.bind.ensures) (ap Ok w.in-Bind.is)
      | in-Store w ↦
          stores c.loop-k.invariant c.told-work pre.1 c.loop-k-test.true c.index-v.ensures.0 c.binder-b.ensures c.in_ok-judged.ensures _ _ _
          w.work-is w.table-is (ap Ok w.in-Store.is)
    ]

pub returns : goal.returns
returns c = finish c.loop-k.invariant c.loop-k-test.false
