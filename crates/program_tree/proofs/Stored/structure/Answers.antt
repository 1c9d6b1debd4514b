use Rattle.std.proofs.lemmas.Result.{err_from_is_err_and}
use native.Mathlib.Omega.{arith}
use Rattle.program_tree.proofs.TreeLoop.{walk_start, walk_refuses, walk_on, root_due, root_refused, root_within, root_passed, root_failed}
use Rattle.program_tree.proofs.Stored.structure.Goals as goal

pub loop-f-init : goal.loop-f-init
loop-f-init c = walk_start _ c.requires.1

pub read_procedure-requires : goal.read_procedure-requires
read_procedure-requires c = c.loop-f.invariant.left

pub returns-in_err-i : goal.returns-in_err-i
returns-in_err-i c =
    let p = err_from_is_err_and c.from_residual.result c.from_residual.ensures.1 in
    rw (p.1, p.2) (walk_refuses c.loop-f.invariant c.loop-f-test.true c.in_err-i.ensures)

pub loop-f-preserved : goal.loop-f-preserved
loop-f-preserved c = walk_on c.loop-f.invariant c.loop-f-test.true c.in_ok-i.ensures

pub read_expression-requires : goal.read_expression-requires
read_expression-requires c = root_due c.loop-f.invariant c.loop-f.auto.f-end c.loop-f-test.false

pub returns-in_err-e : goal.returns-in_err-e
returns-in_err-e c =
    let p = err_from_is_err_and c.from_residual-in_err-e.result c.from_residual-in_err-e.ensures.1 in
    rw (p.1, p.2) (root_refused c.loop-f.invariant c.loop-f.auto.f-end c.loop-f-test.false c.in_err-e.ensures)

pub finish-requires : goal.finish-requires
finish-requires c =
    let e = root_within c.loop-f.invariant c.loop-f.auto.f-end c.loop-f-test.false c.in_ok-e.ensures in (
      omega (arith, e, c.args.self.in_room.0),
      omega (arith, c.requires.0),
    )

pub returns-in_err-finish : goal.returns-in_err-finish
returns-in_err-finish c =
    let p = err_from_is_err_and c.from_residual-in_err-finish.result c.from_residual-in_err-finish.ensures.1 in
    rw (p.1, p.2) (root_failed c.loop-f.invariant c.loop-f.auto.f-end c.loop-f-test.false c.in_ok-e.ensures c.in_err-finish.ensures)

pub returns : goal.returns
returns c = root_passed c.loop-f.invariant c.loop-f.auto.f-end c.loop-f-test.false c.in_ok-e.ensures c.in_ok-finish.ensures
