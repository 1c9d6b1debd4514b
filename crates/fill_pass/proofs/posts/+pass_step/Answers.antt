use mathlib.Core.Path.{sym}
use native.Mathlib.Omega.{arith}
use Rattle.fill_pass.proofs.Passing.{leaf_passed, unary_nothing, unary_passed, first_nothing, second_nothing, binary_passed}
use Rattle.fill_pass.proofs.Readiness.{bounded_inside, unary_ready, first_bounded, second_bounded, passed_reached, passed_small}
use Rattle.fill_pass.proofs.posts.+pass_step.Goals as goal

pub pass_step-requires : goal.pass_step-requires
pass_step-requires t c =
    (omega (arith, c.decreases, bounded_inside c.requires), unary_ready c.requires (sym c.in-Unary.ensures) _ c.part_pre-before.ensures)

pub returns-in_err-first-in-Unary : goal.returns-in_err-first-in-Unary
returns-in_err-first-in-Unary t c =
    rw c.from_residual.ensures (unary_nothing _ _ (sym c.in-Unary.ensures) c.part_pre-before.ensures c.in_err-first-in-Unary.ensures)

pub after_unary-requires : goal.after_unary-requires
after_unary-requires t c =
    passed_small (unary_ready c.requires (sym c.in-Unary.ensures) _ c.part_pre-before.ensures) c.in_ok-first-in-Unary.ensures

pub pass_step-requires-in-Binary : goal.pass_step-requires-in-Binary
pass_step-requires-in-Binary t c =
    (omega (arith, c.decreases, bounded_inside c.requires), first_bounded c.requires (sym c.in-Binary.ensures))

pub returns-in_err-first-in-Binary : goal.returns-in_err-first-in-Binary
returns-in_err-first-in-Binary t c =
    rw c.from_residual-in_err-first-in-Binary.ensures (first_nothing _ _ (sym c.in-Binary.ensures) c.in_err-first-in-Binary.ensures)

pub pass_step-requires-in-Binary-2 : goal.pass_step-requires-in-Binary-2
pass_step-requires-in-Binary-2 t c =
    let first = passed_reached c.in_ok-first-in-Binary.ensures in
    let (behind, B) = second_bounded c.requires (sym c.in-Binary.ensures) first c.second_in-second.ensures c.second_pre-next.ensures in
    (omega (arith, c.decreases, bounded_inside c.requires, behind), B)

pub returns-in_err-last-in-Binary : goal.returns-in_err-last-in-Binary
returns-in_err-last-in-Binary t c =
    rw c.from_residual-in_err-last-in-Binary.ensures
    (second_nothing _ _ (sym c.in-Binary.ensures) c.in_ok-first-in-Binary.ensures c.second_in-second.ensures c.second_pre-next.ensures
    c.in_err-last-in-Binary.ensures)

pub after_binary-requires : goal.after_binary-requires
after_binary-requires t c =
    let seen = sym c.in-Binary.ensures in
    let first = passed_reached c.in_ok-first-in-Binary.ensures in
    let (behind, B) = second_bounded c.requires seen first c.second_in-second.ensures c.second_pre-next.ensures in
    (passed_small (first_bounded c.requires seen) c.in_ok-first-in-Binary.ensures, passed_small B c.in_ok-last-in-Binary.ensures)

pub returns-in-Leaf : goal.returns-in-Leaf
returns-in-Leaf t c = leaf_passed _ _ (sym c.in-Leaf.ensures) (omega (arith, bounded_inside c.requires)) c.apply.ensures c.settle.ensures.same c.settle.ensures.stored

pub returns-in_ok-first-in-Unary : goal.returns-in_ok-first-in-Unary
returns-in_ok-first-in-Unary t c =
    unary_passed _ _ (sym c.in-Unary.ensures) c.part_pre-before.ensures c.in_ok-first-in-Unary.ensures
    (omega (arith, bounded_inside c.requires)) c.after_unary.ensures c.settle-in-Unary.ensures.same c.settle-in-Unary.ensures.stored

pub returns-in_ok-last-in-Binary : goal.returns-in_ok-last-in-Binary
returns-in_ok-last-in-Binary t c =
    binary_passed _ _ (sym c.in-Binary.ensures) c.in_ok-first-in-Binary.ensures c.second_in-second.ensures c.second_pre-next.ensures
    c.in_ok-last-in-Binary.ensures (omega (arith, bounded_inside c.requires)) c.after_binary.ensures c.settle-in-Binary.ensures.same c.settle-in-Binary.ensures.stored
