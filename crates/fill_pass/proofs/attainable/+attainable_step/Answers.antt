use mathlib.Core.Path.{refl, sym}
use native.Mathlib.Omega.{arith}
use Rattle.fill_pass.proofs.Bounding.{leaf_reached, after_reached, loop_reached, call_reached, binary_reached}
use Rattle.fill_pass.proofs.Readiness.{bounded_inside, reached_small, whole_bounded, first_bounded, second_bounded}
use Rattle.fill_pass.proofs.attainable.+attainable_step.Goals as goal

pub attainable_step-requires : goal.attainable_step-requires
attainable_step-requires t c =
    (omega (arith, c.decreases, bounded_inside c.requires), whole_bounded c.requires (sym c.in-Unary-After.ensures))

pub forth-requires-in-Unary-After : goal.forth-requires-in-Unary-After
forth-requires-in-Unary-After t c =
    reached_small (whole_bounded c.requires (sym c.in-Unary-After.ensures)) c.attainable_step.ensures

pub attainable_step-first-requires : goal.attainable_step-first-requires
attainable_step-first-requires t c =
    (omega (arith, c.decreases, bounded_inside c.requires), first_bounded c.requires (sym c.in-Binary.ensures))

pub attainable_step-last-requires : goal.attainable_step-last-requires
attainable_step-last-requires t c =
    let (behind, B) = second_bounded c.requires (sym c.in-Binary.ensures) c.attainable_step-first.ensures c.second_in-second.ensures c.second_pre-next.ensures in
    (omega (arith, c.decreases, bounded_inside c.requires, behind), B)

pub binary_attainable-requires : goal.binary_attainable-requires
binary_attainable-requires t c =
    let seen = sym c.in-Binary.ensures in
    let (behind, B) = second_bounded c.requires seen c.attainable_step-first.ensures c.second_in-second.ensures c.second_pre-next.ensures in
    (reached_small (first_bounded c.requires seen) c.attainable_step-first.ensures, reached_small B c.attainable_step-last.ensures)

pub returns-in-Leaf : goal.returns-in-Leaf
returns-in-Leaf t c = leaf_reached (sym c.in-Leaf.ensures) c.forth.ensures

pub returns-in-Unary-After : goal.returns-in-Unary-After
returns-in-Unary-After t c =
    after_reached (sym c.in-Unary-After.ensures) c.in-Unary-After.field-0-is c.attainable_step.ensures c.forth-in-Unary-After.ensures

pub returns-in-Unary-Loop : goal.returns-in-Unary-Loop
returns-in-Unary-Loop t c = loop_reached (sym c.in-Unary-Loop.ensures) c.in-Unary-Loop.field-0-is c.min.ensures

pub returns-in-Unary-Call : goal.returns-in-Unary-Call
returns-in-Unary-Call t c = call_reached (sym c.in-Unary-Call.ensures) c.in-Unary-Call.field-0-is refl

pub returns-in-Binary : goal.returns-in-Binary
returns-in-Binary t c =
    binary_reached (sym c.in-Binary.ensures) c.attainable_step-first.ensures c.second_in-second.ensures c.second_pre-next.ensures
    c.attainable_step-last.ensures c.binary_attainable.ensures
