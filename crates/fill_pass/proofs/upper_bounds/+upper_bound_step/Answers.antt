use mathlib.Core.Path.{sym}
use native.Mathlib.Omega.{arith}
use Rattle.fill_pass.proofs.Bounding.{leaf_capped, unary_capped, binary_capped, cappable_inside, part_cappable, part_looked_at, last_cappable, first_cappable}
use Rattle.fill_pass.proofs.upper_bounds.+upper_bound_step.Goals as goal

pub upper_bound_step-first-requires : goal.upper_bound_step-first-requires
upper_bound_step-first-requires t c =
    (omega (arith, c.decreases, cappable_inside c.requires), part_cappable c.requires (sym c.in-Unary.ensures) c.part_upper_bound.ensures)

pub own_upper_bound-requires : goal.own_upper_bound-requires
own_upper_bound-requires t c =
    part_looked_at c.requires (sym c.in-Unary.ensures) c.part_upper_bound.ensures c.upper_bound_step-first.ensures

pub upper_bound_step-last-requires : goal.upper_bound_step-last-requires
upper_bound_step-last-requires t c =
    let (behind, S) = last_cappable c.requires (sym c.in-Binary.ensures) c.second_in-second.ensures c.last_upper_bound.ensures in
    (omega (arith, c.decreases, cappable_inside c.requires, behind), S)

pub upper_bound_step-first-requires-in-Binary : goal.upper_bound_step-first-requires-in-Binary
upper_bound_step-first-requires-in-Binary t c = (
  omega (arith, c.decreases, cappable_inside c.requires),
  first_cappable c.requires (sym c.in-Binary.ensures) c.second_in-second.ensures c.last_upper_bound.ensures c.upper_bound_step-last.ensures c.first_upper_bound-under.ensures,
)

pub returns-in-Leaf : goal.returns-in-Leaf
returns-in-Leaf t c = leaf_capped (sym c.in-Leaf.ensures) (omega (arith, cappable_inside c.requires)) c.back.ensures

pub returns-in-Unary : goal.returns-in-Unary
returns-in-Unary t c =
    unary_capped (sym c.in-Unary.ensures) c.part_upper_bound.ensures c.upper_bound_step-first.ensures c.own_upper_bound.ensures
    (omega (arith, cappable_inside c.requires)) c.unary_ceiling.ensures

pub returns-in-Binary : goal.returns-in-Binary
returns-in-Binary t c =
    binary_capped (sym c.in-Binary.ensures) c.second_in-second.ensures c.last_upper_bound.ensures c.upper_bound_step-last.ensures c.first_upper_bound-under.ensures
    c.upper_bound_step-first-in-Binary.ensures (omega (arith, cappable_inside c.requires)) c.binary_ceiling.ensures
