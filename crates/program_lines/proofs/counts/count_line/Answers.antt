-- Line 1 in the order in which it is judged: an empty text, the heading, the numbers after it, their ranges.
use mathlib.Core.Path.{sym, ◌∙◌}
use mathlib.Core.Bool.{and-false}
use borrow.Author.Tests.{lt-leb}
use Rattle.spec.specs.Text.{look_up}
use Rattle.spec.specs.Program.{program_headings}
use Rattle.lexer.proofs.Places.{span_le}
use Rattle.lexer.proofs.Walks.{span_placed}
use Rattle.program_lines.proofs.TailLaws.{of_field}
use Rattle.program_lines.proofs.CountLaws.{placed_top, top_field, count_empty, count_other, count_malformed, count_out, count_right}
use Rattle.program_lines.proofs.counts.count_line.Goals as goal
use Rattle.program_lines.proofs.counts.count_line.Goals.{then-steps-lt1-via-then-steps-lt1, then-steps-lt1-via-else-steps-lt1+then-steps-gt-STEP_LIMIT, then-steps-lt1-via-else-steps-lt1+else-steps-gt-STEP_LIMIT+then-procedures-gt-PROCEDURE_LIMIT}

pub returns-then-at_end : goal.returns-then-at_end
returns-then-at_end c = count_empty _ _ c.start-top.ensures (sym c.at_end.ensures ∙ c.if-at_end.true)

pub field-field-requires : goal.field-field-requires
field-field-requires c = placed_top _ _ c.start-top.ensures c.requires

pub slice_bounds-heading_of-count : goal.slice_bounds-heading_of-count
slice_bounds-heading_of-count c = (span_le _ _ c.field-field.result c.field-field.ensures (placed_top _ _ c.start-top.ensures c.requires)).0

pub slice_bounds-heading_of-start : goal.slice_bounds-heading_of-start
slice_bounds-heading_of-start c = (span_le _ _ c.field-field.result c.field-field.ensures (placed_top _ _ c.start-top.ensures c.requires)).0

pub slice_bounds-heading_of-end : goal.slice_bounds-heading_of-end
slice_bounds-heading_of-end c = (span_le _ _ c.field-field.result c.field-field.ensures (placed_top _ _ c.start-top.ensures c.requires)).1

pub returns-in_default : goal.returns-in_default
returns-in_default c =
    count_other _ _ c.start-top.ensures (sym c.at_end.ensures ∙ c.if-at_end.false)
    (of_field (look_up program_headings) _ _ c.field-field.result c.field-field.ensures (sym c.in_default.is ∙ c.heading_of.ensures))

pub counts_after-requires : goal.counts_after-requires
counts_after-requires c = span_placed _ _ _ c.field-field.ensures (placed_top _ _ c.start-top.ensures c.requires)

pub returns-in_default-counts_after : goal.returns-in_default-counts_after
returns-in_default-counts_after c =
    let here = top_field _ _ c.start-top.ensures c.requires (sym c.at_end.ensures ∙ c.if-at_end.false) _ c.field-field.ensures in
    let spelled = of_field (look_up program_headings) _ _ c.field-field.result c.field-field.ensures (sym c.in-Some.is ∙ c.heading_of.ensures) in
    count_malformed _ _ c.start-top.ensures _ here _ spelled c.in_default-counts_after.ensures

pub returns-then-steps-lt1 : goal.returns-then-steps-lt1
returns-then-steps-lt1 c =
    let here = top_field _ _ c.start-top.ensures c.requires (sym c.at_end.ensures ∙ c.if-at_end.false) _ c.field-field.ensures in
    let spelled = of_field (look_up program_headings) _ _ c.field-field.result c.field-field.ensures (sym c.in-Some.is ∙ c.heading_of.ensures) in
    count_out _ _ c.start-top.ensures _ here _ spelled _ _ _ c.in-Some-counts_after.ensures
    (elim c.then-steps-lt1.branch [
      | then-steps-lt1-via-then-steps-lt1 w ↦ simp (lt-leb _ _ w.if-steps-lt1.true)
      | then-steps-lt1-via-else-steps-lt1+then-steps-gt-STEP_LIMIT w ↦ simp (lt-leb _ _ w.if-steps-gt-STEP_LIMIT.true, and-false)
      | then-steps-lt1-via-else-steps-lt1+else-steps-gt-STEP_LIMIT+then-procedures-gt-PROCEDURE_LIMIT w ↦ simp (lt-leb _ _ w.if-procedures-gt-PROCEDURE_LIMIT.true, and-false)
    ])

pub returns : goal.returns
returns c =
    let here = top_field _ _ c.start-top.ensures c.requires (sym c.at_end.ensures ∙ c.if-at_end.false) _ c.field-field.ensures in
    let spelled = of_field (look_up program_headings) _ _ c.field-field.result c.field-field.ensures (sym c.in-Some.is ∙ c.heading_of.ensures) in
    count_right _ _ c.start-top.ensures _ here _ spelled _ _ _ c.in-Some-counts_after.ensures c.if-steps-lt1.false c.if-steps-gt-STEP_LIMIT.false
    c.if-procedures-gt-PROCEDURE_LIMIT.false
