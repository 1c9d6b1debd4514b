-- A row: two numerals, the last field, and their ranges.
use mathlib.Core.Path.{sym, subst}
use Rattle.split_fields.specs.Answers.{LeadingAnswer, PostAnswer, StartAnswer}
use Rattle.split_fields.proofs.LineLaws.{comma_cursor, handed_on, exit}
use Rattle.split_lines.proofs.RowLaws.{row_first, row_second, row_third, row_read}
use Rattle.split_lines.proofs.rows.row_line.Goals as goal

pub returns-in_err-typed : goal.returns-in_err-typed
returns-in_err-typed c =
    rw (exit _ c.from_residual.result c.in_err-typed.ensures.value c.from_residual.ensures.1)
    (row_first _ _ _ c.requires.reading.placed (sym c.if-at_end.ensures) (subst (LeadingAnswer _ _) c.in_err-typed.ensures.ok_part c.leading_number.ensures))

-- the cursor after the first number
pub post_field-requires : goal.post_field-requires
post_field-requires c =
    let lead = subst (LeadingAnswer _ _) c.in_ok-typed.ensures.ok_part c.leading_number.ensures in
    comma_cursor _ _ _ c.requires.reading lead.1 lead.2

pub returns-in_err-post : goal.returns-in_err-post
returns-in_err-post c =
    let lead = subst (LeadingAnswer _ _) c.in_ok-typed.ensures.ok_part c.leading_number.ensures in
    rw (exit _ c.from_residual-in_err-post.result c.in_err-post.ensures.value c.from_residual-in_err-post.ensures.1)
    (row_second _ _ _ c.requires.reading.placed (sym c.if-at_end.ensures) lead (subst (PostAnswer _ _ _) c.in_err-post.ensures.ok_part c.post_field.ensures))

-- the cursor after the second number
pub start_field-requires : goal.start_field-requires
start_field-requires c =
    let lead = subst (LeadingAnswer _ _) c.in_ok-typed.ensures.ok_part c.leading_number.ensures in
    let lead₂ = subst (PostAnswer _ _ _) c.in_ok-post.ensures.ok_part c.post_field.ensures in
    comma_cursor _ _ _ (comma_cursor _ _ _ c.requires.reading lead.1 lead.2) lead₂.1 lead₂.2

pub returns-in_err-start : goal.returns-in_err-start
returns-in_err-start c =
    let lead = subst (LeadingAnswer _ _) c.in_ok-typed.ensures.ok_part c.leading_number.ensures in
    let lead₂ = subst (PostAnswer _ _ _) c.in_ok-post.ensures.ok_part c.post_field.ensures in
    rw (exit _ c.from_residual-in_err-start.result c.in_err-start.ensures.value c.from_residual-in_err-start.ensures.1)
    (row_third _ _ _ c.requires.reading.placed (sym c.if-at_end.ensures) lead _ lead₂ (subst (StartAnswer _ _) c.in_err-start.ensures.ok_part c.start_field.ensures))

pub returns-in_err-judge_row : goal.returns-in_err-judge_row
returns-in_err-judge_row c =
    let lead = subst (LeadingAnswer _ _) c.in_ok-typed.ensures.ok_part c.leading_number.ensures in
    let lead₂ = subst (PostAnswer _ _ _) c.in_ok-post.ensures.ok_part c.post_field.ensures in
    let start = subst (StartAnswer _ _) c.in_ok-start.ensures.ok_part c.start_field.ensures in
    rw (handed_on c.from_residual-in_err-judge_row.result c.from_residual-in_err-judge_row.ensures.1)
    (rw (← c.in_err-judge_row.ensures) at
    (row_read c.args.purpose c.args.header c.args.word c.requires.reading.placed (sym c.if-at_end.ensures) lead _ lead₂ _ start.1 start.2 (c.requires.small.types, c.requires.small.maps) c.in_ok-start.start start.0))

pub returns : goal.returns
returns c =
    let lead = subst (LeadingAnswer _ _) c.in_ok-typed.ensures.ok_part c.leading_number.ensures in
    let lead₂ = subst (PostAnswer _ _ _) c.in_ok-post.ensures.ok_part c.post_field.ensures in
    let start = subst (StartAnswer _ _) c.in_ok-start.ensures.ok_part c.start_field.ensures in
    rw (← c.in_ok-judge_row.ensures) at
    (row_read c.args.purpose c.args.header c.args.word c.requires.reading.placed (sym c.if-at_end.ensures) lead _ lead₂ _ start.1 start.2 (c.requires.small.types, c.requires.small.maps) c.in_ok-start.start start.0)
