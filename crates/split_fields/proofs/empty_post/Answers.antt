-- The m of a row to fill, which is not empty: a numeral, or something else.
use Rattle.split_fields.proofs.FieldLaws.{post_number, post_neither}
use Rattle.split_fields.proofs.empty_post.Goals as goal

pub returns-in_err-next : goal.returns-in_err-next
returns-in_err-next c = rw c.from_residual-in_err-next.ensures (post_neither _ _ c.in_ok-field.ensures.0 c.if-is_empty.ensures c.in_err-next.ensures)

pub returns : goal.returns
returns c = post_number _ _ c.in_ok-field.ensures.0 c.if-is_empty.ensures c.in_ok-next.ensures
