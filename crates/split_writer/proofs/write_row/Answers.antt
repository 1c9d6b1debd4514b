-- The type, the post, and the start if one is given.
use Rattle.std.proofs.Common.{sym, ◌∙◌}
use Rattle.writer.proofs.Buffer.{said, ◌then◌}
use Rattle.split_writer.proofs.Parts.{row_parts, start_row_parts}
use Rattle.split_writer.proofs.write_row.Goals as goal

pub returns-then-start-eq-EMPTY_MAP : goal.returns-then-start-eq-EMPTY_MAP
returns-then-start-eq-EMPTY_MAP c =
    said (row_parts _ _ (c.from.ensures ∙ c.at.ensures) (c.from-2.ensures ∙ c.at-2.ensures) c.at-start.ensures c.if-start-eq-EMPTY_MAP.true)
    (c.field.ensures then c.field-2.ensures then c.byte.ensures)

pub returns : goal.returns
returns c =
    said (start_row_parts _ _ (c.from.ensures ∙ c.at.ensures) (c.from-2.ensures ∙ c.at-2.ensures) (c.from-3.ensures ∙ c.at-start.ensures) (λ e. c.if-start-eq-EMPTY_MAP.false (sym c.from-3.ensures ∙ e)))
    (c.field.ensures then c.field-2.ensures then c.field-3.ensures)
