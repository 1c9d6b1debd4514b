-- A comma ends the heading.
use mathlib.Core.Path.{subst}
use Rattle.split_fields.specs.Answers.{HeadAnswer}
use Rattle.split_fields.proofs.LineLaws.{comma_cursor}
use Rattle.split_header.proofs.header_line.Goals as goal

pub header_numbers-requires : goal.header_numbers-requires
header_numbers-requires c =
    let head = subst (HeadAnswer _ _) c.in_ok-field.ensures.ok_part c.first_field.ensures in
    comma_cursor _ _ _ c.requires.reading head.1 head.2
