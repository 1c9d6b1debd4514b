-- The length is counted by a first run over nothing; the second run writes, if there is room.
use borrow.Author.Rules.{rules}
use Rattle.split_writer.specs.Contract.{SheetWritten}
use Rattle.fill.proofs.Sound.{too_long, fits_sound}
use Rattle.fill.proofs.write_filled.Goals as goal

pub returns-then-length-gt-SPLIT_LIMIT : goal.returns-then-length-gt-SPLIT_LIMIT
unfolding SheetWritten
returns-then-length-gt-SPLIT_LIMIT c S holds =
    too_long _ _ (c.write_sheet-length.ensures S holds).moved (search rules) c.then-length-gt-SPLIT_LIMIT.either

pub returns : goal.returns
unfolding SheetWritten
returns c S holds =
    fits_sound _ _ (c.write_sheet-length.ensures S holds).moved c.if-length-gt-SPLIT_LIMIT.false c.if-out-length.false (c.write_sheet.ensures S holds)
