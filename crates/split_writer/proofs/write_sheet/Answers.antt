-- Header, types, maps, procedures and rows of the split that stands in the work space, which is the one that it holds.
use Rattle.std.proofs.Common.{sym, ap, ◌∙◌, arith, rules}
use Rattle.text_theory.specs.Sheet.{sheet_text}
use Rattle.writer.proofs.Buffer.{said, ◌then◌, at_front}
use Rattle.split_writer.specs.Contract.{SheetWritten}
use Rattle.split_writer.proofs.Parts.{sheet_parts}
use Rattle.split_writer.proofs.Held.{split_held, header_small, maps_stand, rows_stand, procedures_small}
use Rattle.split_writer.proofs.write_sheet.Goals as goal

pub write_header-requires : goal.write_header-requires
write_header-requires c = header_small c.requires.holds

pub write_types-requires : goal.write_types-requires
write_types-requires c = (header_small c.requires.holds).1

pub write_maps-requires : goal.write_maps-requires
write_maps-requires c = maps_stand c.requires.holds

pub write_signatures-requires : goal.write_signatures-requires
write_signatures-requires c = procedures_small c.requires.holds

pub write_rows-requires : goal.write_rows-requires
write_rows-requires c = rows_stand c.requires.holds

pub returns : goal.returns
unfolding SheetWritten
returns c S holds =
    at_front c.new-writer.ensures.held c.new-writer.ensures.front (omega arith)
    (said
    (ap sheet_text (sym (split_held holds)) ∙ sheet_parts _ _ _ _)
    (c.write_header.ensures then c.write_types.ensures then c.write_maps.ensures then c.write_signatures.ensures then c.write_rows.ensures))
    (search rules) c.position.ensures
