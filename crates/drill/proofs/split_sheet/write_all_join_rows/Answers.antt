use Rattle.writer.proofs.Buffer.{all_remains, onward, done}
use Rattle.drill.proofs.Parts.{all_join_rows_next, all_join_rows_none}
use Rattle.drill.proofs.split_sheet.write_all_join_rows.Goals as goal

pub loop-m-init : goal.loop-m-init
loop-m-init c = all_remains

pub loop-m-preserved : goal.loop-m-preserved
loop-m-preserved c = onward (all_join_rows_next _ c.loop-m-test.true) c.loop-m.invariant c.write_join_rows.ensures

pub returns : goal.returns
returns c = done (all_join_rows_none _ c.loop-m-test.false) c.loop-m.invariant
