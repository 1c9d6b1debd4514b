use native.Mathlib.Nat.{sub-zero}
use Rattle.writer.proofs.Buffer.{all_remains, onward, done}
use Rattle.drill.proofs.Parts.{all_spawn_rows_next, all_spawn_rows_none}
use Rattle.drill.proofs.split_sheet.write_all_spawn_rows.Goals as goal

pub loop-m-init : goal.loop-m-init
loop-m-init c = rw sub-zero all_remains

pub loop-m-preserved : goal.loop-m-preserved
loop-m-preserved c = onward (all_spawn_rows_next _ _ _ c.loop-m-test.true) c.loop-m.invariant c.write_spawn_rows.ensures

pub returns : goal.returns
returns c = done (all_spawn_rows_none _ _ _ c.loop-m-test.false) c.loop-m.invariant
