use Rattle.writer.proofs.Buffer.{all_remains, onward, done}
use Rattle.drill.proofs.Parts.{maps_next, maps_none}
use Rattle.drill.proofs.split_sheet.write_maps.Goals as goal

pub loop-n-init : goal.loop-n-init
loop-n-init c = all_remains

pub loop-n-preserved : goal.loop-n-preserved
loop-n-preserved c = onward (maps_next _ c.loop-n-test.true) c.loop-n.invariant c.field.ensures

pub returns : goal.returns
returns c = done (maps_none _ c.loop-n-test.false) c.loop-n.invariant
