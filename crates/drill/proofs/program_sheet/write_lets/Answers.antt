use Rattle.writer.proofs.Buffer.{all_remains, onward, done}
use Rattle.drill.proofs.Parts.{lets_next, lets_none}
use Rattle.drill.proofs.program_sheet.write_lets.Goals as goal

pub loop-v-init : goal.loop-v-init
loop-v-init c = all_remains

pub loop-v-preserved : goal.loop-v-preserved
loop-v-preserved c = onward (lets_next _ _ _ c.loop-v-test.true) c.loop-v.invariant c.write_let.ensures

pub returns : goal.returns
returns c = done (lets_none _ _ _ c.loop-v-test.false) c.loop-v.invariant
