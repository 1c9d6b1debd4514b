use mathlib.Core.Path.{refl}
use Rattle.replay.proofs.Copying.{copy_none, copy_more, copy_all}
use Rattle.replay.proofs.start.copy_columns.Goals as goal

pub loop-i-init : goal.loop-i-init
loop-i-init c = copy_none _ _ c.told-columns

pub loop-i-preserved : goal.loop-i-preserved
loop-i-preserved c = copy_more _ _ _ _ c.loop-i-test.true c.loop-i.invariant refl refl

pub returns : goal.returns
returns c = copy_all _ _ _ c.loop-i-test.false c.loop-i.invariant
