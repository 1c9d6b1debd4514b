use mathlib.Core.Path.{refl}
use Rattle.threads.specs.Records.{no_record}
use Rattle.replay_kept.proofs.Keeping.{keep_none, keep_more, keep_all}
use Rattle.replay_kept.proofs.keep_records.Goals as goal

pub loop-t-init : goal.loop-t-init
loop-t-init c = keep_none _ _ c.told-run

pub loop-t-preserved : goal.loop-t-preserved
unfolding no_record
loop-t-preserved c = keep_more _ _ _ _ _ _ c.loop-t-test.true c.loop-t.invariant refl c.keep_record.ensures

pub returns : goal.returns
returns c = keep_all _ _ _ _ c.loop-t-test.false c.loop-t.invariant
