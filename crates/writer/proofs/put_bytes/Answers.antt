-- Each byte is put behind the last; what has no room is past the end, where nothing changes.
use Rattle.std.proofs.Common.{sym, ◌∙◌, arith}
use Rattle.writer.proofs.Buffer.{overwrite_next, overwrite_room}
use Rattle.writer.proofs.put_bytes.Goals as goal

pub loop-i-preserved : goal.loop-i-preserved
loop-i-preserved c = overwrite_next _ _ _ _ (omega arith) ∙ c.loop-i.invariant

pub returns : goal.returns
returns c = sym (overwrite_room _ _ _ _ (omega arith) (omega arith)) ∙ c.loop-i.invariant
