use mathlib.Core.Path.{sym}
use lib.Seq.{set_out}
use Rattle.replay_control.proofs.put.Goals as goal

pub returns-else-i-space : goal.returns-else-i-space
returns-else-i-space c = sym (set_out _ _ _ c.if-i-space.false)
