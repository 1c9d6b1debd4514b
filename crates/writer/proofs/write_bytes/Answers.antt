-- Past the end nothing changes; else what has room is put. All is counted.
use Rattle.std.proofs.Common.{sym}
use Rattle.writer.proofs.Buffer.{overwrite_past}
use Rattle.writer.proofs.write_bytes.Goals as goal
use Rattle.writer.proofs.write_bytes.Goals.{then-at-buffer, else-at-buffer}

pub returns : goal.returns
returns c = elim c.if-at-buffer.branch [
  | then-at-buffer w ↦ record { holds = rw w.buffer-is w.put_bytes.ensures; moved = c.saturating_add.ensures }
  | else-at-buffer w ↦ record { holds = rw w.buffer-is (sym (overwrite_past _ _ _ w.if-at-buffer.false)); moved = c.saturating_add.ensures }
]
