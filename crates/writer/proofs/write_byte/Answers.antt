-- A byte past the end changes nothing, as `set` does not.
use Rattle.std.proofs.Common.{refl, sym}
use lib.Seq.{set_out}
use Rattle.writer.specs.Place.{overwrite}
use Rattle.writer.proofs.write_byte.Goals as goal
use Rattle.writer.proofs.write_byte.Goals.{then-at-buffer, else-at-buffer}

pub returns : goal.returns
unfolding overwrite
returns c = elim c.if-at-buffer.branch [
  | then-at-buffer w ↦ record { holds = rw w.buffer-is refl; moved = c.saturating_add.ensures }
  | else-at-buffer w ↦ record { holds = rw w.buffer-is (sym (set_out _ _ _ w.if-at-buffer.false)); moved = c.saturating_add.ensures }
]
