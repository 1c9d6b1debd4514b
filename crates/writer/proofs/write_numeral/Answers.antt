-- Past the end nothing changes; else the digits are written.
use Rattle.std.proofs.Common.{sym}
use Rattle.writer.proofs.Buffer.{overwrite_past}
use Rattle.writer.proofs.write_numeral.Goals as goal
use Rattle.writer.proofs.write_numeral.Goals.{then-at-buffer, else-at-buffer}

pub returns : goal.returns
returns c =
    let counted = rw c.width-digits.ensures at c.saturating_add.ensures in
    elim c.if-at-buffer.branch [
      | then-at-buffer w ↦ record { holds = rw w.buffer-is w.write_digits.ensures; moved = counted }
      | else-at-buffer w ↦ record { holds = rw w.buffer-is (sym (overwrite_past _ _ _ w.if-at-buffer.false)); moved = counted }
    ]
