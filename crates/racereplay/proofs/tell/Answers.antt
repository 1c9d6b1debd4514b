-- The line is shorter than the buffer, and is what stands in front of it.
use Rattle.std.proofs.Common.{rules}
use Rattle.file_io.proofs.Buffers.{line_in_front}
use Rattle.racereplay.proofs.tell.Goals as goal

pub put_line-requires : goal.put_line-requires
put_line-requires g c = (line_in_front 130 _ _ c.write_line-n.ensures.line c.write_line-n.ensures.short (search rules) (search rules)).are
