-- The loop's invariant: the bytes from i on remain to be put.
use Rattle.std.proofs.Common.{◌≡◌, ◌+◌, drop}
use Rattle.writer.specs.Place.{overwrite}
use Rattle.writer.proofs.put_bytes.Given as goal

abbrev pub invariant-loop-i : goal.invariant-loop-i
invariant-loop-i l = overwrite l.buffer (l.at + l.i) (drop l.i l.bytes) ≡ overwrite l.initial.buffer l.at l.bytes
