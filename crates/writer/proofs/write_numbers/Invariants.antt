-- The loop's invariant: the numerals from the index on remain to be written, the last of them closed by byte 10.
use Rattle.std.proofs.Common.{[], map, drop}
use Rattle.text_theory.specs.Text.{decimal, line}
use Rattle.writer.proofs.Parts.{Remains}
use Rattle.writer.proofs.write_numbers.Given as goal

abbrev pub invariant-loop-n : goal.invariant-loop-n
invariant-loop-n l = Remains l.initial.buffer l.at (line (map decimal l.numbers) []) l.buffer l.next (line (map decimal (drop l.n-index l.numbers)) [])
