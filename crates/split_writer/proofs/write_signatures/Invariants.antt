-- The loop's invariant: the lines of the procedures below f are written.
use Rattle.std.proofs.Common.{map}
use Rattle.text_theory.specs.Text.{text}
use Rattle.writer.specs.Buffer.{Writes}
use Rattle.text_theory.specs.Sheet.{signature_fields}
use Rattle.split_writer.specs.Stored.{in_order, signature_in}
use Rattle.split_writer.proofs.write_signatures.Given as goal

abbrev pub invariant-loop-f : goal.invariant-loop-f
invariant-loop-f l = Writes l.initial.writer l.writer (text (map signature_fields (in_order (signature_in l.work) 0 l.f)))
