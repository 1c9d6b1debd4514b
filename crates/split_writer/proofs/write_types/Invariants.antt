-- The loop's invariant: the types below t are written.
use Rattle.std.proofs.Common.{map}
use Rattle.text_theory.specs.Text.{text}
use Rattle.writer.specs.Buffer.{Writes}
use Rattle.text_theory.specs.Sheet.{type_fields}
use Rattle.split_writer.specs.Stored.{in_order, type_stored}
use Rattle.split_writer.proofs.write_types.Given as goal

abbrev pub invariant-loop-t : goal.invariant-loop-t
invariant-loop-t l = Writes l.initial.writer l.writer (text (map (type_fields l.heading) (in_order (type_stored l.work) 0 l.t)))
