-- The loop's invariant: the rows in front of the step are written.
use Rattle.std.proofs.Common.{map}
use Rattle.text_theory.specs.Text.{text}
use Rattle.writer.specs.Buffer.{Writes}
use Rattle.spec.specs.declared.Purpose.TheVariants.{Check}
use Rattle.text_theory.specs.Sheet.{row_fields}
use Rattle.split_writer.specs.Stored.{in_order, row_in}
use Rattle.split_writer.proofs.write_rows.Given as goal

abbrev pub invariant-loop-step : goal.invariant-loop-step
invariant-loop-step l = Writes l.initial.writer l.writer (text (map (row_fields Check) (in_order (row_in l.work) 0 l.step)))
