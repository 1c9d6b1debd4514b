-- The loop's invariant: n maps remain to be written.
use Rattle.text_theory.specs.Text.{text}
use Rattle.writer.proofs.Buffer.{Remains}
use Rattle.drill_theory.specs.Pair.{falling_maps}
use Rattle.drill.proofs.split_sheet.write_maps.Given as goal

abbrev pub invariant-loop-n : goal.invariant-loop-n
invariant-loop-n l = Remains l.initial.writer l.writer (text (falling_maps l.count)) (text (falling_maps l.n))
