-- The loop's invariant: the rows of m joins remain to be written.
use Rattle.text_theory.specs.Text.{text}
use Rattle.writer.proofs.Buffer.{Remains}
use Rattle.drill_theory.specs.Pair.{all_join_rows}
use Rattle.drill.proofs.split_sheet.write_all_join_rows.Given as goal

abbrev pub invariant-loop-m : goal.invariant-loop-m
invariant-loop-m l = Remains l.initial.writer l.writer (text (all_join_rows l.count)) (text (all_join_rows l.m))
