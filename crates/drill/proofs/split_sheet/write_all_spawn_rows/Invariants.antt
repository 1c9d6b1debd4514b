-- The loop's invariant: the rows of the spawns from map m on remain to be written.
use Prim.Native.Nat.{◌-◌}
use Rattle.text_theory.specs.Text.{text}
use Rattle.writer.proofs.Buffer.{Remains}
use Rattle.drill_theory.specs.Pair.{all_spawn_rows}
use Rattle.drill.proofs.split_sheet.write_all_spawn_rows.Given as goal

abbrev pub invariant-loop-m : goal.invariant-loop-m
invariant-loop-m l = Remains l.initial.writer l.writer (text (all_spawn_rows l.share.0 0 l.count)) (text (all_spawn_rows l.share.0 l.m (l.count - l.m)))
