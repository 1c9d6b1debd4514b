-- The loop's invariant: the lets from v on remain to be written.
use Prim.Native.Nat.{◌-◌}
use Rattle.writer.proofs.Buffer.{Remains}
use Rattle.drill.specs.Lets.{lets_text}
use Rattle.drill.proofs.program_sheet.write_lets.Given as goal

abbrev pub invariant-loop-v : goal.invariant-loop-v
invariant-loop-v l = Remains l.initial.writer l.writer (lets_text l.value l.first (l.end - l.first)) (lets_text l.value l.v (l.end - l.v))
