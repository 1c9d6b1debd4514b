-- The loop's invariant is a stage of it: what is stored, and that the rest of the lines is still to be read.
use Rattle.spec.specs.Split.{type_line}
use Rattle.lexer.specs.Cursors.{place_at}
use Rattle.workspace.specs.Layout.{kinds_at, types_end}
use Rattle.split.specs.Stored.{HoldsTypes}
use Rattle.split.proofs.LoopSteps.{Stage}
use Rattle.split.proofs.type_lines.read_types.Given as goal

abbrev pub invariant-loop-own : goal.invariant-loop-own
invariant-loop-own l = Stage (type_line l.header) HoldsTypes kinds_at types_end l.header.types l.text l.initial.work (place_at l.text l.initial.cursor) l.work l.cursor l.own
