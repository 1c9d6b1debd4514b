-- The loop's invariant is a stage of it. Each map is read into its own part of the work space.
use Rattle.lexer.specs.Cursors.{place_at}
use Rattle.workspace.specs.Layout.{maps_at, work_size}
use Rattle.split_lines.specs.TypeLines.{cell_line}
use Rattle.split.specs.Stored.{HoldsMaps}
use Rattle.split.proofs.LoopSteps.{Stage}
use Rattle.split.proofs.map_lines.read_maps.Given as goal

abbrev pub invariant-loop-m : goal.invariant-loop-m
invariant-loop-m l = Stage (λ i. cell_line l.header.locations) (HoldsMaps l.header.locations) maps_at work_size l.header.maps l.text l.initial.work (place_at l.text l.initial.cursor) l.work l.cursor l.m
