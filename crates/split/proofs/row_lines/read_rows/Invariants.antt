-- The loop's invariant is a stage of it. The words that it reads stand below what it stores.
use Rattle.lexer.specs.Cursors.{place_at}
use Rattle.workspace.specs.Layout.{row_types_at, pres_at}
use Rattle.workspace.specs.Steps.{step_at}
use Rattle.split_lines.specs.RowLines.{word_line}
use Rattle.split.specs.Stored.{HoldsRows}
use Rattle.split.proofs.LoopSteps.{Stage}
use Rattle.split.proofs.row_lines.read_rows.Given as goal

abbrev pub invariant-loop-k : goal.invariant-loop-k
invariant-loop-k l = Stage (λ i. word_line l.purpose l.header (step_at l.initial.work i).word) HoldsRows row_types_at pres_at l.steps l.text l.initial.work (place_at l.text l.initial.cursor) l.work l.cursor l.k
