-- The loop's invariant is a stage of it: what is stored, and that the rest of the lines is still to be read.
use Prim.Native.Nat.{◌+◌}
use Rattle.spec.specs.Split.{signature_line}
use Rattle.lexer.specs.Cursors.{place_at}
use Rattle.workspace.specs.Layout.{sig_befores_at, sig_results_at}
use Rattle.split.specs.Stored.{HoldsSignatures}
use Rattle.split.proofs.LoopSteps.{Stage}
use Rattle.split.proofs.signature_lines.read_signatures.Given as goal

abbrev pub invariant-loop-f : goal.invariant-loop-f
invariant-loop-f l =
    Stage (λ i. signature_line l.header) HoldsSignatures sig_befores_at (sig_results_at + 16) l.procedures l.text l.initial.work (place_at l.text l.initial.cursor) l.work l.cursor l.f
