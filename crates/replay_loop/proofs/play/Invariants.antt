-- The loop's invariant: the point stays steady; and to whatever end the trace comes, the lines from here on come to it.
use mathlib.Core.List.{List}
use mathlib.Core.Path.{◌≡◌}
use Prim.Native.Nat.{◌-◌}
use lib.ListN.{length}
use Rattle.spec.specs.Text.{Line}
use Rattle.replay_theory.specs.declared.Replayed.{Replayed}
use Rattle.replay_loop.specs.Play.{Steady, LoopPre}
use Rattle.replay_loop.proofs.play.Given as goal

abbrev pub invariant-loop-p : goal.invariant-loop-p
invariant-loop-p l =
    (length l.space ≡ length l.initial.space) × Steady l.piece l.p × ((whole : List Line → Replayed) → LoopPre whole l.program l.initial.space l.piece l.initial.p → LoopPre whole l.program l.space l.piece l.p)

abbrev pub decreases-loop-p : goal.decreases-loop-p
decreases-loop-p l = length l.piece - l.p.at
