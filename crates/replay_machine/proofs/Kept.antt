-- Every step keeps what Kept says.
use Rattle.std.proofs.Common.{Some}
use Prim.Native.Nat.{ℕ}
use mathlib.Core.Path.{◌≡◌}
use mathlib.Core.List.{List}
use lib.ListN.{set}
use Rattle.calculus.specs.Expression.{Redex}
use Rattle.calculus.specs.State.{Part}
use Rattle.calculus.specs.Claim.{Every}
use Rattle.replay_theory.specs.Paths.{Path}
use Rattle.replay_machine.specs.Control.{Control}
use Rattle.replay_machine.specs.State.{Machine, running}
use Rattle.replay_machine.specs.Step.{as_joined, step}
use Rattle.replay_machine.specs.Scoped.{ControlOk}
use Rattle.replay_machine.specs.Kept.{ThreadKept, Kept}
use Rattle.replay_theory.proofs.Lists.{every_at, every_set, every_append}
use Rattle.replay_machine.proofs.After.{next_updated, After, goes, called, made, spawned, joined, step_moves}

module _ (M : Machine) (i tid : ℕ) (kept : Kept M) where
  threads_set : (b : Control) → ControlOk b → Every ThreadKept (set M.threads i (running tid b))
  threads_set b ok = every_set ThreadKept M.threads i (running tid b) kept.threads_kept ok

  after_kept : {ps : List Path} {q : Path} {w : Redex} {N : Machine} → After M i tid ps q w N → Kept N
  after_kept (goes names b e unused_from ok tells) = record { procedures_kept = kept.procedures_kept; threads_kept = threads_set b ok; unused_from = unused_from }
  after_kept (called b e ok tells) = record {
    procedures_kept = kept.procedures_kept;
    threads_kept = threads_set b ok;
    unused_from = kept.unused_from;
  }
  after_kept (made k new b e ok tells) = record {
    procedures_kept = kept.procedures_kept;
    threads_kept = threads_set b ok;
    unused_from = next_updated M.names M.next new kept.unused_from;
  }
  after_kept (spawned n b b' e ok ok' tells tells') = record {
    procedures_kept = kept.procedures_kept;
    threads_kept = every_append ThreadKept (set M.threads i (running tid b)) (running n b') (threads_set b ok) ok';
    unused_from = kept.unused_from;
  }
  after_kept (joined n j u b e named found there ok tells) = record {
    procedures_kept = kept.procedures_kept;
    threads_kept = every_set ThreadKept (set M.threads i (running tid b)) j (as_joined u) (threads_set b ok)
        (every_at ThreadKept M.threads j u kept.threads_kept there);
    unused_from = kept.unused_from;
  }

pub step_kept : (M : Machine) (i : ℕ) (c : Part) (N : Machine) → Kept M → step M i c ≡ Some N → Kept N
step_kept M i c N kept q = let m = step_moves M i c N kept q in after_kept M i m.thread.tid kept m.after
