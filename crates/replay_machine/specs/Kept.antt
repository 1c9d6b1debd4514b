-- What every state of a machine keeps, if its program is well formed.
use Rattle.std.specs.Prelude.{ℕ, ◌≤◌, [], ◌∷◌, ◌≡◌}
use Rattle.spec.specs.Expression.{Procedure}
use Rattle.calculus.specs.State.{Slot, unused}
use Rattle.calculus.specs.Claim.{Every}
use Rattle.replay_machine.specs.State.{MachineThread, Machine}
use Rattle.replay_machine.specs.Scoped.{Fits, ControlOk}

-- One environment is enough for the thread.
abbrev pub ThreadKept : MachineThread → Type 0
ThreadKept t = ControlOk t.control

-- "A body uses only x and its own lets".
abbrev pub ProcedureKept : Procedure → Type 0
ProcedureKept p = Fits (p.parameter ∷ []) p.body

abbrev pub UnusedFrom : (ℕ → Slot) → ℕ → Type 0
UnusedFrom names next = (n : ℕ) → next ≤ n → names n ≡ unused

pub record Kept (M : Machine) : Type 0 where
  pub procedures_kept : Every ProcedureKept M.procedures
  pub threads_kept : Every ThreadKept M.threads
  pub unused_from : UnusedFrom M.names M.next
