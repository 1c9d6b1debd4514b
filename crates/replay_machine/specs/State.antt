-- A state of the machine, and the state of the calculus that it stands for.
use Rattle.std.specs.Prelude.{ℕ, zero, suc, Bool, true, false, List, [], ◌∷◌, map}
use Rattle.spec.specs.Expression.{Procedure}
use Rattle.spec.specs.Program.{Program}
use Rattle.calculus.specs.Expression as calculus
use Rattle.calculus.specs.State.{Slot, unused, identifier, Thread, State, update}
use Rattle.soundness.specs.Erasure.{erase_procedure}
use Rattle.replay_machine.specs.Environment.{zeros}
use Rattle.replay_machine.specs.Control.{Control, decode, enter}

-- A thread keeps its place when it is joined, and is marked: threads are told by their places.
pub record MachineThread : Type 0 where
  pub tid : ℕ
  pub joined : Bool
  pub control : Control

-- Names are given out in order: from `next` on none is used. The procedures never change.
pub record Machine : Type 0 where
  pub procedures : List Procedure
  pub threads : List MachineThread
  pub names : ℕ → Slot
  pub next : ℕ

-- ---- The state that it stands for

abbrev pub decode_thread : MachineThread → Thread
decode_thread t = record { tid = t.tid; body = decode t.control }

abbrev pub unless {ℓ} : {A : Type ℓ} → Bool → (A → A) → A → A
unless true f a = a
unless false f a = f a

-- What f tells of each thread that is not joined, in their order; the first thread has the number i.
abbrev pub of_live {ℓ} : {A : Type ℓ} → (ℕ → MachineThread → A) → (i : ℕ) → List MachineThread → List A
of_live f i [] = []
of_live f i (t ∷ ts) = unless t.joined (λ l. f i t ∷ l) (of_live f (suc i) ts)

-- The threads that are not joined.
abbrev pub live : List MachineThread → List Thread
live ts = of_live (λ i t. decode_thread t) 0 ts

-- The place of thread i among those: how many before it are not joined.
abbrev pub rank : List MachineThread → ℕ → ℕ
rank [] i = i
rank (t ∷ ts) zero = zero
rank (t ∷ ts) (suc i) = unless t.joined suc (rank ts i)

abbrev pub decode_state : Machine → State
decode_state M = record { threads = live M.threads; names = M.names }

abbrev pub decode_procedures : Machine → List calculus.Procedure
decode_procedures M = map erase_procedure M.procedures

-- ---- The start

abbrev pub running : (tid : ℕ) → Control → MachineThread
running tid b = record { tid = tid; joined = false; control = b }

unfoldable pub start_machine : Program → Machine
start_machine P = record {
  procedures = P.procedures;
  threads = running 0 (enter zeros P.root []) ∷ [];
  names = update (λ n. unused) 0 identifier;
  next = 1;
}
