-- What the lent space and the records hold of the machine, with the counts of what it has made.
use Rattle.std.proofs.Common.{Some, slice_get}
use Prim.Native.Nat.{ℕ, suc, ◌+◌, ◌*◌, ◌<◌, ◌≤◌}
use mathlib.Core.Path.{◌≡◌, refl}
use mathlib.Core.Bool.{Bool, true, false}
use mathlib.Core.List.{List}
use native.Mathlib.Omega.{arith}
use lib.Dec.{ltb}
use lib.ListN.{length, get_or}
use Rattle.spec.specs.Choice.{when◌then◌else◌}
use Rattle.calculus.specs.State as calculus
use Rattle.calculus.specs.State.{opened, closed, readers, writer, unused, identifier, cell, a_lock, semaphore, rwlock}
use Rattle.threads.specs.declared.Record.{Record}
use Rattle.threads.specs.declared.Threads.{Threads}
use Rattle.threads.specs.Records.{no_record}
use Rattle.replay_control.specs.Layout.{control_point_modes_at, thing_counts_at, next_value_at, thing_kinds_at, thing_firsts_at, thing_seconds_at, space_size}
use Rattle.replay_objects.specs.declared.Thing.{Thing}
use Rattle.replay_objects.specs.declared.Thing.TheVariants.{Unused, Identifier, Cell, Lock, Semaphore, Rwlock, Written}
use Rattle.replay_objects.specs.declared.Slot.{Slot}
use Rattle.replay_objects.specs.Stored.{slot, thing_of}
use Rattle.replay_objects.proofs.Stored.{Plain}
use Rattle.replay_step.specs.Slots.{thing_at}
use Rattle.replay_engine.specs.ControlPoints.{control_point_at}
use Rattle.replay_theory.specs.Run.{ObjectKind, cells, locks, rwlocks, semaphores, identifiers, next_name}
use Rattle.replay_machine.specs.Control.{open_calls}
use Rattle.replay_machine.specs.State.{MachineThread}
use Rattle.replay_machine.specs.Step.{is_done}
use Rattle.replay_machine.specs.Kept.{UnusedFrom}
use Rattle.replay_theory.specs.declared.Status.TheVariants.{Running}
use Rattle.replay_machine.specs.Replay.{Replay, status_of}
use Rattle.replay_simulation.proofs.Held.{code_value, BodiesStand, ControlAt}

-- ------------------------------------------------------------------ names

-- the three numbers of the value v
unfoldable pub slot_at : (s : List ℕ) (v : ℕ) → Slot
slot_at s v = when ltb v 322 then slot (get_or s (thing_kinds_at + v) 0) (get_or s (thing_firsts_at + v) 0) (get_or s (thing_seconds_at + v) 0) else slot 0 0 0

-- its thing is read from them
pub thing_told : (s : List ℕ) (v : ℕ) → thing_at s v ≡ thing_of (slot_at s v)
unfolding thing_at slot_at thing_of
thing_told s v = by_range (ltb v 322) (slot (get_or s (thing_kinds_at + v) 0) (get_or s (thing_firsts_at + v) 0) (get_or s (thing_seconds_at + v) 0))
  where
    by_range : (b : Bool) (x : Slot) → (when b then thing_of x else Unused) ≡ thing_of (when b then x else slot 0 0 0)
    by_range true x = refl
    by_range false x = refl

-- what the numbers of a name say
abbrev pub coded : calculus.Slot → Thing
coded unused = Unused
coded identifier = Identifier
coded (cell v) = Cell (code_value v)
coded (a_lock opened) = Lock false
coded (a_lock closed) = Lock true
coded (semaphore n) = Semaphore n
coded (rwlock N (readers k)) = Rwlock N k
coded (rwlock N writer) = Written N

-- and which numbers they are: `slot_is` in Numbers has it of each name that is held
abbrev pub SlotIs : Slot → calculus.Slot → Type 0
SlotIs x unused = x.kind ≡ 0
SlotIs x identifier = x.kind ≡ 1
SlotIs x (cell v) = (x.kind ≡ 2) × (x.first ≡ code_value v)
SlotIs x (a_lock opened) = (x.kind ≡ 3) × (x.first ≡ 0)
SlotIs x (a_lock closed) = (x.kind ≡ 3) × (x.first ≡ 1)
SlotIs x (semaphore c) = (x.kind ≡ 4) × (c ≡ x.first + 4294967296 * x.second) × (x.first < 4294967296)
SlotIs x (rwlock N (readers k)) = (x.kind ≡ 5) × (x.first ≡ N) × (x.second ≡ k)
SlotIs x (rwlock N writer) = (x.kind ≡ 6) × (x.first ≡ N)

-- the number of a kind of things
abbrev pub kind_code : ObjectKind → ℕ
kind_code identifiers = 1
kind_code cells = 2
kind_code locks = 3
kind_code semaphores = 4
kind_code rwlocks = 5

pub kind_low : (k : ObjectKind) → kind_code k < 8
kind_low identifiers = omega arith
kind_low cells = omega arith
kind_low locks = omega arith
kind_low semaphores = omega arith
kind_low rwlocks = omega arith

-- what each name names is read from its numbers, and these are such as the code stores
pub record NamesHeld (s : List ℕ) (names : ℕ → calculus.Slot) (next : ℕ) (things : ObjectKind → ℕ) : Type 0 where
  pub constant : thing_at s 0 ≡ Unused
  pub slots : (n : ℕ) → suc n < 322 → thing_at s (suc n) ≡ coded (names n)
  pub plain : (v : ℕ) → Plain (slot_at s v)
  pub unused_from_lem : UnusedFrom names next
  pub next_stored : get_or s next_value_at 0 ≡ suc next
  pub counted : (k : ObjectKind) → get_or s (thing_counts_at + kind_code k) 0 ≡ things k
  pub few : (k : ObjectKind) → things k ≤ 64
  pub all : next ≡ next_name things

-- ------------------------------------------------------------------ threads

abbrev pub record_of : MachineThread → Record
record_of th = record { state = status_of th.joined th.control; tid = suc th.tid }

-- where a thread stands is read from its numbers; that of its mode is none past the last, `Done`
pub record ThreadHeld (p s : List ℕ) (T : Threads) (i : ℕ) (th : MachineThread) : Type 0 where
  pub recorded : get_or T.records i no_record ≡ record_of th
  pub control : ControlAt p s i (control_point_at s i) th.control
  pub plain : get_or s (control_point_modes_at + i) 0 ≤ 5
  pub settled : th.joined ≡ true → is_done th.control ≡ true
  pub calls : open_calls th.control ≤ 64

pub record Sized (T : Threads) (ts : List MachineThread) : Type 0 where
  pub count : T.count ≡ length ts
  pub fits : length ts ≤ 16
  pub records : length T.records ≡ 16
  pub behind : (i : ℕ) → length ts ≤ i → i < 16 → (get_or T.records i no_record).state ≡ Running

abbrev pub ThreadsHeld : (p s : List ℕ) → Threads → List MachineThread → Type 0
ThreadsHeld p s T ts = (i : ℕ) (th : MachineThread) → slice_get ts i ≡ Some th → ThreadHeld p s T i th

-- ------------------------------------------------------------------ all

pub record Holds (p s : List ℕ) (T : Threads) (R : Replay) : Type 0 where
  pub long : length s ≡ space_size
  pub bodies : BodiesStand p R.machine.procedures
  pub names : NamesHeld s R.machine.names R.machine.next R.things
  pub sized : Sized T R.machine.threads
  pub threads : ThreadsHeld p s T R.machine.threads
