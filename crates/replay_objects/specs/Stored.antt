-- The three numbers that stand for a thing in the lent space.
use Rattle.std.specs.Prelude.{ℕ, ◌+◌, ◌*◌, ◌/◌, ◌%◌, not, eqb}
use Rattle.spec.specs.Choice.{when◌then◌else◌}
use Rattle.replay_objects.specs.declared.Thing.{Thing}
use Rattle.replay_objects.specs.declared.Thing.TheVariants.{Unused, Identifier, Cell, Lock, Semaphore, Rwlock, Written}
use Rattle.replay_objects.specs.declared.Slot.{Slot}

abbrev pub slot : (kind first second : ℕ) → Slot
slot k a b = record { kind = k; first = a; second = b }

-- a count is its lower 32 bits, and what is above them
unfoldable pub numbers_of : Thing → Slot
numbers_of Unused = slot 0 0 0
numbers_of Identifier = slot 1 0 0
numbers_of (Cell v) = slot 2 v 0
numbers_of (Lock closed) = slot 3 (when closed then 1 else 0) 0
numbers_of (Semaphore n) = slot 4 (n % 4294967296) (n / 4294967296)
numbers_of (Rwlock places readers) = slot 5 places readers
numbers_of (Written places) = slot 6 places 0

-- a kind that stands for none names nothing
unfoldable pub thing_of : Slot → Thing
thing_of x =
    when eqb x.kind 1 then Identifier
    else when eqb x.kind 2 then Cell x.first
    else when eqb x.kind 3 then Lock (not (eqb x.first 0))
    else when eqb x.kind 4 then Semaphore (x.first + 4294967296 * x.second)
    else when eqb x.kind 5 then Rwlock x.first x.second
    else when eqb x.kind 6 then Written x.first
    else Unused
