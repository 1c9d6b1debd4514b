-- A thing is read back as it was stored, and each number that is stored is one of those that stand for it.
use Rattle.std.proofs.Common.{◌≡◌, refl, ap, ◌+◌, ◌*◌, ◌/◌, ◌%◌, ◌<◌, ◌≤◌, true, false, arith}
use Rattle.replay_objects.specs.declared.Thing.{Thing}
use Rattle.replay_objects.specs.declared.Thing.TheVariants.{Unused, Identifier, Cell, Lock, Semaphore, Rwlock, Written}
use Rattle.replay_objects.specs.declared.Slot.{Slot}
use Rattle.replay_objects.specs.Stored.{numbers_of, thing_of}

pub thing_read : (x : Thing) → thing_of (numbers_of x) ≡ x
unfolding numbers_of thing_of
thing_read Unused = refl
thing_read Identifier = refl
thing_read (Cell v) = refl
thing_read (Lock true) = refl
thing_read (Lock false) = refl
thing_read (Semaphore n) = ap Semaphore (let e : n % 4294967296 + 4294967296 * (n / 4294967296) ≡ n = omega arith in e)
thing_read (Rwlock places readers) = refl
thing_read (Written places) = refl

-- the numbers are such as are stored: the kind is that of a thing, of a lock the first is 0 or 1, and of a count it is the lower 32 bits
pub record Plain (x : Slot) : Type 0 where
  pub known : x.kind ≤ 6
  pub closed : x.kind ≡ 3 → x.first ≤ 1
  pub lower : x.kind ≡ 4 → x.first < 4294967296

pub numbers_plain : (x : Thing) → Plain (numbers_of x)
unfolding numbers_of
numbers_plain Unused = record { known = omega arith; closed = λ e. omega arith; lower = λ e. omega arith }
numbers_plain Identifier = record { known = omega arith; closed = λ e. omega arith; lower = λ e. omega arith }
numbers_plain (Cell v) = record { known = omega arith; closed = λ e. omega (arith, e); lower = λ e. omega (arith, e) }
numbers_plain (Lock true) = record { known = omega arith; closed = λ e. omega arith; lower = λ e. omega arith }
numbers_plain (Lock false) = record { known = omega arith; closed = λ e. omega arith; lower = λ e. omega arith }
numbers_plain (Semaphore n) = record { known = omega arith; closed = λ e. omega (arith, e); lower = λ e. omega arith }
numbers_plain (Rwlock places readers) = record { known = omega arith; closed = λ e. omega (arith, e); lower = λ e. omega (arith, e) }
numbers_plain (Written places) = record { known = omega arith; closed = λ e. omega (arith, e); lower = λ e. omega (arith, e) }
