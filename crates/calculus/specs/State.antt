-- States and moves. Document 01: "a state is threads in spawn order, each an identifier and an expression; cells with their
-- values; locks", open or closed; "and the names used so far". Request (vi) adds semaphores with their counts, request
-- (xi) read-write locks with their reading places and the holds that are out.
use Rattle.std.specs.Prelude.{ℕ, zero, suc, List, [], ◌∷◌}
use Rattle.std.proofs.Math.Decide.{ℕ_discrete}
use Rattle.calculus.specs.Expression.{Value, Exp, choose}

pub data LockState : Type 0 where
  opened closed : LockState

-- Who is in at a read-write lock: so many reading holds are out, or a writer is in.
pub data Inside : Type 0 where
  readers : ℕ → Inside
  writer : Inside

-- What a name names. A name is used so far when its slot is not `unused`.
pub data Slot : Type 0 where
  unused : Slot
  identifier : Slot
  cell : Value → Slot
  a_lock : LockState → Slot
  semaphore : ℕ → Slot
  rwlock : (N : ℕ) → Inside → Slot

pub record Thread : Type 0 where
  pub tid : ℕ
  pub body : Exp

-- Every natural number is a name, and each has one slot, so the cells, the locks and the names used are one map. A thread is
-- told by its place in the list, since several may have one identifier.
pub record State : Type 0 where
  pub threads : List Thread
  pub names : ℕ → Slot

-- The parts of an `if`.
pub data Part : Type 0 where
  first second : Part

-- Document 01: "A move lists a thread, a part for an if, a finished thread for a join and a name for a new thing". What the
-- thread's next word does not need is ignored.
pub record Move : Type 0 where
  pub thread : ℕ
  pub part : Part
  pub finished : ℕ
  pub fresh : ℕ

-- The map f[n ↦ a] of Section 2.1.
abbrev pub update {ℓ} : {A : Type ℓ} → (ℕ → A) → ℕ → A → ℕ → A
update f n a m = choose (ℕ_discrete m n) a (f m)

-- The list without its element at that place; the others keep their order.
abbrev pub remove {ℓ} : {A : Type ℓ} → List A → ℕ → List A
remove [] n = []
remove (x ∷ xs) zero = xs
remove (x ∷ xs) (suc n) = x ∷ remove xs n
