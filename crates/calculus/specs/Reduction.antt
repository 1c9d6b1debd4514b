-- Reductions and runs: document 01's "The steps", after Figure 4.
use Rattle.std.specs.Prelude.{ℕ, zero, suc, List, [], ◌∷◌, ◌++◌, set, Option, None, Some, slice_get}
use Rattle.std.proofs.Math.Decide.{ℕ_discrete, dec_lt}
use Rattle.calculus.specs.Expression.{Value, int, name, HoldWord, rdlock, rdunlock, wrlock, wrunlock, Unary, join, ref, read, lock, unlock, post, wait, hold, call, Nullary, newtid, newlock, newsem, newrwlock, Exp, value, let_in, if, while, Redex, let_redex, if_redex, while_redex, spawn_redex, write_redex, unary_redex, nullary_redex, Next, is_value, at_variable, at_word, next_word, plug, choose, substitute, Procedure, Program}
use Rattle.calculus.specs.State.{LockState, opened, closed, Inside, readers, writer, Slot, unused, identifier, cell, a_lock, semaphore, rwlock, Thread, State, Part, first, second, Move, update, remove}

-- ---- What a word asks before it reduces: `none` where the answer is no

infixl 10 ◌>>=◌
abbrev pub ◌>>=◌ : {A B : Type 0} → Option A → (A → Option B) → Option B
None >>= f = None
Some a >>= f = f a

infixl 10 ◌>>◌
abbrev pub ◌>>◌ : {A B : Type 0} → Option A → Option B → Option B
o >> p = o >>= λ a. p

-- A name, not a constant.
abbrev pub name_of : Value → Option ℕ
name_of (int k) = None
name_of (name n) = Some n

abbrev pub if_unused : Slot → Option (Unit {0})
if_unused unused = Some tt
if_unused identifier = None
if_unused (cell v) = None
if_unused (a_lock l) = None
if_unused (semaphore c) = None
if_unused (rwlock N i) = None

abbrev pub if_identifier : Slot → Option (Unit {0})
if_identifier unused = None
if_identifier identifier = Some tt
if_identifier (cell v) = None
if_identifier (a_lock l) = None
if_identifier (semaphore c) = None
if_identifier (rwlock N i) = None

-- The value that a cell holds.
abbrev pub cell_value : Slot → Option Value
cell_value unused = None
cell_value identifier = None
cell_value (cell v) = Some v
cell_value (a_lock l) = None
cell_value (semaphore c) = None
cell_value (rwlock N i) = None

-- Whether a lock is open or closed.
abbrev pub lock_state : Slot → Option LockState
lock_state unused = None
lock_state identifier = None
lock_state (cell v) = None
lock_state (a_lock l) = Some l
lock_state (semaphore c) = None
lock_state (rwlock N i) = None

abbrev pub if_opened : LockState → Option (Unit {0})
if_opened opened = Some tt
if_opened closed = None

-- The count of a semaphore.
abbrev pub count : Slot → Option ℕ
count unused = None
count identifier = None
count (cell v) = None
count (a_lock l) = None
count (semaphore c) = Some c
count (rwlock N i) = None

-- The number that is one less, of a number above 0.
abbrev pub one_less : ℕ → Option ℕ
one_less zero = None
one_less (suc c) = Some c

-- The reading places of a read-write lock, and who is in.
abbrev pub rw_state : Slot → Option (ℕ × Inside)
rw_state unused = None
rw_state identifier = None
rw_state (cell v) = None
rw_state (a_lock l) = None
rw_state (semaphore c) = None
rw_state (rwlock N i) = Some (N, i)

-- Who is in after that word, at a lock with N reading places. "A reader waits while N holds are out or a writer is in. A writer waits
-- while anyone is in. A give-back waits until there is a hold of that kind to give."
abbrev pub inside_after : ℕ → HoldWord → Inside → Option Inside
inside_after N rdlock (readers k) = choose (dec_lt k N) (Some (readers (suc k))) None
inside_after N rdlock writer = None
inside_after N rdunlock (readers zero) = None
inside_after N rdunlock (readers (suc k)) = Some (readers k)
inside_after N rdunlock writer = None
inside_after N wrlock (readers zero) = Some writer
inside_after N wrlock (readers (suc k)) = None
inside_after N wrlock writer = None
inside_after N wrunlock (readers k) = None
inside_after N wrunlock writer = Some (readers 0)

abbrev pub if_equal : ℕ → ℕ → Option (Unit {0})
if_equal n m = choose (ℕ_discrete n m) (Some tt) None

-- The value that an expression is.
abbrev pub value_of : Next → Option Value
value_of (is_value v) = Some v
value_of (at_variable x) = None
value_of (at_word r) = None

-- The word that comes next, if one does: "Only the next word reduces".
abbrev pub word_of : Next → Option Redex
word_of (is_value v) = None
word_of (at_variable x) = None
word_of (at_word r) = Some r

-- ---- Reductions

abbrev pub zero_exp : Exp
zero_exp = value (int 0)

-- The variable of the `let` that a `while` becomes. It is used nowhere: a sheet's variables are 0 to 255, and a value has been put for
-- every variable by the time that the `while` around it is the next word.
abbrev pub nowhere : ℕ
nowhere = 256

abbrev pub part_listed : Part → Exp → Exp → Exp
part_listed first e₁ e₂ = e₁
part_listed second e₁ e₂ = e₂

-- A new lock is open; a new semaphore counts 0; no one is in at a new read-write lock.
abbrev pub made : Nullary → Slot
made newtid = identifier
made newlock = a_lock opened
made newsem = semaphore 0
made (newrwlock N) = rwlock N (readers 0)

-- The state in which the thread that moves, t, has e in the place of its next word, with these names.
abbrev pub becomes : State → Move → Thread → (ℕ → Slot) → Exp → State
becomes s m t names e = record { threads = set s.threads m.thread (record { tid = t.tid; body = plug t.body e }); names = names }

-- A new thread stands last: threads are in spawn order.
abbrev pub with_thread : Thread → State → State
with_thread t s = record { threads = s.threads ++ (t ∷ []); names = s.names }

abbrev pub without_thread : ℕ → State → State
without_thread j s = record { threads = remove s.threads j; names = s.names }

-- "`ref`, `newtid` and `newlock` become the name listed, if unused", and so do `newsem` and `newrwlock`; what it names from now on
-- is told.
abbrev pub named : State → Move → Thread → Slot → Option State
named s m t new = do
  if_unused (s.names m.fresh)
  Some (becomes s m t (update s.names m.fresh new) (value (name m.fresh)))

-- The procedures are the same in every state.
module _ (P : List Procedure) where
  -- The words with one part, on its value. `join` is of a finished thread, and the thread that joins has not finished, so it stays.
  -- `lock` waits unless the lock is open; `unlock` asks for a lock and no more: it goes ahead on an open one too. "Post adds one and
  -- never waits"; `wait` "needs a count above 0 and takes one". A word of a read-write lock changes who is in. A `call`
  -- "steps to the body with x replaced"; of a procedure that is not there it is no reduction.
  abbrev pub unary_reduct : State → Move → Thread → Unary → Value → Option State
  unary_reduct s m t join v = do
    n ← name_of v
    if_identifier (s.names n)
    u ← slice_get s.threads m.finished
    if_equal u.tid n
    value_of (next_word u.body)
    Some (without_thread m.finished (becomes s m t s.names zero_exp))
  unary_reduct s m t ref v = named s m t (cell v)
  unary_reduct s m t read v = do
    n ← name_of v
    w ← cell_value (s.names n)
    Some (becomes s m t s.names (value w))
  unary_reduct s m t lock v = do
    n ← name_of v
    l ← lock_state (s.names n)
    if_opened l
    Some (becomes s m t (update s.names n (a_lock closed)) zero_exp)
  unary_reduct s m t unlock v = do
    n ← name_of v
    lock_state (s.names n)
    Some (becomes s m t (update s.names n (a_lock opened)) zero_exp)
  unary_reduct s m t post v = do
    n ← name_of v
    c ← count (s.names n)
    Some (becomes s m t (update s.names n (semaphore (suc c))) zero_exp)
  unary_reduct s m t wait v = do
    n ← name_of v
    c ← count (s.names n)
    left ← one_less c
    Some (becomes s m t (update s.names n (semaphore left)) zero_exp)
  unary_reduct s m t (hold w) v = do
    n ← name_of v
    (N, i) ← rw_state (s.names n)
    after ← inside_after N w i
    Some (becomes s m t (update s.names n (rwlock N after)) zero_exp)
  unary_reduct s m t (call f) v = do
    p ← slice_get P f
    Some (becomes s m t s.names (substitute p.parameter v p.body))

  -- The state after thread t of s reduces that word, if the move m makes it a reduction.
  abbrev pub reduct : State → Move → Thread → Redex → Option State
  reduct s m t (let_redex x v e) = Some (becomes s m t s.names (substitute x v e))
  reduct s m t (if_redex e₁ e₂) = Some (becomes s m t s.names (part_listed m.part e₁ e₂))
  reduct s m t (while_redex e) = Some (becomes s m t s.names (if (let_in nowhere e (while e)) zero_exp))
  reduct s m t (spawn_redex v e) = do
    n ← name_of v
    if_identifier (s.names n)
    Some (with_thread (record { tid = n; body = e }) (becomes s m t s.names zero_exp))
  reduct s m t (write_redex v w) = do
    n ← name_of v
    cell_value (s.names n)
    Some (becomes s m t (update s.names n (cell w)) zero_exp)
  reduct s m t (unary_redex o v) = unary_reduct s m t o v
  reduct s m t (nullary_redex o) = named s m t (made o)

  -- The state after a move, if the move is a reduction.
  unfoldable pub reduce : State → Move → Option State
  reduce s m = do
    t ← slice_get s.threads m.thread
    r ← word_of (next_word t.body)
    reduct s m t r

-- ---- Runs

abbrev pub or_else : Option State → State → State
or_else None s = s
or_else (Some s') s = s'

module _ (P : List Procedure) where
  -- "A listed move that is no reduction leaves the state alone."
  unfoldable pub attempt : State → Move → State
  attempt s m = or_else (reduce P s m) s

  -- Every state on the way along a list of moves, first and last included.
  unfoldable pub states : List Move → State → List State
  states [] s = s ∷ []
  states (m ∷ ms) s = s ∷ states ms (attempt s m)

  -- The last of them.
  unfoldable pub run : List Move → State → State
  run [] s = s
  run (m ∷ ms) s = run ms (attempt s m)

-- One thread, no cells and no locks; its identifier is the one name used so far, and no program has it.
unfoldable pub start_state : Program → State
start_state p = record { threads = record { tid = 0; body = p.root } ∷ []; names = update (λ n. unused) 0 identifier }
