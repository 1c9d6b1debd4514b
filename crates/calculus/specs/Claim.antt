-- What is claimed of a program: no race and no odd halt in any state on the way, for every list of moves; and that two steps on cells, of
-- different threads, may be taken in either order.
use Rattle.std.specs.Prelude.{ℕ, ◌≡◌, ◌≢◌, ◌⊎◌, List, [], ◌∷◌, Option, None, Some, slice_get}
use Rattle.calculus.specs.Expression.{Value, name, HoldWord, join, read, lock, wait, hold, value, write_redex, unary_redex, at_word, next_word, Procedure, Program}
use Rattle.calculus.specs.State.{closed, Inside, identifier, cell, a_lock, semaphore, rwlock, Thread, State, Move}
use Rattle.calculus.specs.Reduction.{◌>>=◌, inside_after, reduce, states, run, start_state}

-- Thread t stands at place i.
abbrev pub ThreadAt : State → ℕ → Thread → Type 0
ThreadAt s i t = slice_get s.threads i ≡ Some t

-- ---- Races

-- "It is about to read or write a cell when its next word is a `read` or `write` of that cell."
pub data AboutToRead (s : State) (t : Thread) (n : ℕ) : Type 0 where
  about_to_read : (v : Value) → s.names n ≡ cell v → next_word t.body ≡ at_word (unary_redex read (name n)) → AboutToRead s t n

pub data AboutToWrite (s : State) (t : Thread) (n : ℕ) : Type 0 where
  about_to_write : (v w : Value) → s.names n ≡ cell v → next_word t.body ≡ at_word (write_redex (name n) w) → AboutToWrite s t n

-- Definition 2.1: one thread is about to write a cell that another is about to read or write. Two threads are different when
-- they stand at different places; they may share an identifier.
pub data Race (s : State) : Type 0 where
  race : (i j n : ℕ) (t u : Thread) → i ≢ j → ThreadAt s i t → ThreadAt s j u → AboutToWrite s t n →
      AboutToRead s u n ⊎ AboutToWrite s u n → Race s

abbrev pub RaceFree : State → Type 0
RaceFree s = ¬ Race s

-- ---- Halts

-- "A thread has finished when its expression is a value."
pub data Finished (t : Thread) : Type 0 where
  finished : (v : Value) → t.body ≡ value v → Finished t

-- "It waits at a `join` on an identifier that no finished thread has, and at a `lock` [..] on a lock that is not open", and, by
-- request (vi), at a `wait` on a count of 0. Request (xi): "waits at these four taking and giving words join the allowed halts".
pub data Waits (s : State) (t : Thread) : Type 0 where
  at_join : (n : ℕ) → next_word t.body ≡ at_word (unary_redex join (name n)) → s.names n ≡ identifier →
      ((j : ℕ) (u : Thread) → ThreadAt s j u → u.tid ≡ n → ¬ Finished u) → Waits s t
  at_lock : (n : ℕ) → next_word t.body ≡ at_word (unary_redex lock (name n)) → s.names n ≡ a_lock closed → Waits s t
  at_wait : (n : ℕ) → next_word t.body ≡ at_word (unary_redex wait (name n)) → s.names n ≡ semaphore 0 → Waits s t
  at_hold : (n N : ℕ) (w : HoldWord) (i : Inside) → next_word t.body ≡ at_word (unary_redex (hold w) (name n)) → s.names n ≡ rwlock N i →
      inside_after N w i ≡ None → Waits s t
  -- No other word waits; an `unlock`, above all, goes ahead on any lock.

-- "It halts in a state where no move of its own is a reduction."
abbrev pub Halts : List Procedure → State → ℕ → Type 0
Halts P s i = (m : Move) → m.thread ≡ i → reduce P s m ≡ None

-- No odd halt: a thread that halts has finished, or waits.
abbrev pub HaltsWell : List Procedure → State → Type 0
HaltsWell P s = (i : ℕ) (t : Thread) → ThreadAt s i t → Halts P s i → Finished t ⊎ Waits s t

-- ---- The claim

abbrev pub Every : {A : Type 0} → (A → Type 0) → List A → Type 0
Every Q [] = Unit {0}
Every Q (x ∷ xs) = Q x × Every Q xs

-- One claim about the list of moves as a whole.
abbrev pub Safe : Program → Type 0
Safe p = (ms : List Move) → Every (λ s. RaceFree s × HaltsWell p.procedures s) (states p.procedures ms (start_state p))

-- ---- Cell steps in either order: request (xiii)

-- "Any state that an accepted job can reach": some list of moves leads there from the start.
pub data Reachable (p : Program) : State → Type 0 where
  reached : (ms : List Move) → Reachable p (run p.procedures ms (start_state p))

-- A thread that can read or write a cell next.
pub data AboutToUse (s : State) (t : Thread) : Type 0 where
  about_to_use : (n : ℕ) → AboutToRead s t n ⊎ AboutToWrite s t n → AboutToUse s t

-- The state after the move m and then k, if both are reductions.
abbrev pub taking_both : List Procedure → State → Move → Move → Option State
taking_both P s m k = reduce P s m >>= λ s'. reduce P s' k

-- "Taking both steps in either order must give the same state": in either order both moves are reductions, and the state after them is one
-- and the same, in its threads and in its names.
pub record SameEitherWay (P : List Procedure) (s : State) (m k : Move) : Type 0 where
  pub after : State
  pub one_way : taking_both P s m k ≡ Some after
  pub other_way : taking_both P s k m ≡ Some after

-- "If two different threads can each read or write a cell next": the moves m and k are theirs.
abbrev pub CellStepsSwap : List Procedure → State → Type 0
CellStepsSwap P s = (m k : Move) (t u : Thread) → m.thread ≢ k.thread → ThreadAt s m.thread t → ThreadAt s k.thread u →
    AboutToUse s t → AboutToUse s u → SameEitherWay P s m k

abbrev pub InEitherOrder : Program → Type 0
InEitherOrder p = (s : State) → Reachable p s → CellStepsSwap p.procedures s
