-- A run as a trace records it: a state of the calculus with the numbers of its threads, and the step that a trace line is.
use Rattle.std.specs.Prelude.{ℕ, zero, suc, ◌+◌, Bool, true, false, not, ◌&&◌, List, [], ◌∷◌, ◌++◌, eqb, leb, ltb, length, Option, None, Some, option_map, slice_get}
use Rattle.spec.specs.Choice.{when◌then◌else◌}
use Rattle.calculus.specs.Expression.{Value, Unary, join, ref, read, lock, unlock, post, wait, hold, call, Nullary, newtid, newlock, newsem, newrwlock, Exp, Redex, let_redex, if_redex, while_redex, spawn_redex, write_redex, unary_redex, nullary_redex, Next, is_value, at_variable, at_word, next_word, choose, Procedure, Program}
use Rattle.calculus.specs.State.{Thread, State, Part, first, second, Move, remove}
use Rattle.calculus.specs.Reduction.{◌>>=◌, name_of, word_of, reduce, start_state}
use Rattle.replay_theory.specs.Trace.{TraceLine}
use Rattle.replay_theory.specs.Paths.{Path, next_path, part_at}
use Rattle.replay_theory.specs.declared.Status.{Status}
use Rattle.replay_theory.specs.declared.Status.TheVariants.{Running, Finished, Joined}

-- ------------------------------------------------------------------ runs

-- The things that a run makes. No thing changes its kind or goes away.
pub data ObjectKind : Type 0 where
  cells locks rwlocks semaphores identifiers : ObjectKind
  deriving Discrete as same_kind

-- A run so far, of a program with these procedures: `numbers` has the numbers of the threads that are in the state, place by place, and none
-- of a joined one; `calls` has the open calls of each of them, the paths at which they were taken, the latest first; then how many threads
-- there have been, and things of each kind, "each kind counted by itself over the whole run".
pub record Run : Type 0 where
  pub procedures : List Procedure
  pub state : State
  pub numbers : List ℕ
  pub calls : List (List Path)
  pub threads : ℕ
  pub things : ObjectKind → ℕ

-- "the start thread included and its identifier not": it is thread 0, and its identifier has the name 0
unfoldable pub start_run : Program → Run
start_run p = record { procedures = p.procedures; state = start_state p; numbers = 0 ∷ []; calls = [] ∷ []; threads = 1; things = λ k. 0 }

-- ------------------------------------------------------------------ threads

-- "threads count from 0 in spawn order": the place of thread i in the state, if it is there
unfoldable pub place_of : (i : ℕ) → (numbers : List ℕ) → Option ℕ
place_of i [] = None
place_of i (n ∷ ns) = when eqb i n then Some 0 else option_map suc (place_of i ns)

unfoldable pub has_finished : Next → Bool
has_finished (is_value v) = true
has_finished (at_variable x) = false
has_finished (at_word w) = false

-- "Each thread has one record: running, finished or joined"; a thread that has begun and is not in the state is joined, and of one that has
-- not begun there is no record
unfoldable pub record_for : (begun : Bool) → Option Thread → Option Status
record_for begun (Some t) = Some (when has_finished (next_word t.body) then Finished else Running)
record_for begun None = when begun then Some Joined else None

unfoldable pub record_of : Run → (i : ℕ) → Option Status
record_of r i = record_for (ltb i r.threads) (place_of i r.numbers >>= slice_get r.state.threads)

-- ------------------------------------------------------------------ what a word does

-- "choice is 0 or 1 at an if and 0 elsewhere, 0 taking e1"
unfoldable pub part_of_if : (choice : ℕ) → Option Part
part_of_if zero = Some first
part_of_if (suc zero) = Some second
part_of_if (suc (suc c)) = None

-- where there is nothing to choose, the part that a move lists is ignored
unfoldable pub no_choice : (choice : ℕ) → Option Part
no_choice zero = Some first
no_choice (suc c) = None

-- what a word does to the threads, calls and things of a run
pub data Effect : Type 0 where
  plain spawns joins opens : Effect
  makes : ObjectKind → Effect
  deriving Discrete as same_effect

-- All that a replay asks of a word: the part that a choice takes, its effect, and the names that it joins, reads and writes.
pub record Traits : Type 0 where
  pub part : (choice : ℕ) → Option Part
  pub effect : Effect
  pub joining : Option ℕ
  pub reading : Option ℕ
  pub writing : Option ℕ

-- of most words there is only an effect to tell
abbrev pub does : Effect → Traits
does e = record { part = no_choice; effect = e; joining = None; reading = None; writing = None }

unfoldable pub unary_traits : Unary → Value → Traits
unary_traits join v = record { part = no_choice; effect = joins; joining = name_of v; reading = None; writing = None }
unary_traits ref v = does (makes cells)
unary_traits read v = record { part = no_choice; effect = plain; joining = None; reading = name_of v; writing = None }
unary_traits lock v = does plain
unary_traits unlock v = does plain
unary_traits post v = does plain
unary_traits wait v = does plain
unary_traits (hold w) v = does plain
unary_traits (call f) v = does opens

abbrev pub kind_made : Nullary → ObjectKind
kind_made newtid = identifiers
kind_made newlock = locks
kind_made newsem = semaphores
kind_made (newrwlock N) = rwlocks

unfoldable pub traits : Redex → Traits
traits (let_redex x v e) = does plain
traits (if_redex e₁ e₂) = record { part = part_of_if; effect = plain; joining = None; reading = None; writing = None }
traits (while_redex e) = does plain
traits (spawn_redex v e) = does spawns
traits (write_redex v w) = record { part = no_choice; effect = plain; joining = None; reading = None; writing = name_of v }
traits (unary_redex o v) = unary_traits o v
traits (nullary_redex o) = does (makes (kind_made o))

abbrev pub part_chosen : Redex → (choice : ℕ) → Option Part
part_chosen w c = (traits w).part c

abbrev pub effect : Redex → Effect
effect w = (traits w).effect

-- ------------------------------------------------------------------ the move that a trace line lists

-- "Among several finished threads a join takes the lowest": the first place of a finished thread with the identifier n. If there is none, this
-- is the place behind the last, where no thread stands, and the join is no reduction.
unfoldable pub lowest_finished : (n : ℕ) → List Thread → ℕ
lowest_finished n [] = 0
lowest_finished n (t ∷ ts) = when eqb t.tid n && has_finished (next_word t.body) then 0 else suc (lowest_finished n ts)

-- a join of no name is no reduction, and every other word ignores the finished thread that a move lists
unfoldable pub finished_for : Option ℕ → List Thread → ℕ
finished_for None ts = 0
finished_for (Some n) ts = lowest_finished n ts

-- names are given in turn: 0 to the start's identifier, then one to each thing that is made
unfoldable pub next_name : (things : ObjectKind → ℕ) → ℕ
next_name things = 1 + things cells + things locks + things rwlocks + things semaphores + things identifiers

unfoldable pub move_of : Run → (place : ℕ) → Redex → Part → Move
move_of r p w c = record { thread = p; part = c; finished = finished_for (traits w).joining r.state.threads; fresh = next_name r.things }

-- ------------------------------------------------------------------ open calls

-- the thread at that place takes a call at the path q
unfoldable pub record_call : (place : ℕ) → Path → List (List Path) → List (List Path)
record_call p q [] = []
record_call zero q (ps ∷ calls) = (q ∷ ps) ∷ calls
record_call (suc p) q (ps ∷ calls) = ps ∷ record_call p q calls

-- "a call taken is open in each state where its body is no value yet": the body stands where the call stood
unfoldable pub is_open : Option Exp → Bool
is_open None = false
is_open (Some body) = not (has_finished (next_word body))

unfoldable pub still_open : Exp → List Path → List Path
still_open e [] = []
still_open e (q ∷ ps) = when is_open (part_at q e) then (q ∷ still_open e ps) else still_open e ps

unfoldable pub open_calls : List Thread → List (List Path) → List (List Path)
open_calls [] calls = []
open_calls (t ∷ ts) [] = []
open_calls (t ∷ ts) (ps ∷ calls) = still_open t.body ps ∷ open_calls ts calls

-- ------------------------------------------------------------------ the run after a step

-- of a list with an entry for each thread: that of a spawned thread stands last, and that of a joined one is left out
unfoldable pub entries_after : {A : Type 0} → Move → Effect → (new : A) → List A → List A
entries_after m plain x xs = xs
entries_after m spawns x xs = xs ++ (x ∷ [])
entries_after m joins x xs = remove xs m.finished
entries_after m opens x xs = xs
entries_after m (makes k) x xs = xs

-- the number of a spawned thread is how many there were before it
abbrev pub numbers_after : Run → Move → Effect → List ℕ
numbers_after r m e = entries_after m e r.threads r.numbers

-- the open calls before a step that are looked at after it, and the one taken at the path q; a spawned thread has none
unfoldable pub calls_after : Move → (q : Path) → Effect → List (List Path) → List (List Path)
calls_after m q e calls = entries_after m e [] (choose (same_effect same_kind e opens) (record_call m.thread q calls) calls)

-- one more, if the effect is the one that is counted
unfoldable pub one_more_if : (counted e : Effect) → ℕ → ℕ
one_more_if counted e n = choose (same_effect same_kind e counted) (suc n) n

unfoldable pub things_after : Effect → (things : ObjectKind → ℕ) → ObjectKind → ℕ
things_after e things k = one_more_if (makes k) e (things k)

-- the run whose state is s after the move m, of a thread whose next word stood at the path q
unfoldable pub after : Run → Move → (q : Path) → Effect → State → Run
after r m q e s = record {
  procedures = r.procedures;
  state = s;
  numbers = numbers_after r m e;
  calls = open_calls s.threads (calls_after m q e r.calls);
  threads = one_more_if spawns e r.threads;
  things = things_after e r.things;
}

-- the run after "exactly the language's step", if thread i can take one with that choice
unfoldable pub stepped : Run → TraceLine → Option Run
stepped r l = do
  p ← place_of l.thread r.numbers
  t ← slice_get r.state.threads p
  w ← word_of (next_word t.body)
  c ← part_chosen w l.choice
  s ← reduce r.procedures r.state (move_of r p w c)
  Some (after r (move_of r p w c) (next_path t.body) (effect w) s)

-- ------------------------------------------------------------------ limits

-- "past 16 threads or past 64 cells, locks, read-write locks, semaphores or identifiers"
unfoldable pub thread_limit : ℕ
thread_limit = 16

unfoldable pub thing_limit : ℕ
thing_limit = 64

unfoldable pub within_limits : (threads : ℕ) → (things : ObjectKind → ℕ) → Bool
within_limits threads things =
    leb threads thread_limit
    && leb (things cells) thing_limit
    && leb (things locks) thing_limit
    && leb (things rwlocks) thing_limit
    && leb (things semaphores) thing_limit
    && leb (things identifiers) thing_limit

-- "a step to a state with over 64 open calls in one thread is 48"
unfoldable pub call_limit : ℕ
call_limit = 64

unfoldable pub calls_within : List (List Path) → Bool
calls_within [] = true
calls_within (ps ∷ calls) = leb (length ps) call_limit && calls_within calls

unfoldable pub within : Run → Bool
within r = within_limits r.threads r.things && calls_within r.calls
