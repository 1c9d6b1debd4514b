-- Programs of the paper and a few beside them, with moves that run them. What they show is proved in proofs/Examples.
use Rattle.std.specs.Prelude.{ℕ, zero, suc, List, [], ◌∷◌}
use Rattle.calculus.specs.Expression.{int, HoldWord, rdlock, rdunlock, wrlock, wrunlock, Unary, join, ref, read, lock, unlock, post, wait, hold, newtid, newlock, newsem, newrwlock, Exp, value, var, let_in, if, while, spawn, write, unary, nullary, Program}
use Rattle.calculus.specs.State.{first, second, Move}
use Rattle.calculus.specs.Reduction.{nowhere}
use Rattle.calculus.specs.Capability.{Cap}

-- ---- Short forms

abbrev pub constant : ℕ → Exp
constant k = value (int k)

-- The paper's e₁; e₂, a `let` of a variable that e₂ does not use.
infixr 10 ◌⨾◌
abbrev pub ◌⨾◌ : Exp → Exp → Exp
e₁ ⨾ e₂ = let_in nowhere e₁ e₂

-- A program with no procedures.
abbrev pub plain : Exp → Program
plain e = record { procedures = []; root = e }

-- Thread i moves, and its word needs nothing else.
abbrev pub goes : ℕ → Move
goes i = record { thread = i; part = first; finished = 0; fresh = 0 }

-- Thread i makes a thing that gets the name n.
abbrev pub names : ℕ → ℕ → Move
names i n = record { thread = i; part = first; finished = 0; fresh = n }

-- Thread i takes the second part of an `if`.
abbrev pub leaves : ℕ → Move
leaves i = record { thread = i; part = second; finished = 0; fresh = 0 }

-- Thread i joins the thread at place j.
abbrev pub joins : ℕ → ℕ → Move
joins i j = record { thread = i; part = first; finished = j; fresh = 0 }

-- a of location 0 and b of location 1.
abbrev pub holding : ℕ → ℕ → Cap
holding a b zero = a
holding a b (suc zero) = b
holding a b (suc (suc ρ)) = 0

-- ---- Figure 2

-- (a) A race: the spawned thread reads x while the other writes it.
abbrev pub figure2a : Program
figure2a = plain
    (let_in 0 (unary ref (constant 0))
    (spawn (nullary newtid) (unary read (var 0))
    ⨾ write (var 0) (constant 1)))

-- The first thread makes x, 1, and an identifier, 2, spawns, and is about to write; so is the other to read.
abbrev pub moves2a : List Move
moves2a = names 0 1 ∷ goes 0 ∷ names 0 2 ∷ goes 0 ∷ goes 0 ∷ []

-- (b) The same with a join.
abbrev pub figure2b : Program
figure2b = plain
    (let_in 0 (unary ref (constant 0))
    (let_in 1 (nullary newtid)
    (spawn (var 1) (unary read (var 0))
    ⨾ unary join (var 1)
    ⨾ write (var 0) (constant 1))))

-- Up to the join, with the other thread still about to read.
abbrev pub moves2b_to_join : List Move
moves2b_to_join = names 0 1 ∷ goes 0 ∷ names 0 2 ∷ goes 0 ∷ goes 0 ∷ goes 0 ∷ []

-- Then the other reads, and the first joins and writes.
abbrev pub moves2b_to_end : List Move
moves2b_to_end = goes 1 ∷ joins 0 1 ∷ goes 0 ∷ goes 0 ∷ []

-- (c) The same with a lock.
abbrev pub figure2c : Program
figure2c = plain
    (let_in 0 (unary ref (constant 0))
    (let_in 1 (nullary newlock)
    (spawn (nullary newtid) (unary lock (var 1) ⨾ unary read (var 0) ⨾ unary unlock (var 1))
    ⨾ unary lock (var 1)
    ⨾ write (var 0) (constant 1)
    ⨾ unary unlock (var 1))))

-- Up to where both threads are about to lock, and the spawned one does.
abbrev pub moves2c_to_lock : List Move
moves2c_to_lock = names 0 1 ∷ goes 0 ∷ names 0 2 ∷ goes 0 ∷ names 0 3 ∷ goes 0 ∷ goes 0 ∷ goes 1 ∷ []

-- Then it reads and unlocks, and the first locks, writes and unlocks.
abbrev pub moves2c_to_end : List Move
moves2c_to_end = goes 1 ∷ goes 1 ∷ goes 1 ∷ goes 1 ∷ goes 0 ∷ goes 0 ∷ goes 0 ∷ goes 0 ∷ goes 0 ∷ []

-- ---- Section 2.2: two locks for one cell. With NEWL-unsound each would lend the whole of x.

abbrev pub two_locks : Program
two_locks = plain
    (let_in 0 (unary ref (constant 0))
    (let_in 1 (nullary newlock)
    (let_in 2 (nullary newlock)
    (spawn (nullary newtid) (unary lock (var 1) ⨾ unary read (var 0) ⨾ unary unlock (var 1))
    ⨾ unary lock (var 2)
    ⨾ write (var 0) (constant 1)
    ⨾ unary unlock (var 2)))))

-- Each thread takes its lock and is about to use x.
abbrev pub moves_two_locks : List Move
moves_two_locks =
    names 0 1 ∷ goes 0 ∷ names 0 2 ∷ goes 0 ∷ names 0 3 ∷ goes 0 ∷ names 0 4 ∷ goes 0 ∷ goes 0
    ∷ goes 0 ∷ goes 0 ∷ goes 1 ∷ goes 1 ∷ []

-- ---- Section 2.2.1: threads in a loop that share one identifier; x is 0, y is 1, t is 2, l is 3 and z is 4.

abbrev pub section221_thread : Exp
section221_thread =
    let_in 4 (unary read (var 1))
    (unary lock (var 3)
    ⨾ write (var 0) (var 4)
    ⨾ unary unlock (var 3))

abbrev pub section221 : Program
section221 = plain
    (let_in 0 (unary ref (constant 0))
    (let_in 1 (unary ref (constant 0))
    (let_in 2 (nullary newtid)
    (let_in 3 (nullary newlock)
    (while
    (spawn (var 2) section221_thread
    ⨾ spawn (var 2) section221_thread
    ⨾ unary join (var 2)
    ⨾ unary join (var 2)
    ⨾ write (var 1) (constant 1)))))))

-- x, y, t and l get the names 1 to 4, and the loop is entered.
abbrev pub moves221_to_loop : List Move
moves221_to_loop = names 0 1 ∷ goes 0 ∷ names 0 2 ∷ goes 0 ∷ names 0 3 ∷ goes 0 ∷ names 0 4 ∷ goes 0 ∷ goes 0 ∷ goes 0 ∷ []

-- Two threads are spawned; the second runs to its end, then the first.
abbrev pub moves221_threads : List Move
moves221_threads =
    goes 0 ∷ goes 0 ∷ goes 0 ∷ goes 0
    ∷ goes 2 ∷ goes 2 ∷ goes 2 ∷ goes 2 ∷ goes 2 ∷ goes 2 ∷ goes 2
    ∷ goes 1 ∷ goes 1 ∷ goes 1 ∷ goes 1 ∷ goes 1 ∷ goes 1 ∷ goes 1 ∷ []

-- Both are joined, the second first; then y is written, and the loop left at its second turn.
abbrev pub moves221_to_end : List Move
moves221_to_end = joins 0 2 ∷ goes 0 ∷ joins 0 1 ∷ goes 0 ∷ goes 0 ∷ goes 0 ∷ goes 0 ∷ leaves 0 ∷ []

-- ---- Section 3.1.4: semaphores

-- A thread that waits for a post and then writes x; x is 0 and the semaphore is 1.
abbrev pub waits_and_writes : Exp
waits_and_writes = unary wait (var 1) ⨾ write (var 0) (constant 1)

-- The first thread writes x and hands it over to such a thread.
abbrev pub handover : Program
handover = plain
    (let_in 0 (unary ref (constant 0))
    (let_in 1 (nullary newsem)
    (spawn (nullary newtid) waits_and_writes
    ⨾ write (var 0) (constant 2)
    ⨾ unary post (var 1))))

-- Up to where the first thread is about to make the semaphore.
abbrev pub moves_handover_to_newsem : List Move
moves_handover_to_newsem = names 0 1 ∷ goes 0 ∷ []

-- Then the other thread is spawned and is about to wait on a count of 0.
abbrev pub moves_handover_to_wait : List Move
moves_handover_to_wait = names 0 2 ∷ goes 0 ∷ names 0 3 ∷ goes 0 ∷ goes 0 ∷ []

-- Then the first writes and posts.
abbrev pub moves_handover_to_post : List Move
moves_handover_to_post = goes 0 ∷ goes 0 ∷ goes 0 ∷ []

-- Then the other waits and writes.
abbrev pub moves_handover_to_end : List Move
moves_handover_to_end = goes 1 ∷ goes 1 ∷ goes 1 ∷ []

-- Figure 7: two posts let two threads write. Unlike an `unlock`, a post is not idempotent.
abbrev pub figure7 : Program
figure7 = plain
    (let_in 0 (unary ref (constant 0))
    (let_in 1 (nullary newsem)
    (spawn (nullary newtid) waits_and_writes
    ⨾ spawn (nullary newtid) waits_and_writes
    ⨾ unary post (var 1)
    ⨾ unary post (var 1))))

abbrev pub moves_figure7 : List Move
moves_figure7 =
    names 0 1 ∷ goes 0 ∷ names 0 2 ∷ goes 0 ∷ names 0 3 ∷ goes 0 ∷ goes 0 ∷ names 0 4 ∷ goes 0 ∷ goes 0
    ∷ goes 0 ∷ goes 0 ∷ goes 0 ∷ goes 1 ∷ goes 1 ∷ goes 2 ∷ goes 2 ∷ []

-- ---- Figure 8: read-write locks

-- A thread that takes a reading place and reads x; x is 0 and the lock is 1.
abbrev pub reads_the_book : Exp
reads_the_book = unary (hold rdlock) (var 1) ⨾ unary read (var 0) ⨾ unary (hold rdunlock) (var 1)

-- A book with two reading places: two threads read it, and the first thread writes it.
abbrev pub colour_book : Program
colour_book = plain
    (let_in 0 (unary ref (constant 0))
    (let_in 1 (nullary (newrwlock 2))
    (spawn (nullary newtid) reads_the_book
    ⨾ spawn (nullary newtid) reads_the_book
    ⨾ unary (hold wrlock) (var 1)
    ⨾ write (var 0) (constant 1)
    ⨾ unary (hold wrunlock) (var 1))))

-- Up to where the first thread is about to take the book for writing, and the others for reading; the book is 2.
abbrev pub moves_to_book : List Move
moves_to_book =
    names 0 1 ∷ goes 0 ∷ names 0 2 ∷ goes 0 ∷ names 0 3 ∷ goes 0 ∷ goes 0 ∷ names 0 4 ∷ goes 0 ∷ goes 0 ∷ []

-- Then both readers take it, and are about to read.
abbrev pub moves_book_to_reads : List Move
moves_book_to_reads = goes 1 ∷ goes 1 ∷ goes 2 ∷ goes 2 ∷ []

-- Then both read and give back, and the first thread writes.
abbrev pub moves_book_to_end : List Move
moves_book_to_end = goes 1 ∷ goes 1 ∷ goes 1 ∷ goes 2 ∷ goes 2 ∷ goes 2 ∷ goes 0 ∷ goes 0 ∷ goes 0 ∷ goes 0 ∷ goes 0 ∷ []

-- One thread takes the only reading place twice.
abbrev pub reads_twice : Program
reads_twice = plain (let_in 0 (nullary (newrwlock 1)) (unary (hold rdlock) (var 0) ⨾ unary (hold rdlock) (var 0)))

abbrev pub moves_reads_twice : List Move
moves_reads_twice = names 0 1 ∷ goes 0 ∷ goes 0 ∷ goes 0 ∷ []

-- A book is given back that no one has.
abbrev pub gives_back : HoldWord → Program
gives_back w = plain (let_in 0 (nullary (newrwlock 1)) (unary (hold w) (var 0)))

abbrev pub moves_gives_back : List Move
moves_gives_back = names 0 1 ∷ goes 0 ∷ []

-- The first thread takes both reading places, which is enough to write. The other takes one and reads.
abbrev pub both_places : Program
both_places = plain
    (let_in 0 (unary ref (constant 0))
    (let_in 1 (nullary (newrwlock 2))
    (spawn (nullary newtid) (unary (hold rdlock) (var 1) ⨾ unary read (var 0))
    ⨾ unary (hold rdlock) (var 1)
    ⨾ unary (hold rdlock) (var 1)
    ⨾ write (var 0) (constant 1))))

-- Up to where the first thread is about to write, and the other to take a place.
abbrev pub moves_both_places : List Move
moves_both_places = names 0 1 ∷ goes 0 ∷ names 0 2 ∷ goes 0 ∷ names 0 3 ∷ goes 0 ∷ goes 0 ∷ goes 0 ∷ goes 0 ∷ goes 0 ∷ goes 0 ∷ []

-- ---- Section 3.1.6: locks that take more than they give

-- Two locks with unlike loads meet in one variable.
abbrev pub two_loads : Program
two_loads = plain
    (let_in 0 (nullary newlock)
    (let_in 1 (nullary newlock)
    (let_in 2 (if (var 0) (var 1))
    (unary lock (var 2)))))

-- With the printed out inequality the first thread could lock, give back nothing, and write.
abbrev pub unlock_for_nothing : Program
unlock_for_nothing = plain
    (let_in 0 (unary ref (constant 0))
    (let_in 1 (nullary newlock)
    (spawn (nullary newtid) (unary lock (var 1) ⨾ write (var 0) (constant 1))
    ⨾ unary lock (var 1)
    ⨾ unary unlock (var 1)
    ⨾ write (var 0) (constant 2))))

-- It locks and unlocks; then the other locks, and both are about to write.
abbrev pub moves_unlock_for_nothing : List Move
moves_unlock_for_nothing =
    names 0 1 ∷ goes 0 ∷ names 0 2 ∷ goes 0 ∷ names 0 3 ∷ goes 0 ∷ goes 0 ∷ goes 0 ∷ goes 0 ∷ goes 0 ∷ goes 0 ∷ goes 1 ∷ goes 1 ∷ []

-- ---- Beside the paper

-- Two threads with one identifier that write one cell.
abbrev pub one_identifier : Program
one_identifier = plain
    (let_in 0 (unary ref (constant 0))
    (let_in 1 (nullary newtid)
    (spawn (var 1) (write (var 0) (constant 1))
    ⨾ spawn (var 1) (write (var 0) (constant 2)))))

abbrev pub moves_one_identifier : List Move
moves_one_identifier = names 0 1 ∷ goes 0 ∷ names 0 2 ∷ goes 0 ∷ goes 0 ∷ goes 0 ∷ goes 0 ∷ []

-- A `post` of a lock.
abbrev pub post_of_lock : Program
post_of_lock = plain (let_in 0 (nullary newlock) (unary post (var 0)))

-- The lock gets the name 1, and is about to be posted.
abbrev pub moves_post_of_lock : List Move
moves_post_of_lock = names 0 1 ∷ goes 0 ∷ []

-- A word with one part on a constant.
abbrev pub on_constant : Unary → Exp
on_constant o = unary o (constant 0)
