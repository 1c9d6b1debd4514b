-- Programs with procedures (Section 3.1.3), with moves that run them. What they show is proved in proofs/Examples.
use Rattle.std.specs.Prelude.{List, [], ◌∷◌}
use Rattle.calculus.specs.Expression.{ref, lock, unlock, call, newtid, newlock, Exp, var, let_in, if, spawn, write, unary, nullary, Procedure, Program}
use Rattle.calculus.specs.State.{Move}
use Rattle.calculus.specs.Examples.{constant, ◌⨾◌, goes, names, leaves}

-- ---- A purge routine

-- It writes 0 to the cell that it is called with.
abbrev pub purge : Procedure
purge = record { parameter = 0; body = write (var 0) (constant 0) }

-- A thread that has x purged while it holds the lock; x is 1 and the lock is 2.
abbrev pub purges_locked : Exp
purges_locked = unary lock (var 2) ⨾ unary (call 0) (var 1) ⨾ unary unlock (var 2)

-- Two threads hand over the lock. The first keeps y, a cell of its own, over its call, and then writes it; y is 3.
abbrev pub purging : Program
purging = record {
  procedures = purge ∷ [];
  root = let_in 1 (unary ref (constant 7))
      (let_in 2 (nullary newlock)
      (let_in 3 (unary ref (constant 7))
      (spawn (nullary newtid) purges_locked
      ⨾ purges_locked
      ⨾ write (var 3) (constant 1))));
}

-- x, the lock and y get the names 1, 2 and 3; the other thread locks and calls, and is about to write.
abbrev pub moves_purging_to_call : List Move
moves_purging_to_call =
    names 0 1 ∷ goes 0 ∷ names 0 2 ∷ goes 0 ∷ names 0 3 ∷ goes 0 ∷ names 0 4 ∷ goes 0 ∷ goes 0 ∷ goes 1 ∷ goes 1 ∷ goes 1 ∷ []

-- Then it writes and unlocks, and the first locks, calls, writes and unlocks, and writes y.
abbrev pub moves_purging_to_end : List Move
moves_purging_to_end = goes 1 ∷ goes 1 ∷ goes 1 ∷ goes 0 ∷ goes 0 ∷ goes 0 ∷ goes 0 ∷ goes 0 ∷ goes 0 ∷ goes 0 ∷ goes 0 ∷ []

-- ---- A procedure that calls itself and another

-- It has the cell purged, and then may begin again.
abbrev pub purge_again : Procedure
purge_again = record { parameter = 2; body = unary (call 1) (var 2) ⨾ if (unary (call 0) (var 2)) (constant 0) }

abbrev pub purging_again : Program
purging_again = record { procedures = purge_again ∷ purge ∷ []; root = let_in 1 (unary ref (constant 7)) (unary (call 0) (var 1)) }

-- It begins again once, and then stops.
abbrev pub moves_purging_again : List Move
moves_purging_again =
    names 0 1 ∷ goes 0 ∷ goes 0 ∷ goes 0 ∷ goes 0 ∷ goes 0 ∷ goes 0 ∷ goes 0 ∷ goes 0 ∷ goes 0 ∷ goes 0 ∷ leaves 0 ∷ []

-- ---- What the caller keeps, counted twice

-- It does nothing and asks for nothing.
abbrev pub pause : Procedure
pause = record { parameter = 0; body = var 0 }

-- Were x counted twice while the first thread pauses, it could give the other the whole and still have the whole; x is 1.
abbrev pub kept_twice : Program
kept_twice = record {
  procedures = pause ∷ [];
  root = let_in 1 (unary ref (constant 0))
      (unary (call 0) (constant 0)
      ⨾ spawn (nullary newtid) (write (var 1) (constant 1))
      ⨾ write (var 1) (constant 2));
}

abbrev pub moves_kept_twice : List Move
moves_kept_twice = names 0 1 ∷ goes 0 ∷ goes 0 ∷ goes 0 ∷ names 0 2 ∷ goes 0 ∷ goes 0 ∷ []
