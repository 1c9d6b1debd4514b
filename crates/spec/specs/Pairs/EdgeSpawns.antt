-- Rows about the start of a spawned body: given, or not given, under each heading. The answers are worked out by hand.
use Rattle.std.specs.Prelude.{List, [], ◌∷◌}
use Prim.Native.String.{String, ◌++◌}
use Rattle.spec.specs.Verdict.{numbers4}
use Rattle.spec.specs.Pairs.KnownPairs.{Pair, ◌with◌is◌}

-- a body that starts with what the split says, and an identifier that carries nothing
unfoldable pub spawning : String
spawning = "P,3|spawn,0|newtid,0|int,0|"

-- a `C` sheet for it; its step lines begin at line 7
unfoldable pub plainly : String → String
plainly rows = "C,2,1,2,3|int,0,0|tid,2,0|1|2|0|" ++ rows

-- a `C2` sheet for it: maps 0, 1 and 2 hold 2, 1 and nothing
unfoldable pub naming : String → String → String
naming start rows = "C2,2,1,2,3," ++ start ++ "|int,0,0|tid,2,0|2|1|0|" ++ rows

-- a cell, and a body that reads it, under a `C2` sheet
unfoldable pub reading : String → String
reading rows = "C2,2,1,3,3,0|int,0,0|ref,0,0|tid,2,0|2|1|0|" ++ rows

unfoldable pub spawn_edges : List Pair
unfolding spawning plainly naming reading
spawn_edges =
    -- 40 on its own line: after 21 and 22 there, before a later line's fault and before 23
    (spawning with (plainly "0,0,|1,0,|0,9,|") is numbers4 40 7 0 0) ∷
    (spawning with (plainly "0,0|1,0,|0,9,|") is numbers4 21 7 0 0) ∷
    (spawning with (plainly "0,9,|1,0,|0,9,|") is numbers4 22 7 0 0) ∷
    (spawning with (plainly "9,0,|1,0,|0,9,|") is numbers4 22 7 0 0) ∷
    (spawning with (plainly "0,0,|") is numbers4 40 7 0 0) ∷
    (spawning with (plainly "0,0,|1,0,|0,0,|x") is numbers4 40 7 0 0) ∷
    -- also where map 0 would have fitted; its owner writes 0
    (spawning with "C,2,1,2,2|int,0,0|tid,1,0|0|0|0,0,|1,0,|0,0,|" is numbers4 40 6 0 0) ∷
    (spawning with "C,2,1,2,2|int,0,0|tid,1,0|0|0|0,0,0|1,0,|0,0,|" is numbers4 0 0 0 0) ∷
    -- in a `C2` sheet the parent keeps all, and the body starts with nothing: neither map 0 nor map r
    (spawning with (naming "0" "0,0,|1,0,|0,2,|") is numbers4 0 0 0 0) ∷
    (spawning with (naming "0" "0,1,|1,0,|0,2,|") is numbers4 32 2 4 0) ∷
    (spawning with (naming "0" "0,0,|1,0,|0,0,|") is numbers4 32 4 2 0) ∷
    (spawning with (naming "1" "0,1,|1,1,|0,1,|") is numbers4 32 4 2 0) ∷
    (spawning with (naming "1" "0,1,|1,1,|0,2,|") is numbers4 0 0 0 0) ∷
    (spawning with (naming "0" "0,1,1|1,0,|0,1,|") is numbers4 0 0 0 0) ∷
    -- a body that reads with nothing, and one that is given a part
    ("P,7|let,0|ref,0|int,0|spawn,0|newtid,0|read,0|var,0|" with (reading "0,0,|1,0,|0,0,|0,0,|2,0,|0,2,|1,2,|") is numbers4 33 7 4 0) ∷
    ("P,7|let,0|ref,0|int,0|spawn,0|newtid,0|read,0|var,0|" with (reading "0,1,|1,0,|0,0,|0,1,1|2,0,|0,1,|1,1,|") is numbers4 0 0 0 0) ∷
    []
