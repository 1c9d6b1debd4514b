-- Rows for the start written out. The answers are worked out by hand from documents 01 and 02.
use Rattle.std.specs.Prelude.{List, [], ◌∷◌, ◌++◌ as ◌++ₗ◌}
use Prim.Native.String.{String, ◌++◌}
use Rattle.spec.specs.Verdict.{numbers4}
use Rattle.spec.specs.Pairs.KnownPairs.{Pair, ◌with◌is◌}

-- a sheet with one type and two maps, for a program of one step; its header, its maps, the step's post
unfoldable pub named : String → String → String → String
named header maps post = header ++ "|int,0,0|" ++ maps ++ "|0," ++ post ++ ",|"

-- line 1: as many numerals as the heading wants, then form before range, then r below M
unfoldable pub heading_rows : List Pair
heading_rows =
    ("P,1|int,0|" with (named "C,1,1,1,2,0" "1|1" "0") is numbers4 21 1 0 0) ∷
    ("P,1|int,0|" with (named "C2,1,1,1,2" "1|1" "0") is numbers4 21 1 0 0) ∷
    ("P,1|int,0|" with (named "C2,1,1,1,2,0,0" "1|1" "0") is numbers4 21 1 0 0) ∷
    ("P,1|int,0|" with (named "C2,1,1,1,2," "1|1" "0") is numbers4 21 1 0 0) ∷
    ("P,1|int,0|" with (named "C2" "1|1" "0") is numbers4 21 1 0 0) ∷
    ("P,1|int,0|" with (named "c2,1,1,1,2,0" "1|1" "0") is numbers4 21 1 0 0) ∷
    ("P,1|int,0|" with (named "C2,0,1,1,2,00" "1|1" "0") is numbers4 21 1 0 0) ∷
    ("P,1|int,0|" with (named "C2,0,1,1,2,0" "1|1" "0") is numbers4 22 1 0 0) ∷
    ("P,1|int,0|" with (named "C2,1,1,1,2,2" "1|1" "0") is numbers4 22 1 0 0) ∷
    ("P,1|int,0|" with (named "C2,1,1,1,0,0" "1|1" "0") is numbers4 22 1 0 0) ∷
    ("P,1|int,0|" with (named "C2,1,1,1,2,0" "1|1" "0") is numbers4 0 0 0 0) ∷
    ("P,1|int,0|" with (named "C2,1,1,1,2,1" "1|1" "0") is numbers4 0 0 0 0) ∷
    []

-- 30 looks at map r, not at map 0; the root's pre is map r; a `C` sheet starts with map 0
unfoldable pub named_rows : List Pair
named_rows =
    ("P,1|int,0|" with (named "C2,1,1,1,2,1" "1|2" "1") is numbers4 30 2 0 0) ∷
    ("P,1|int,0|" with (named "C2,1,1,1,2,1" "2|1" "1") is numbers4 0 0 0 0) ∷
    ("P,1|int,0|" with (named "C,1,1,1,2" "2|1" "1") is numbers4 30 2 0 0) ∷
    ("P,1|int,0|" with (named "C2,1,1,1,2,1" "1|0" "0") is numbers4 32 2 2 0) ∷
    ("P,1|int,0|" with (named "C,1,1,1,2" "1|0" "0") is numbers4 0 0 0 0) ∷
    []

-- a spawn that gives no start gives nothing, neither map 0 nor map r: the whole is 2, of which the spawn keeps 1
unfoldable pub spawned_rows : List Pair
spawned_rows =
    ("P,3|spawn,0|newtid,0|int,0|" with "C2,2,1,2,2,1|int,0,0|tid,0,0|1|2|0,0,|1,1,|0,0,|" is numbers4 32 2 4 0) ∷
    ("P,3|spawn,0|newtid,0|int,0|" with "C2,2,1,2,2,1|int,0,0|tid,0,0|1|2|0,0,1|1,1,|0,0,|" is numbers4 32 2 4 0) ∷
    []

-- all of them
unfoldable pub start_edges : List Pair
unfolding named heading_rows named_rows spawned_rows
start_edges = heading_rows ++ₗ named_rows ++ₗ spawned_rows
