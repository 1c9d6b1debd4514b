-- Rows for 30 and for each condition of each word, met and false. The answers are worked out by hand from document 01.
use Rattle.std.specs.Prelude.{List, [], ◌∷◌, ◌++◌ as ◌++ₗ◌}
use Prim.Native.String.{String, [] as []ˢ, ◌++◌}
use Rattle.spec.specs.Verdict.{numbers4}
use Rattle.spec.specs.Pairs.KnownPairs.{Pair, ◌with◌is◌}
use Rattle.spec.specs.Pairs.EdgeSheets.{times, of}

-- a split with D = 2, one location, types 0 int, 1 ref to int, 2 tid and 3 lock of one half, maps 0 to 3 of 2, 1, 0 and 3 halves
unfoldable pub rows : String → String
rows steps = "C,2,1,4,4|int,0,0|ref,0,0|tid,1,0|lock,1,0|2|1|0|3|" ++ steps

-- 30: the lowest location at which map 0 is over D, before any condition
unfoldable pub start_rows : List Pair
start_rows =
    ("P,1|int,0|" with "C,1,2,1,1|int,0,0|1,2|0,0,|" is numbers4 30 2 0 1) ∷
    ("P,1|int,0|" with "C,1,3,1,1|int,0,0|1,2,3|0,0,|" is numbers4 30 2 0 1) ∷
    ("P,1|int,0|" with "C,1,1,2,1|tid,0,0|int,0,0|2|0,0,|" is numbers4 30 2 0 0) ∷
    ("P,1|int,0|" with "C,1,1,1,2|int,0,0|1|2|0,0,|" is numbers4 0 0 0 0) ∷
    []

-- var
unfoldable pub var_rows : List Pair
var_rows =
    ("P,3|let,0|int,0|var,0|" with (rows "0,0,|0,0,|0,0,|") is numbers4 0 0 0 0) ∷
    ("P,3|let,0|int,0|var,0|" with (rows "1,0,|0,0,|1,0,|") is numbers4 31 4 1 0) ∷
    ("P,3|let,0|int,0|var,0|" with (rows "0,1,|0,0,|0,1,|") is numbers4 32 4 2 0) ∷
    []

-- int: any type of the kind int, by number or another; maps by their contents
unfoldable pub int_rows : List Pair
int_rows =
    ("P,1|int,0|" with (rows "1,0,|") is numbers4 31 2 1 0) ∷
    ("P,1|int,0|" with (rows "0,1,|") is numbers4 32 2 2 0) ∷
    ("P,1|int,0|" with "C,1,1,2,1|int,0,0|int,0,0|0|1,0,|" is numbers4 0 0 0 0) ∷
    ("P,1|int,0|" with "C,1,1,1,2|int,0,0|1|1|0,1,|" is numbers4 0 0 0 0) ∷
    ("P,1|int,0|" with "C,2,2,1,2|int,0,0|2,2|2,1|0,1,|" is numbers4 32 2 2 1) ∷
    ("P,1|int,0|" with "C,2,2,1,2|int,0,0|2,2|1,1|0,1,|" is numbers4 32 2 2 0) ∷
    []

-- let; the first false condition by line, then by number
unfoldable pub let_rows : List Pair
let_rows =
    ("P,3|let,0|int,0|int,0|" with (rows "1,0,|0,0,|0,0,|") is numbers4 31 2 1 0) ∷
    ("P,3|let,0|int,0|int,0|" with (rows "0,1,|0,0,|0,0,|") is numbers4 32 2 2 0) ∷
    ("P,3|let,0|int,0|int,0|" with (rows "1,1,|0,0,|0,0,|") is numbers4 31 2 1 0) ∷
    ("P,3|let,0|int,0|int,0|" with (rows "0,1,|1,0,|0,0,|") is numbers4 32 2 2 0) ∷
    ("P,3|let,0|int,0|int,0|" with "C,1,1,2,1|int,0,0|int,0,0|0|1,0,|0,0,|0,0,|" is numbers4 0 0 0 0) ∷
    []

-- if
unfoldable pub if_rows : List Pair
if_rows =
    ("P,3|if,0|int,0|int,0|" with (rows "0,0,|0,0,|0,0,|") is numbers4 0 0 0 0) ∷
    ("P,3|if,0|int,0|int,0|" with (rows "0,1,|0,0,|0,0,|") is numbers4 0 0 0 0) ∷
    ("P,3|if,0|int,0|int,0|" with (rows "0,0,|1,0,|0,0,|") is numbers4 31 2 1 0) ∷
    ("P,3|if,0|int,0|int,0|" with (rows "0,0,|0,0,|1,0,|") is numbers4 31 2 2 0) ∷
    ("P,3|if,0|int,0|int,0|" with (rows "0,3,|0,0,|0,3,|") is numbers4 32 2 3 0) ∷
    ("P,3|if,0|int,0|int,0|" with (rows "0,3,|0,3,|0,0,|") is numbers4 32 2 4 0) ∷
    []

-- while: its part begins with its post, not with its pre
unfoldable pub while_rows : List Pair
while_rows =
    ("P,2|while,0|int,0|" with (rows "0,0,|0,0,|") is numbers4 0 0 0 0) ∷
    ("P,2|while,0|int,0|" with (rows "0,1,|0,1,|") is numbers4 0 0 0 0) ∷
    ("P,2|while,0|int,0|" with (rows "1,1,|0,1,|") is numbers4 31 2 1 0) ∷
    ("P,2|while,0|int,0|" with (rows "0,3,|0,3,|") is numbers4 32 2 2 0) ∷
    ("P,2|while,0|int,0|" with (rows "0,1,|0,2,|") is numbers4 32 2 3 0) ∷
    ("P,2|while,0|int,0|" with (rows "0,1,|0,0,|") is numbers4 32 3 2 0) ∷
    []

-- newtid
unfoldable pub newtid_rows : List Pair
newtid_rows =
    ("P,1|newtid,0|" with (rows "2,0,|") is numbers4 0 0 0 0) ∷
    ("P,1|newtid,0|" with (rows "0,0,|") is numbers4 31 2 1 0) ∷
    ("P,1|newtid,0|" with (rows "3,0,|") is numbers4 31 2 1 0) ∷
    ("P,1|newtid,0|" with (rows "2,1,|") is numbers4 32 2 2 0) ∷
    []

-- spawn
unfoldable pub spawn_rows : List Pair
spawn_rows =
    ("P,3|spawn,0|newtid,0|int,0|" with (rows "0,1,1|2,0,|0,1,|") is numbers4 0 0 0 0) ∷
    ("P,3|spawn,0|newtid,0|int,0|" with (rows "1,1,1|2,0,|0,1,|") is numbers4 31 2 1 0) ∷
    ("P,3|spawn,0|newtid,0|int,0|" with (rows "0,1,1|0,0,|0,1,|") is numbers4 31 2 2 0) ∷
    ("P,3|spawn,0|newtid,0|int,0|" with (rows "0,1,1|3,0,|0,1,|") is numbers4 31 2 2 0) ∷
    ("P,3|spawn,0|newtid,0|int,0|" with (rows "0,1,1|2,0,|0,2,|") is numbers4 32 2 3 0) ∷
    ("P,3|spawn,0|newtid,0|int,0|" with (rows "0,0,1|2,0,|0,1,|") is numbers4 32 2 4 0) ∷
    ("P,3|spawn,0|newtid,0|int,0|" with (rows "0,2,|2,0,|0,0,|") is numbers4 40 10 0 0) ∷
    []

-- join
unfoldable pub join_rows : List Pair
join_rows =
    ("P,2|join,0|newtid,0|" with (rows "0,3,|2,0,|") is numbers4 0 0 0 0) ∷
    ("P,2|join,0|newtid,0|" with (rows "1,3,|2,0,|") is numbers4 31 2 1 0) ∷
    ("P,2|join,0|newtid,0|" with (rows "0,3,|0,0,|") is numbers4 31 2 2 0) ∷
    ("P,2|join,0|newtid,0|" with (rows "0,0,|2,0,|") is numbers4 32 2 3 0) ∷
    []

-- ref
unfoldable pub ref_rows : List Pair
ref_rows =
    ("P,2|ref,0|int,0|" with (rows "1,0,|0,0,|") is numbers4 0 0 0 0) ∷
    ("P,2|ref,0|int,0|" with (rows "0,0,|0,0,|") is numbers4 31 2 1 0) ∷
    ("P,2|ref,0|int,0|" with (rows "1,0,|1,0,|") is numbers4 31 2 1 0) ∷
    ("P,2|ref,0|int,0|" with (rows "1,1,|0,0,|") is numbers4 32 2 2 0) ∷
    []

-- read
unfoldable pub read_rows : List Pair
read_rows =
    ("P,3|read,0|ref,0|int,0|" with (rows "0,0,|1,0,|0,0,|") is numbers4 0 0 0 0) ∷
    ("P,3|read,0|ref,0|int,0|" with (rows "0,0,|0,0,|0,0,|") is numbers4 31 2 1 0) ∷
    ("P,3|read,0|ref,0|int,0|" with (rows "2,0,|1,0,|0,0,|") is numbers4 31 2 2 0) ∷
    ("P,3|read,0|ref,0|int,0|" with (rows "0,1,|1,0,|0,0,|") is numbers4 32 2 3 0) ∷
    ("P,3|read,0|ref,0|int,0|" with "C,2,1,2,1|int,0,0|ref,0,0|0|0,0,|1,0,|0,0,|" is numbers4 33 2 4 0) ∷
    ("P,3|read,0|ref,0|int,0|" with "C,2,2,2,1|int,0,0|ref,1,0|2,0|0,0,|1,0,|0,0,|" is numbers4 33 2 4 1) ∷
    ("P,3|read,0|ref,0|int,0|" with "C,2,1,2,1|int,0,0|ref,0,0|1|0,0,|1,0,|0,0,|" is numbers4 0 0 0 0) ∷
    []

-- write
unfoldable pub write_rows : List Pair
write_rows =
    ("P,4|write,0|ref,0|int,0|int,1|" with (rows "0,0,|1,0,|0,0,|0,0,|") is numbers4 0 0 0 0) ∷
    ("P,4|write,0|ref,0|int,0|int,1|" with (rows "1,0,|1,0,|0,0,|0,0,|") is numbers4 31 2 1 0) ∷
    ("P,4|write,0|ref,0|int,0|int,1|" with (rows "0,0,|0,0,|0,0,|0,0,|") is numbers4 31 2 2 0) ∷
    ("P,4|write,0|ref,0|int,0|int,1|" with (rows "0,0,|1,0,|0,0,|1,0,|") is numbers4 31 2 3 0) ∷
    ("P,4|write,0|ref,0|int,0|int,1|" with (rows "0,1,|1,0,|0,0,|0,0,|") is numbers4 32 2 4 0) ∷
    ("P,4|write,0|ref,0|int,0|int,1|" with "C,3,1,2,1|int,0,0|ref,0,0|2|0,0,|1,0,|0,0,|0,0,|" is numbers4 33 2 5 0) ∷
    ("P,4|write,0|ref,0|int,0|int,1|" with "C,2,2,2,1|int,0,0|ref,1,0|2,1|0,0,|1,0,|0,0,|0,0,|" is numbers4 33 2 5 1) ∷
    []

-- a write is tested against its post, not against map 0: a lock holds the rest here
unfoldable pub post_rows : List Pair
post_rows =
    ("P,6|let,0|newlock,0|write,0|ref,0|int,0|int,1|" with (rows "0,1,|3,1,|0,1,|1,1,|0,1,|0,1,|") is numbers4 33 4 5 0) ∷
    []

-- newlock
unfoldable pub newlock_rows : List Pair
newlock_rows =
    ("P,1|newlock,0|" with (rows "3,1,|") is numbers4 0 0 0 0) ∷
    ("P,1|newlock,0|" with (rows "0,1,|") is numbers4 31 2 1 0) ∷
    ("P,1|newlock,0|" with (rows "2,1,|") is numbers4 31 2 1 0) ∷
    ("P,1|newlock,0|" with (rows "3,0,|") is numbers4 32 2 2 0) ∷
    []

-- lock
unfoldable pub lock_rows : List Pair
lock_rows =
    ("P,2|lock,0|newlock,0|" with (rows "0,0,|3,1,|") is numbers4 0 0 0 0) ∷
    ("P,2|lock,0|newlock,0|" with (rows "1,0,|3,1,|") is numbers4 31 2 1 0) ∷
    ("P,2|lock,0|newlock,0|" with (rows "0,0,|2,1,|") is numbers4 31 2 2 0) ∷
    ("P,2|lock,0|newlock,0|" with (rows "0,1,|3,1,|") is numbers4 32 2 3 0) ∷
    []

-- unlock
unfoldable pub unlock_rows : List Pair
unlock_rows =
    ("P,2|unlock,0|newlock,0|" with (rows "0,2,|3,1,|") is numbers4 0 0 0 0) ∷
    ("P,2|unlock,0|newlock,0|" with (rows "1,2,|3,1,|") is numbers4 31 2 1 0) ∷
    ("P,2|unlock,0|newlock,0|" with (rows "0,2,|2,1,|") is numbers4 31 2 2 0) ∷
    ("P,2|unlock,0|newlock,0|" with (rows "0,1,|3,1,|") is numbers4 32 2 3 0) ∷
    []

-- 256 steps are in range
unfoldable pub full_rows : List Pair
full_rows =
    (("P,256|" ++ times 255 "while,0|" ++ "int,0|") with (of (times 256 "0,0,|")) is numbers4 0 0 0 0) ∷
    []

-- all of them
unfoldable pub condition_edges : List Pair
unfolding rows start_rows var_rows int_rows let_rows if_rows while_rows newtid_rows spawn_rows join_rows ref_rows read_rows write_rows post_rows newlock_rows lock_rows unlock_rows full_rows
condition_edges =
    start_rows
    ++ₗ var_rows
    ++ₗ int_rows
    ++ₗ let_rows
    ++ₗ if_rows
    ++ₗ while_rows
    ++ₗ newtid_rows
    ++ₗ spawn_rows
    ++ₗ join_rows
    ++ₗ ref_rows
    ++ₗ read_rows
    ++ₗ write_rows
    ++ₗ post_rows
    ++ₗ newlock_rows
    ++ₗ lock_rows
    ++ₗ unlock_rows
    ++ₗ full_rows
