-- Rows for locks that take more than they give, under `C3`: what a var line may show, in each direction and at each word that compares
-- types; in and out at each word on a lock; the lock line; 44. The answers are worked out by hand from documents 01 and 02.
use Rattle.std.specs.Prelude.{List, [], ◌∷◌, ◌++◌ as ◌++ₗ◌}
use Prim.Native.String.{String, ◌++◌}
use Rattle.spec.specs.Verdict.{numbers4}
use Rattle.spec.specs.Pairs.KnownPairs.{Pair, ◌with◌is◌}

-- a split with D = 2 and maps 0, 1, 2 of 2, 1 and nothing. Lock types by in and out: 1 has 1 and 1, 2 nothing and 1, 3 1 and 2, 4 nothing
-- and 2, 5 nothing and nothing, 6 2 and 2. Types 7 and 8 are refs to 1 and 2; 9 is a tid.
unfoldable pub unlike : String → String
unlike rows =
    "C3,2,1,10,3,0|int,0,0|lock,1,1|lock,2,1|lock,1,0|lock,2,0|lock,2,2|lock,0,0|ref,0,1|ref,0,2|tid,1,0|2|1|0|" ++ rows

-- two locations; 2 is looser than 1 at the last alone, 3 has more in there, 4 less out
unfoldable pub unlike_last : String → String
unlike_last rows = "C3,2,2,5,5,0|int,0,0|lock,1,1|lock,1,2|lock,2,2|lock,3,4|2,2|1,1|1,2|0,0|1,0|" ++ rows

-- var: in nowhere above, out nowhere below; against its own let's value, also where that is a var line that shows a looser type
unfoldable pub shown_rows : List Pair
shown_rows =
    ("P,3|let,0|newlock,0|var,0|" with (unlike "1,1,|1,1,|1,1,|") is numbers4 0 0 0 0) ∷
    ("P,3|let,0|newlock,0|var,0|" with (unlike "2,1,|1,1,|2,1,|") is numbers4 0 0 0 0) ∷
    ("P,3|let,0|newlock,0|var,0|" with (unlike "3,1,|1,1,|3,1,|") is numbers4 0 0 0 0) ∷
    ("P,3|let,0|newlock,0|var,0|" with (unlike "4,1,|1,1,|4,1,|") is numbers4 0 0 0 0) ∷
    ("P,3|let,0|newlock,0|var,0|" with (unlike "5,1,|1,1,|5,1,|") is numbers4 31 4 1 0) ∷
    ("P,3|let,0|newlock,0|var,0|" with (unlike "6,1,|1,1,|6,1,|") is numbers4 31 4 1 0) ∷
    ("P,3|let,0|newlock,0|var,0|" with (unlike "9,1,|1,1,|9,1,|") is numbers4 31 4 1 0) ∷
    ("P,3|let,0|newlock,0|var,0|" with (unlike "1,2,|4,2,|1,2,|") is numbers4 31 4 1 0) ∷
    ("P,3|let,0|newlock,0|var,0|" with (unlike "2,2,|4,2,|2,2,|") is numbers4 31 4 1 0) ∷
    ("P,3|let,0|newlock,0|var,0|" with (unlike "3,2,|4,2,|3,2,|") is numbers4 31 4 1 0) ∷
    ("P,3|let,0|newtid,0|var,0|" with (unlike "1,0,|9,0,|1,0,|") is numbers4 31 4 1 0) ∷
    ("P,5|let,0|newlock,0|let,1|var,0|var,1|" with (unlike "4,1,|1,1,|4,1,|2,1,|4,1,|") is numbers4 0 0 0 0) ∷
    ("P,5|let,0|newlock,0|let,1|var,0|var,1|" with (unlike "1,1,|1,1,|1,1,|2,1,|1,1,|") is numbers4 31 6 1 0) ∷
    ("P,3|let,0|newlock,0|var,0|" with (unlike_last "2,1,|1,1,|2,1,|") is numbers4 0 0 0 0) ∷
    ("P,3|let,0|newlock,0|var,0|" with (unlike_last "3,1,|1,1,|3,1,|") is numbers4 31 4 1 0) ∷
    ("P,3|let,0|newlock,0|var,0|" with (unlike_last "4,1,|1,1,|4,1,|") is numbers4 31 4 1 0) ∷
    []

-- elsewhere both maps hold equal numbers, in and out alike: at let, if, ref, read and write, and inside a ref that a var line shows
unfoldable pub unlike_elsewhere : List Pair
unlike_elsewhere =
    ("P,3|let,0|newlock,0|var,0|" with (unlike "2,1,|1,1,|1,1,|") is numbers4 31 2 1 0) ∷
    ("P,3|let,0|newlock,0|var,0|" with (unlike "1,1,|1,1,|2,1,|") is numbers4 31 2 1 0) ∷
    ("P,3|let,0|newlock,0|var,0|" with (unlike "3,1,|1,1,|1,1,|") is numbers4 31 2 1 0) ∷
    ("P,3|let,0|newlock,0|var,0|" with (unlike "1,1,|1,1,|3,1,|") is numbers4 31 2 1 0) ∷
    ("P,5|let,0|newlock,0|if,0|var,0|var,0|" with (unlike "2,1,|1,1,|2,1,|2,1,|2,1,|") is numbers4 0 0 0 0) ∷
    ("P,5|let,0|newlock,0|if,0|var,0|var,0|" with (unlike "2,1,|1,1,|2,1,|1,1,|2,1,|") is numbers4 31 4 1 0) ∷
    ("P,5|let,0|newlock,0|if,0|var,0|var,0|" with (unlike "2,1,|1,1,|2,1,|2,1,|1,1,|") is numbers4 31 4 2 0) ∷
    ("P,5|let,0|newlock,0|if,0|var,0|var,0|" with (unlike "1,1,|1,1,|1,1,|2,1,|2,1,|") is numbers4 31 4 1 0) ∷
    ("P,2|ref,0|newlock,0|" with (unlike "7,1,|1,1,|") is numbers4 0 0 0 0) ∷
    ("P,2|ref,0|newlock,0|" with (unlike "8,1,|1,1,|") is numbers4 31 2 1 0) ∷
    ("P,2|ref,0|newlock,0|" with (unlike "7,1,|2,1,|") is numbers4 31 2 1 0) ∷
    ("P,3|read,0|ref,0|newlock,0|" with (unlike "1,1,|7,1,|1,1,|") is numbers4 0 0 0 0) ∷
    ("P,3|read,0|ref,0|newlock,0|" with (unlike "2,1,|7,1,|1,1,|") is numbers4 31 2 2 0) ∷
    ("P,4|write,0|ref,0|newlock,0|newlock,0|" with (unlike "0,2,|7,1,|1,1,|2,2,|") is numbers4 31 2 3 0) ∷
    ("P,4|let,0|ref,0|newlock,0|var,0|" with (unlike "7,1,|7,1,|1,1,|7,1,|") is numbers4 0 0 0 0) ∷
    ("P,4|let,0|ref,0|newlock,0|var,0|" with (unlike "8,1,|7,1,|1,1,|8,1,|") is numbers4 31 5 1 0) ∷
    []

-- two locks with unlike loads meet in one variable
unfoldable pub meeting_rows : List Pair
meeting_rows =
    ("P,8|let,0|newlock,0|let,1|newlock,0|lock,0|if,0|var,0|var,1|" with
    (unlike "0,1,|1,1,|0,1,|5,1,|0,1,|2,1,|2,1,|2,1,|") is numbers4 0 0 0 0) ∷
    ("P,8|let,0|newlock,0|let,1|newlock,0|lock,0|if,0|var,0|var,1|" with
    (unlike "0,0,|1,1,|0,0,|5,1,|0,0,|1,1,|1,1,|1,1,|") is numbers4 31 9 1 0) ∷
    []

-- newlock and unlock use out, lock uses in
unfoldable pub in_out_rows : List Pair
in_out_rows =
    ("P,1|newlock,0|" with (unlike "2,1,|") is numbers4 0 0 0 0) ∷
    ("P,1|newlock,0|" with (unlike "2,0,|") is numbers4 32 2 2 0) ∷
    ("P,2|lock,0|newlock,0|" with (unlike "0,1,|2,1,|") is numbers4 0 0 0 0) ∷
    ("P,2|lock,0|newlock,0|" with (unlike "0,0,|2,1,|") is numbers4 32 2 3 0) ∷
    ("P,2|unlock,0|newlock,0|" with (unlike "0,2,|2,1,|") is numbers4 0 0 0 0) ∷
    ("P,2|unlock,0|newlock,0|" with (unlike "0,1,|2,1,|") is numbers4 32 2 3 0) ∷
    []

-- the heading and the lock line: under `C3` the third field is a map, under the others it is 0; on a tid and a sem line it stays 0
unfoldable pub lock_lines : List Pair
lock_lines =
    ("P,1|int,0|" with "C3,1,1,1,1|int,0,0|0|0,0,|" is numbers4 21 1 0 0) ∷
    ("P,1|int,0|" with "C3,1,1,1,2,2|int,0,0|0|0|0,0,|" is numbers4 22 1 0 0) ∷
    ("P,1|int,0|" with "C3,1,1,1,2,1|int,0,0|2|1|0,1,|" is numbers4 0 0 0 0) ∷
    ("P,1|int,0|" with "C,1,1,2,2|int,0,0|lock,0,1|1|1|0,0,|" is numbers4 22 3 0 0) ∷
    ("P,1|int,0|" with "C2,1,1,2,2,0|int,0,0|lock,0,1|1|1|0,0,|" is numbers4 22 3 0 0) ∷
    ("P,1|int,0|" with "C3,1,1,2,2,0|int,0,0|lock,0,1|1|1|0,0,|" is numbers4 0 0 0 0) ∷
    ("P,1|int,0|" with "C3,1,1,2,2,0|int,0,0|lock,0,2|1|1|0,0,|" is numbers4 22 3 0 0) ∷
    ("P,1|int,0|" with "C3,1,1,2,2,0|int,0,0|lock,2,0|1|1|0,0,|" is numbers4 22 3 0 0) ∷
    ("P,1|int,0|" with "C3,1,1,2,2,0|int,0,0|lock,0,|1|1|0,0,|" is numbers4 21 3 0 0) ∷
    ("P,1|int,0|" with "C3,1,1,2,2,0|int,0,0|lock,0|1|1|0,0,|" is numbers4 21 3 0 0) ∷
    ("P,1|int,0|" with "C3,1,1,2,2,0|int,0,0|tid,0,1|1|1|0,0,|" is numbers4 22 3 0 0) ∷
    ("P,1|int,0|" with "C3,1,1,2,2,0|int,0,0|sem,0,1|1|1|0,0,|" is numbers4 22 3 0 0) ∷
    ("P,3|spawn,0|newtid,0|int,0|" with "C3,2,1,2,2,0|int,0,0|tid,1,0|2|0|0,0,|1,0,|0,1,|" is numbers4 0 0 0 0) ∷
    []

-- 44: every lock line, used or not, the lowest first; at any location; after 21, 22, 40 and 23, before 30 and 31
unfoldable pub takes_less_rows : List Pair
takes_less_rows =
    ("P,1|int,0|" with "C3,2,1,2,3,0|int,0,0|lock,0,1|2|1|0|0,0,|" is numbers4 44 3 0 0) ∷
    ("P,1|int,0|" with "C3,2,1,3,3,0|lock,0,1|int,0,0|lock,1,2|2|1|0|1,0,|" is numbers4 44 2 0 0) ∷
    ("P,1|int,0|" with "C3,2,1,3,3,0|int,0,0|lock,1,0|lock,1,2|2|1|0|0,0,|" is numbers4 44 4 0 0) ∷
    ("P,1|int,0|" with "C3,2,2,2,2,0|int,0,0|lock,0,1|1,1|1,0|0,0,|" is numbers4 44 3 0 0) ∷
    ("P,1|int,0|" with "C3,2,2,2,2,0|int,0,0|lock,0,1|1,1|0,2|0,0,|" is numbers4 44 3 0 0) ∷
    ("P,1|int,0|" with "C3,1,1,2,3,0|int,0,0|lock,0,1|2|1|0|0,0,|" is numbers4 44 3 0 0) ∷
    ("P,1|int,0|" with "C3,2,1,2,3,0|int,0,0|lock,0,1|2|1|0|1,0,|" is numbers4 44 3 0 0) ∷
    ("P,1|int,0|" with "C3,2,1,2,3,0|int,0,0|lock,0,1|2|1|0|0,0,|x" is numbers4 23 8 0 0) ∷
    ("P,1|int,0|" with "C3,2,1,2,3,0|int,0,0|lock,0,1|2|1|0|0,3,|" is numbers4 22 7 0 0) ∷
    ("P,1|int,0|" with "C3,2,1,2,3,0|int,0,0|lock,0,1|2|1|0|0,0,1|" is numbers4 22 7 0 0) ∷
    []

unfoldable pub lock_edges : List Pair
unfolding unlike unlike_last shown_rows unlike_elsewhere meeting_rows in_out_rows lock_lines takes_less_rows
lock_edges = shown_rows ++ₗ unlike_elsewhere ++ₗ meeting_rows ++ₗ in_out_rows ++ₗ lock_lines ++ₗ takes_less_rows
