-- Rows for read-write locks: the words and the type line, each condition of each word met and false, agreement. The answers are worked
-- out by hand from documents 01 and 02.
use Rattle.std.specs.Prelude.{List, [], ◌∷◌, ◌++◌ as ◌++ₗ◌}
use Prim.Native.String.{String, ◌++◌}
use Rattle.spec.specs.Verdict.{numbers4}
use Rattle.spec.specs.Pairs.KnownPairs.{Pair, ◌with◌is◌, Z}

-- a split with D = 2, one location, maps 0, 1, 2 of 2, 1 and nothing; types 0 int, 1 ref to int, 2 lock and 3 sem of 1, and rwlocks by r
-- and w: 4 has 1 and 2, 5 2 and 1, 6 nothing and 2, 7 nothing and nothing
unfoldable pub booked : String → String
booked rows = "C,2,1,8,3|int,0,0|ref,0,0|lock,1,0|sem,1,0|rwlock,1,0|rwlock,0,1|rwlock,2,0|rwlock,2,2|2|1|0|" ++ rows

-- the words: N is 1 to 64, and v of the others is 0
unfoldable pub rwlock_words : List Pair
rwlock_words =
    ("P,1|newrwlock,0|" with Z is numbers4 12 2 0 0) ∷
    ("P,1|newrwlock,65|" with Z is numbers4 12 2 0 0) ∷
    ("P,1|newrwlock,x|" with Z is numbers4 11 2 0 0) ∷
    ("P,1|newrwlock|" with Z is numbers4 11 2 0 0) ∷
    ("P,1|rwlock,1|" with Z is numbers4 11 2 0 0) ∷
    ("P,2|rdlock,1|int,0|" with Z is numbers4 12 2 0 0) ∷
    ("P,2|rdunlock,1|int,0|" with Z is numbers4 12 2 0 0) ∷
    ("P,2|wrlock,1|int,0|" with Z is numbers4 12 2 0 0) ∷
    ("P,2|wrunlock,1|int,0|" with Z is numbers4 12 2 0 0) ∷
    ("P,1|rdlock,0|" with Z is numbers4 13 2 0 0) ∷
    []

-- the type line, under each heading
unfoldable pub rwlock_lines : List Pair
rwlock_lines =
    ("P,1|int,0|" with "C,1,1,2,2|int,0,0|rwlock,0,1|1|0|0,0,|" is numbers4 0 0 0 0) ∷
    ("P,1|int,0|" with "C2,1,1,2,2,0|int,0,0|rwlock,0,1|1|0|0,0,|" is numbers4 0 0 0 0) ∷
    ("P,1|int,0|" with "C3,1,1,2,2,0|int,0,0|rwlock,0,1|1|0|0,0,|" is numbers4 0 0 0 0) ∷
    ("P,1|int,0|" with "C,1,1,2,2|int,0,0|rwlock,2,1|1|0|0,0,|" is numbers4 22 3 0 0) ∷
    ("P,1|int,0|" with "C,1,1,2,2|int,0,0|rwlock,0,2|1|0|0,0,|" is numbers4 22 3 0 0) ∷
    ("P,1|int,0|" with "C,1,1,2,2|int,0,0|rwlock,0|1|0|0,0,|" is numbers4 21 3 0 0) ∷
    ("P,1|int,0|" with "C,1,1,2,2|int,0,0|rwlock,0,x|1|0|0,0,|" is numbers4 21 3 0 0) ∷
    ("P,1|int,0|" with "C,1,1,2,2|int,0,0|rwlock,0,1,0|1|0|0,0,|" is numbers4 21 3 0 0) ∷
    []

-- newrwlock: the type, then N × r ≤ w, then post + w = pre; the lowest location that fails; N × r as a whole number
unfoldable pub newrwlock_rows : List Pair
newrwlock_rows =
    ("P,1|newrwlock,1|" with (booked "4,2,|") is numbers4 0 0 0 0) ∷
    ("P,1|newrwlock,2|" with (booked "4,2,|") is numbers4 0 0 0 0) ∷
    ("P,1|newrwlock,3|" with (booked "4,2,|") is numbers4 32 2 2 0) ∷
    ("P,1|newrwlock,64|" with (booked "6,2,|") is numbers4 0 0 0 0) ∷
    ("P,1|newrwlock,64|" with (booked "4,2,|") is numbers4 32 2 2 0) ∷
    ("P,1|newrwlock,1|" with (booked "5,1,|") is numbers4 32 2 2 0) ∷
    ("P,1|newrwlock,1|" with (booked "5,0,|") is numbers4 32 2 2 0) ∷
    ("P,1|newrwlock,1|" with (booked "4,1,|") is numbers4 32 2 3 0) ∷
    ("P,1|newrwlock,1|" with (booked "4,0,|") is numbers4 32 2 3 0) ∷
    ("P,1|newrwlock,1|" with (booked "0,2,|") is numbers4 31 2 1 0) ∷
    ("P,1|newrwlock,1|" with (booked "2,2,|") is numbers4 31 2 1 0) ∷
    ("P,1|newrwlock,1|" with (booked "3,2,|") is numbers4 31 2 1 0) ∷
    ("P,1|newlock,0|" with (booked "4,2,|") is numbers4 31 2 1 0) ∷
    ("P,1|newrwlock,2|" with "C,2,2,2,4|int,0,0|rwlock,1,2|2,2|1,1|2,1|0,1|1,3,|" is numbers4 32 2 2 1) ∷
    ("P,1|newrwlock,2|" with "C,2,2,2,4|int,0,0|rwlock,1,1|2,2|1,1|2,1|0,1|1,1,|" is numbers4 32 2 2 0) ∷
    ("P,1|newrwlock,64|" with "C,1,1,1,2|rwlock,1,0|0|67108864|0,0,|" is numbers4 32 2 2 0) ∷
    ("P,1|newrwlock,64|" with "C,1000000000,1,1,1|rwlock,0,0|1000000000|0,0,|" is numbers4 32 2 2 0) ∷
    []

-- taking adds r or w
unfoldable pub taking_rows : List Pair
taking_rows =
    ("P,2|rdlock,0|newrwlock,2|" with (booked "0,1,|4,2,|") is numbers4 0 0 0 0) ∷
    ("P,2|rdlock,0|newrwlock,2|" with (booked "1,1,|4,2,|") is numbers4 31 2 1 0) ∷
    ("P,2|rdlock,0|newlock,0|" with (booked "0,0,|2,1,|") is numbers4 31 2 2 0) ∷
    ("P,2|rdlock,0|newsem,0|" with (booked "0,0,|3,0,|") is numbers4 31 2 2 0) ∷
    ("P,2|rdlock,0|newrwlock,2|" with (booked "0,0,|4,2,|") is numbers4 32 2 3 0) ∷
    ("P,2|wrlock,0|newrwlock,2|" with (booked "0,0,|4,2,|") is numbers4 0 0 0 0) ∷
    ("P,2|wrlock,0|newrwlock,2|" with (booked "1,0,|4,2,|") is numbers4 31 2 1 0) ∷
    ("P,2|wrlock,0|newlock,0|" with (booked "0,0,|2,1,|") is numbers4 31 2 2 0) ∷
    ("P,2|wrlock,0|newrwlock,2|" with (booked "0,1,|4,2,|") is numbers4 32 2 3 0) ∷
    ("P,2|lock,0|newrwlock,2|" with (booked "0,0,|4,2,|") is numbers4 31 2 2 0) ∷
    ("P,2|wait,0|newrwlock,2|" with (booked "0,0,|4,2,|") is numbers4 31 2 2 0) ∷
    []

-- giving back subtracts it
unfoldable pub giving_rows : List Pair
giving_rows =
    ("P,7|let,0|newrwlock,2|let,1|rdlock,0|var,0|rdunlock,0|var,0|" with
    (booked "0,2,|4,2,|0,2,|0,1,|4,2,|0,2,|4,1,|") is numbers4 0 0 0 0) ∷
    ("P,7|let,0|newrwlock,2|let,1|rdlock,0|var,0|rdunlock,0|var,0|" with
    (booked "0,1,|4,2,|0,1,|0,1,|4,2,|0,1,|4,1,|") is numbers4 32 7 3 0) ∷
    ("P,7|let,0|newrwlock,2|let,1|wrlock,0|var,0|wrunlock,0|var,0|" with
    (booked "0,2,|4,2,|0,2,|0,0,|4,2,|0,2,|4,0,|") is numbers4 0 0 0 0) ∷
    ("P,7|let,0|newrwlock,2|let,1|wrlock,0|var,0|wrunlock,0|var,0|" with
    (booked "0,1,|4,2,|0,1,|0,0,|4,2,|0,1,|4,0,|") is numbers4 32 7 3 0) ∷
    ("P,2|rdunlock,0|newrwlock,1|" with (booked "0,0,|7,0,|") is numbers4 0 0 0 0) ∷
    ("P,2|rdunlock,0|newrwlock,1|" with (booked "1,0,|7,0,|") is numbers4 31 2 1 0) ∷
    ("P,2|rdunlock,0|newlock,0|" with (booked "0,0,|2,1,|") is numbers4 31 2 2 0) ∷
    ("P,2|rdunlock,0|newrwlock,1|" with (booked "0,1,|7,0,|") is numbers4 32 2 3 0) ∷
    ("P,2|wrunlock,0|newrwlock,1|" with (booked "0,0,|7,0,|") is numbers4 0 0 0 0) ∷
    ("P,2|wrunlock,0|newrwlock,1|" with (booked "1,0,|7,0,|") is numbers4 31 2 1 0) ∷
    ("P,2|wrunlock,0|newlock,0|" with (booked "0,0,|2,1,|") is numbers4 31 2 2 0) ∷
    ("P,2|wrunlock,0|newrwlock,1|" with (booked "0,1,|7,0,|") is numbers4 32 2 3 0) ∷
    ("P,2|unlock,0|newrwlock,1|" with (booked "0,0,|7,0,|") is numbers4 31 2 2 0) ∷
    ("P,2|post,0|newrwlock,1|" with (booked "0,0,|7,0,|") is numbers4 31 2 2 0) ∷
    []

-- rwlock types 1 and 2 hold equal numbers; 3 has a smaller r, 4 a smaller w; 5 is a lock with the maps of 1
unfoldable pub books : String → String
books rows = "C3,2,1,6,4,0|int,0,0|rwlock,1,0|rwlock,3,0|rwlock,2,0|rwlock,1,1|lock,1,0|2|1|0|1|" ++ rows

-- they agree when both maps hold equal numbers, at var too, and with no other kind; N is no part of the type
unfoldable pub rwlocks_agree : List Pair
rwlocks_agree =
    ("P,3|let,0|newrwlock,1|var,0|" with (books "2,2,|1,2,|2,2,|") is numbers4 0 0 0 0) ∷
    ("P,3|let,0|newrwlock,1|var,0|" with (books "3,2,|1,2,|3,2,|") is numbers4 31 4 1 0) ∷
    ("P,3|let,0|newrwlock,1|var,0|" with (books "4,2,|1,2,|4,2,|") is numbers4 31 4 1 0) ∷
    ("P,3|let,0|newrwlock,1|var,0|" with (books "5,2,|1,2,|5,2,|") is numbers4 31 4 1 0) ∷
    ("P,3|let,0|newlock,0|var,0|" with (books "1,2,|5,2,|1,2,|") is numbers4 31 4 1 0) ∷
    ("P,3|if,0|newrwlock,1|newrwlock,2|" with (books "1,2,|2,2,|1,2,|") is numbers4 0 0 0 0) ∷
    []

unfoldable pub rwlock_edges : List Pair
unfolding booked rwlock_words rwlock_lines newrwlock_rows taking_rows giving_rows books rwlocks_agree
rwlock_edges = rwlock_words ++ₗ rwlock_lines ++ₗ newrwlock_rows ++ₗ taking_rows ++ₗ giving_rows ++ₗ rwlocks_agree
