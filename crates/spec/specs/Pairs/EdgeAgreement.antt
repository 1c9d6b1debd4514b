-- Rows for types that agree under two numbers, and for those that differ in one place, at every word that compares types. The
-- answers are worked out by hand from documents 01 and 02.
use Rattle.std.specs.Prelude.{List, [], ◌∷◌, ◌++◌ as ◌++ₗ◌}
use Prim.Native.String.{String, ◌++◌}
use Rattle.spec.specs.Verdict.{numbers4}
use Rattle.spec.specs.Pairs.KnownPairs.{Pair, ◌with◌is◌}

-- a split with D = 2 and two locations. Maps 1 and 2 hold equal numbers, map 3 differs from them at the last location alone; maps
-- 4 and 5 are what map 0 leaves after one new lock and after two. Types 0 and 1 are ints; 2, 3, 4 tids and 5, 6, 7 locks of maps
-- 1, 2, 3; 8 is a ref to int 0; 9, 10, 11 refs to tids 2, 3, 4; 12 one to tid 2 at the other location; 13 a ref to lock 5; 14 to 17
-- refs to refs 9 to 12.
unfoldable pub afresh : String → String
afresh steps =
    "C,2,2,18,6|int,0,0|int,0,0|tid,1,0|tid,2,0|tid,3,0|lock,1,0|lock,2,0|lock,3,0|"
    ++ "ref,0,0|ref,0,2|ref,0,3|ref,0,4|ref,1,2|ref,0,5|ref,0,9|ref,0,10|ref,0,11|ref,0,12|2,2|0,1|0,1|0,0|2,1|2,0|" ++ steps

-- int at var and let, if, ref, read, write
unfoldable pub ints_agree : List Pair
ints_agree =
    ("P,3|let,0|int,0|var,0|" with (afresh "0,0,|0,0,|1,0,|") is numbers4 0 0 0 0) ∷
    ("P,3|if,0|int,0|int,0|" with (afresh "0,0,|1,0,|1,0,|") is numbers4 0 0 0 0) ∷
    ("P,2|ref,0|int,0|" with (afresh "8,0,|1,0,|") is numbers4 0 0 0 0) ∷
    ("P,3|read,0|ref,0|int,0|" with (afresh "1,0,|8,0,|0,0,|") is numbers4 0 0 0 0) ∷
    ("P,4|write,0|ref,0|int,0|int,0|" with (afresh "1,0,|8,0,|0,0,|1,0,|") is numbers4 0 0 0 0) ∷
    []

-- tid: the same map content under two map numbers at each of these words, then maps that differ at the last location alone
unfoldable pub tids_agree : List Pair
tids_agree =
    ("P,3|let,0|newtid,0|var,0|" with (afresh "2,0,|2,0,|3,0,|") is numbers4 0 0 0 0) ∷
    ("P,3|if,0|newtid,0|newtid,0|" with (afresh "2,0,|3,0,|3,0,|") is numbers4 0 0 0 0) ∷
    ("P,2|ref,0|newtid,0|" with (afresh "9,0,|3,0,|") is numbers4 0 0 0 0) ∷
    ("P,3|read,0|ref,0|newtid,0|" with (afresh "3,0,|9,0,|2,0,|") is numbers4 0 0 0 0) ∷
    ("P,4|write,0|ref,0|newtid,0|newtid,0|" with (afresh "0,0,|9,0,|2,0,|3,0,|") is numbers4 0 0 0 0) ∷
    ("P,3|let,0|newtid,0|var,0|" with (afresh "4,0,|2,0,|4,0,|") is numbers4 31 4 1 0) ∷
    ("P,3|let,0|newtid,0|var,0|" with (afresh "4,0,|2,0,|2,0,|") is numbers4 31 2 1 0) ∷
    ("P,3|if,0|newtid,0|newtid,0|" with (afresh "2,0,|4,0,|3,0,|") is numbers4 31 2 1 0) ∷
    ("P,3|if,0|newtid,0|newtid,0|" with (afresh "2,0,|3,0,|4,0,|") is numbers4 31 2 2 0) ∷
    ("P,2|ref,0|newtid,0|" with (afresh "9,0,|4,0,|") is numbers4 31 2 1 0) ∷
    ("P,3|read,0|ref,0|newtid,0|" with (afresh "4,0,|9,0,|2,0,|") is numbers4 31 2 2 0) ∷
    ("P,4|write,0|ref,0|newtid,0|newtid,0|" with (afresh "0,0,|9,0,|2,0,|4,0,|") is numbers4 31 2 3 0) ∷
    []

-- lock, likewise; a tid with a lock's map is no lock, nor the other way round
unfoldable pub locks_agree : List Pair
locks_agree =
    ("P,3|let,0|newlock,0|var,0|" with (afresh "5,4,|5,4,|6,4,|") is numbers4 0 0 0 0) ∷
    ("P,3|if,0|newlock,0|newlock,0|" with (afresh "5,4,|6,4,|6,4,|") is numbers4 0 0 0 0) ∷
    ("P,2|ref,0|newlock,0|" with (afresh "13,4,|6,4,|") is numbers4 0 0 0 0) ∷
    ("P,3|read,0|ref,0|newlock,0|" with (afresh "6,4,|13,4,|5,4,|") is numbers4 0 0 0 0) ∷
    ("P,4|write,0|ref,0|newlock,0|newlock,0|" with (afresh "0,5,|13,4,|5,4,|6,5,|") is numbers4 0 0 0 0) ∷
    ("P,3|let,0|newlock,0|var,0|" with (afresh "7,4,|5,4,|7,4,|") is numbers4 31 4 1 0) ∷
    ("P,3|read,0|ref,0|newlock,0|" with (afresh "7,4,|13,4,|5,4,|") is numbers4 31 2 2 0) ∷
    ("P,3|let,0|newlock,0|var,0|" with (afresh "2,4,|5,4,|2,4,|") is numbers4 31 4 1 0) ∷
    ("P,3|let,0|newtid,0|var,0|" with (afresh "5,0,|2,0,|5,0,|") is numbers4 31 4 1 0) ∷
    []

-- ref, likewise; another location, a content that does not agree, a ref beside a tid
unfoldable pub refs_agree : List Pair
refs_agree =
    ("P,4|let,0|ref,0|newtid,0|var,0|" with (afresh "9,0,|9,0,|2,0,|10,0,|") is numbers4 0 0 0 0) ∷
    ("P,5|if,0|ref,0|newtid,0|ref,0|newtid,0|" with (afresh "9,0,|10,0,|3,0,|10,0,|2,0,|") is numbers4 0 0 0 0) ∷
    ("P,3|ref,0|ref,0|newtid,0|" with (afresh "14,0,|10,0,|3,0,|") is numbers4 0 0 0 0) ∷
    ("P,4|read,0|ref,0|ref,0|newtid,0|" with (afresh "10,0,|14,0,|9,0,|2,0,|") is numbers4 0 0 0 0) ∷
    ("P,6|write,0|ref,0|ref,0|newtid,0|ref,0|newtid,0|" with (afresh "0,0,|14,0,|9,0,|2,0,|10,0,|3,0,|") is numbers4 0 0 0 0) ∷
    ("P,4|let,0|ref,0|newtid,0|var,0|" with (afresh "12,0,|9,0,|2,0,|12,0,|") is numbers4 31 5 1 0) ∷
    ("P,4|let,0|ref,0|newtid,0|var,0|" with (afresh "11,0,|9,0,|2,0,|11,0,|") is numbers4 31 5 1 0) ∷
    ("P,4|let,0|ref,0|newtid,0|var,0|" with (afresh "2,0,|9,0,|2,0,|2,0,|") is numbers4 31 5 1 0) ∷
    ("P,3|let,0|newtid,0|var,0|" with (afresh "9,0,|2,0,|9,0,|") is numbers4 31 4 1 0) ∷
    []

-- refs of refs: they agree; they differ at the last map alone, at the last location alone
unfoldable pub deep_refs_agree : List Pair
deep_refs_agree =
    ("P,5|let,0|ref,0|ref,0|newtid,0|var,0|" with (afresh "14,0,|14,0,|9,0,|2,0,|15,0,|") is numbers4 0 0 0 0) ∷
    ("P,5|let,0|ref,0|ref,0|newtid,0|var,0|" with (afresh "16,0,|14,0,|9,0,|2,0,|16,0,|") is numbers4 31 6 1 0) ∷
    ("P,5|let,0|ref,0|ref,0|newtid,0|var,0|" with (afresh "17,0,|14,0,|9,0,|2,0,|17,0,|") is numbers4 31 6 1 0) ∷
    ("P,5|let,0|ref,0|ref,0|newtid,0|var,0|" with (afresh "16,0,|14,0,|9,0,|2,0,|14,0,|") is numbers4 31 2 1 0) ∷
    ("P,5|let,0|ref,0|ref,0|newtid,0|var,0|" with (afresh "14,0,|14,0,|11,0,|4,0,|14,0,|") is numbers4 31 3 1 0) ∷
    []

-- all of them
unfoldable pub agreement_edges : List Pair
unfolding afresh ints_agree tids_agree locks_agree refs_agree deep_refs_agree
agreement_edges = ints_agree ++ₗ tids_agree ++ₗ locks_agree ++ₗ refs_agree ++ₗ deep_refs_agree
