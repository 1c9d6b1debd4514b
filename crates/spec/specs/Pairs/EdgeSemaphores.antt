-- Rows about semaphores: their words, their type line, every condition of the three words, and agreement. The answers are worked
-- out by hand.
use Rattle.std.specs.Prelude.{List, [], ◌∷◌, ◌++◌ as ◌++ₗ◌}
use Prim.Native.String.{String, ◌++◌}
use Rattle.spec.specs.Verdict.{numbers4}
use Rattle.spec.specs.Pairs.KnownPairs.{Pair, ◌with◌is◌, Z}

-- a type of each kind, the semaphore being type 4 with the load of map 1; maps 0 to 3 hold 2, 1, 0 and 3
unfoldable pub racked : String → String
racked steps = "C,2,1,5,4|int,0,0|ref,0,0|tid,1,0|lock,1,0|sem,1,0|2|1|0|3|" ++ steps

-- the words: v is 0, and post and wait have a part
unfoldable pub sem_words : List Pair
sem_words =
    ("P,1|newsem,1|" with Z is numbers4 12 2 0 0) ∷
    ("P,2|post,1|newsem,0|" with Z is numbers4 12 2 0 0) ∷
    ("P,2|wait,1|newsem,0|" with Z is numbers4 12 2 0 0) ∷
    ("P,1|post,0|" with Z is numbers4 13 2 0 0) ∷
    ("P,1|wait,0|" with Z is numbers4 13 2 0 0) ∷
    ("P,1|newsem|" with Z is numbers4 11 2 0 0) ∷
    []

-- `sem,k,0`, under each heading
unfoldable pub sem_lines : List Pair
sem_lines =
    ("P,1|int,0|" with "C,1,1,2,1|int,0,0|sem,0,0|0|0,0,|" is numbers4 0 0 0 0) ∷
    ("P,1|int,0|" with "C2,1,1,2,1,0|int,0,0|sem,0,0|0|0,0,|" is numbers4 0 0 0 0) ∷
    ("P,1|int,0|" with "C,1,1,2,1|int,0,0|sem,1,0|0|0,0,|" is numbers4 22 3 0 0) ∷
    ("P,1|int,0|" with "C,1,1,2,1|int,0,0|sem,0,1|0|0,0,|" is numbers4 22 3 0 0) ∷
    ("P,1|int,0|" with "C,1,1,2,1|int,0,0|sem,0|0|0,0,|" is numbers4 21 3 0 0) ∷
    ("P,1|int,0|" with "C,1,1,2,1|int,0,0|sem,x,0|0|0,0,|" is numbers4 21 3 0 0) ∷
    []

-- newsem: a sem type; post = pre
unfoldable pub newsem_rows : List Pair
newsem_rows =
    ("P,1|newsem,0|" with (racked "4,0,|") is numbers4 0 0 0 0) ∷
    ("P,1|newsem,0|" with (racked "0,0,|") is numbers4 31 2 1 0) ∷
    ("P,1|newsem,0|" with (racked "1,0,|") is numbers4 31 2 1 0) ∷
    ("P,1|newsem,0|" with (racked "2,0,|") is numbers4 31 2 1 0) ∷
    ("P,1|newsem,0|" with (racked "3,0,|") is numbers4 31 2 1 0) ∷
    ("P,1|newsem,0|" with (racked "4,1,|") is numbers4 32 2 2 0) ∷
    ("P,1|newlock,0|" with (racked "4,1,|") is numbers4 31 2 1 0) ∷
    ("P,1|newtid,0|" with (racked "4,0,|") is numbers4 31 2 1 0) ∷
    []

-- post: type int; a sem; post + K = post of part
unfoldable pub sem_post_rows : List Pair
sem_post_rows =
    ("P,2|post,0|newsem,0|" with (racked "0,1,|4,0,|") is numbers4 0 0 0 0) ∷
    ("P,2|post,0|newsem,0|" with (racked "4,1,|4,0,|") is numbers4 31 2 1 0) ∷
    ("P,2|post,0|newsem,0|" with (racked "0,1,|0,0,|") is numbers4 31 2 2 0) ∷
    ("P,2|post,0|newtid,0|" with (racked "0,1,|2,0,|") is numbers4 31 2 2 0) ∷
    ("P,2|post,0|newlock,0|" with (racked "0,2,|3,1,|") is numbers4 31 2 2 0) ∷
    ("P,2|post,0|newsem,0|" with (racked "0,0,|4,0,|") is numbers4 32 2 3 0) ∷
    ("P,2|post,0|newsem,0|" with (racked "0,2,|4,0,|") is numbers4 32 2 3 0) ∷
    ("P,2|unlock,0|newsem,0|" with (racked "0,1,|4,0,|") is numbers4 31 2 2 0) ∷
    []

-- wait: type int; a sem; post = post of part + K
unfoldable pub sem_wait_rows : List Pair
sem_wait_rows =
    ("P,2|wait,0|newsem,0|" with (racked "0,3,|4,0,|") is numbers4 0 0 0 0) ∷
    ("P,2|wait,0|newsem,0|" with (racked "4,3,|4,0,|") is numbers4 31 2 1 0) ∷
    ("P,2|wait,0|newsem,0|" with (racked "0,3,|0,0,|") is numbers4 31 2 2 0) ∷
    ("P,2|wait,0|newtid,0|" with (racked "0,3,|2,0,|") is numbers4 31 2 2 0) ∷
    ("P,2|wait,0|newlock,0|" with (racked "0,0,|3,1,|") is numbers4 31 2 2 0) ∷
    ("P,2|wait,0|newsem,0|" with (racked "0,0,|4,0,|") is numbers4 32 2 3 0) ∷
    ("P,2|wait,0|newsem,0|" with (racked "0,1,|4,0,|") is numbers4 32 2 3 0) ∷
    ("P,2|lock,0|newsem,0|" with (racked "0,3,|4,0,|") is numbers4 31 2 2 0) ∷
    ("P,2|join,0|newsem,0|" with (racked "0,3,|4,0,|") is numbers4 31 2 2 0) ∷
    []

-- semaphores agree when their maps hold equal numbers, and with no other kind
unfoldable pub sems_agree : List Pair
sems_agree =
    ("P,3|let,0|newsem,0|var,0|" with "C,2,1,3,4|int,0,0|sem,1,0|sem,2,0|2|1|1|0|2,0,|1,0,|2,0,|" is numbers4 0 0 0 0) ∷
    ("P,3|let,0|newsem,0|var,0|" with "C,2,1,3,4|int,0,0|sem,1,0|sem,3,0|2|1|1|0|2,0,|1,0,|2,0,|" is numbers4 31 4 1 0) ∷
    ("P,3|let,0|newsem,0|var,0|" with "C,2,1,3,4|int,0,0|sem,1,0|tid,1,0|2|1|1|0|2,0,|1,0,|2,0,|" is numbers4 31 4 1 0) ∷
    ("P,3|let,0|newsem,0|var,0|" with "C,2,1,3,4|int,0,0|sem,1,0|lock,1,0|2|1|1|0|2,0,|1,0,|2,0,|" is numbers4 31 4 1 0) ∷
    []

unfoldable pub semaphore_edges : List Pair
unfolding racked sem_words sem_lines newsem_rows sem_post_rows sem_wait_rows sems_agree
semaphore_edges = sem_words ++ₗ sem_lines ++ₗ newsem_rows ++ₗ sem_post_rows ++ₗ sem_wait_rows ++ₗ sems_agree
