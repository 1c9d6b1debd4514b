-- Rows for 45, the word `freelock`. The answers are worked out by hand from documents 01 and 02.
use Rattle.std.specs.Prelude.{List, [], ◌∷◌, ◌++◌}
use Rattle.spec.specs.Verdict.{numbers4}
use Rattle.spec.specs.Pairs.KnownPairs.{Pair, ◌with◌is◌, Z}

-- on its own line: after 11 and 12
unfoldable pub freelock_lines : List Pair
freelock_lines =
    ("P,2|freelock,0|newlock,0|" with Z is numbers4 45 2 0 0) ∷
    ("P,1|freelock,1|" with Z is numbers4 12 2 0 0) ∷
    ("P,1|freelock,4294967296|" with Z is numbers4 12 2 0 0) ∷
    ("P,1|freelock,x|" with Z is numbers4 11 2 0 0) ∷
    ("P,1|freelock,00|" with Z is numbers4 11 2 0 0) ∷
    ("P,1|freelock,|" with Z is numbers4 11 2 0 0) ∷
    ("P,1|freelock|" with Z is numbers4 11 2 0 0) ∷
    ("P,1|freelock,0,0|" with Z is numbers4 11 2 0 0) ∷
    ("P,1|freelock,0" with Z is numbers4 11 2 0 0) ∷
    ("P,1|Freelock,0|" with Z is numbers4 11 2 0 0) ∷
    ("P,1|freelocks,0|" with Z is numbers4 11 2 0 0) ∷
    []

-- among the lines: before whatever is wrong with a later line, before lines missing and spare, before an expression unfinished,
-- before 14, before the split sheet; a spare line is 13 whatever it says
unfoldable pub freelock_among_lines : List Pair
freelock_among_lines =
    ("P,3|freelock,0|foo,0|int,0|" with Z is numbers4 45 2 0 0) ∷
    ("P,3|foo,0|freelock,0|int,0|" with Z is numbers4 11 2 0 0) ∷
    ("P,2|int,65536|freelock,0|" with Z is numbers4 12 2 0 0) ∷
    ("P,3|let,0|int,0|freelock,0|" with Z is numbers4 45 4 0 0) ∷
    ("P,3|freelock,0|freelock,1|int,0|" with Z is numbers4 45 2 0 0) ∷
    ("P,3|freelock,0|newlock,0|" with Z is numbers4 45 2 0 0) ∷
    ("P,1|freelock,0|" with Z is numbers4 45 2 0 0) ∷
    ("P,1|freelock,0|int,0|" with Z is numbers4 45 2 0 0) ∷
    ("P,1|int,0|freelock,0|" with Z is numbers4 13 3 0 0) ∷
    ("P,2|freelock,0|var,0|" with Z is numbers4 45 2 0 0) ∷
    ("P,2|freelock,0|newlock,0|" with "" is numbers4 45 2 0 0) ∷
    []

unfoldable pub freelock_edges : List Pair
unfolding freelock_lines freelock_among_lines
freelock_edges = freelock_lines ++ freelock_among_lines
