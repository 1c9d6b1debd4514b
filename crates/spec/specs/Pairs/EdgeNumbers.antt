-- Rows for the largest numbers, and for numbers past them and past 32 bits in every place that has a number. The answers are
-- worked out by hand from documents 01 and 02.
use Rattle.std.specs.Prelude.{List, [], ◌∷◌, ◌++◌ as ◌++ₗ◌, ℕ}
use Prim.Native.String.{String, ◌++◌}
use Rattle.spec.specs.Verdict.{numbers4}
use Rattle.spec.specs.Pairs.KnownPairs.{Pair, ◌with◌is◌, P, S, Z}
use Rattle.spec.specs.Pairs.EdgeSheets.{of}

-- a spawn, for a whole of a billion parts; the identifier carries one part
unfoldable pub parted : String → String → String
parted maps spawn = "C,1000000000,1,2,3|int,0,0|tid,2,0|" ++ maps ++ spawn ++ "|1,0,|0,2,|"

-- a billion parts are a whole, and are taken apart and added without loss
unfoldable pub largest_rows : List Pair
largest_rows =
    ("P,1|int,0|" with "C,1000000000,1,1,1|int,0,0|1000000000|0,0,|" is numbers4 0 0 0 0) ∷
    ("P,1|int,0|" with "C,999999999,1,1,1|int,0,0|1000000000|0,0,|" is numbers4 30 2 0 0) ∷
    ("P,3|spawn,0|newtid,0|int,0|" with (parted "1000000000|999999999|1|" "0,1,2") is numbers4 0 0 0 0) ∷
    ("P,3|spawn,0|newtid,0|int,0|" with (parted "1000000000|1000000000|1|" "0,1,2") is numbers4 32 2 4 0) ∷
    ("P,3|spawn,0|newtid,0|int,0|" with (parted "1000000000|1000000000|1|" "0,1,0") is numbers4 32 2 4 0) ∷
    []

-- a place, by the texts around it: ten digits that are in no range, and eleven digits
unfoldable pub past : (program split : String → String) → (range form line : ℕ) → List Pair
past program split range form line =
    (program "1000000001" with split "1000000001" is numbers4 range line 0 0) ∷
    (program "4294967295" with split "4294967295" is numbers4 range line 0 0) ∷
    (program "4294967296" with split "4294967296" is numbers4 range line 0 0) ∷
    (program "4294967297" with split "4294967297" is numbers4 range line 0 0) ∷
    (program "9999999999" with split "9999999999" is numbers4 range line 0 0) ∷
    (program "10000000000" with split "10000000000" is numbers4 form line 0 0) ∷
    []

unfoldable pub in_program : (String → String) → (line : ℕ) → List Pair
in_program text line = past text (λ n. Z) 12 11 line

unfoldable pub in_split : (String → String) → (line : ℕ) → List Pair
in_split text line = past (λ n. "P,1|int,0|") text 22 21 line

-- n, and v on words of each kind
unfoldable pub program_numbers : List Pair
program_numbers =
    in_program (λ n. "P," ++ n ++ "|int,0|") 1
    ++ₗ in_program (λ n. "P,1|int," ++ n ++ "|") 2
    ++ₗ in_program (λ n. "P,1|var," ++ n ++ "|") 2
    ++ₗ in_program (λ n. "P,3|let," ++ n ++ "|int,0|int,0|") 2
    ++ₗ in_program (λ n. "P,1|newtid," ++ n ++ "|") 2

-- D, L, T, M
unfoldable pub header_numbers : List Pair
header_numbers =
    in_split (λ n. "C," ++ n ++ ",1,1,1|int,0,0|0|0,0,|") 1
    ++ₗ in_split (λ n. "C,1," ++ n ++ ",1,1|int,0,0|0|0,0,|") 1
    ++ₗ in_split (λ n. "C,1,1," ++ n ++ ",1|int,0,0|0|0,0,|") 1
    ++ₗ in_split (λ n. "C,1,1,1," ++ n ++ "|int,0,0|0|0,0,|") 1

-- p, t, k, and where a type line has 0
unfoldable pub type_numbers : List Pair
type_numbers =
    in_split (λ n. "C,1,1,2,1|int,0,0|ref," ++ n ++ ",0|0|0,0,|") 3
    ++ₗ in_split (λ n. "C,1,1,2,1|int,0,0|ref,0," ++ n ++ "|0|0,0,|") 3
    ++ₗ in_split (λ n. "C,1,1,1,1|lock," ++ n ++ ",0|0|0,0,|") 2
    ++ₗ in_split (λ n. "C,1,1,1,1|tid," ++ n ++ ",0|0|0,0,|") 2
    ++ₗ in_split (λ n. "C,1,1,1,1|int,0," ++ n ++ "|0|0,0,|") 2

-- a number of a map; t, m, and s on a spawn and on another word
unfoldable pub body_numbers : List Pair
body_numbers =
    in_split (λ n. "C,1,1,1,1|int,0,0|" ++ n ++ "|0,0,|") 3
    ++ₗ in_split (λ n. of (n ++ ",0,|")) 4
    ++ₗ in_split (λ n. of ("0," ++ n ++ ",|")) 4
    ++ₗ past (λ n. P) (λ n. S "2" ("0,1," ++ n)) 22 21 13
    ++ₗ in_split (λ n. of ("0,0," ++ n ++ "|")) 4

-- all of them
unfoldable pub number_edges : List Pair
unfolding parted largest_rows past in_program in_split program_numbers header_numbers type_numbers body_numbers
number_edges = largest_rows ++ₗ program_numbers ++ₗ header_numbers ++ₗ type_numbers ++ₗ body_numbers
