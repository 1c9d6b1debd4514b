-- Rows at the edges of the sheets: every refusal of a text, every limit at its end and one past it. The answers are worked out
-- by hand from document 01.
use Rattle.std.specs.Prelude.{List, [], ◌∷◌, ◌++◌ as ◌++ₗ◌, ℕ, zero, suc}
use Prim.Native.String.{String, [] as []ˢ, ◌++◌}
use Rattle.spec.specs.Verdict.{numbers4}
use Rattle.spec.specs.Pairs.KnownPairs.{Pair, ◌with◌is◌, P, S, Z}

-- a text n times over
unfoldable pub times : ℕ → String → String
times zero s = ""
times (suc n) s = s ++ times n s

-- Z with other step lines
unfoldable pub of : String → String
of rows = "C,1,1,1,1|int,0,0|0|" ++ rows

-- the line `P,n`
unfoldable pub header_rows : List Pair
header_rows =
    ("" with Z is numbers4 11 1 0 0) ∷
    ("|" with Z is numbers4 11 1 0 0) ∷
    ("P,1" with Z is numbers4 11 1 0 0) ∷
    ("P|int,0|" with Z is numbers4 11 1 0 0) ∷
    ("P,1,1|int,0|" with Z is numbers4 11 1 0 0) ∷
    ("p,1|int,0|" with Z is numbers4 11 1 0 0) ∷
    ("P,01|int,0|" with Z is numbers4 11 1 0 0) ∷
    ("P,00|int,0|" with Z is numbers4 11 1 0 0) ∷
    ("P,12345678901|int,0|" with Z is numbers4 11 1 0 0) ∷
    ("P,1234567890|int,0|" with Z is numbers4 12 1 0 0) ∷
    ("P,0|" with Z is numbers4 12 1 0 0) ∷
    ("P,257|int,0|" with Z is numbers4 12 1 0 0) ∷
    ("P,257" with Z is numbers4 11 1 0 0) ∷
    []

-- step lines: form before range on each line, line after line
unfoldable pub step_rows : List Pair
step_rows =
    ("P,1|int,65535|" with Z is numbers4 0 0 0 0) ∷
    ("P,1|Int,0|" with Z is numbers4 11 2 0 0) ∷
    ("P,1|int|" with Z is numbers4 11 2 0 0) ∷
    ("P,1|int,|" with Z is numbers4 11 2 0 0) ∷
    ("P,1|int,0,|" with Z is numbers4 11 2 0 0) ∷
    ("P,1|int, 0|" with Z is numbers4 11 2 0 0) ∷
    ("P,1|int,0" with Z is numbers4 11 2 0 0) ∷
    ("P,1|int,007|" with Z is numbers4 11 2 0 0) ∷
    ("P,1|int,00065535|" with Z is numbers4 11 2 0 0) ∷
    ("P,1|int,65536,0|" with Z is numbers4 11 2 0 0) ∷
    ("P,1||" with Z is numbers4 11 2 0 0) ∷
    ("P,1|newtid,1|" with Z is numbers4 12 2 0 0) ∷
    ("P,1|while,1|" with Z is numbers4 12 2 0 0) ∷
    ("P,1|var,256|" with Z is numbers4 12 2 0 0) ∷
    ("P,3|let,256|int,0|int,0|" with Z is numbers4 12 2 0 0) ∷
    ("P,3|let,255|int,0|int,0|" with (of "0,0,|0,0,|0,0,|") is numbers4 0 0 0 0) ∷
    ("P,2|int,65536|foo,0|" with Z is numbers4 12 2 0 0) ∷
    ("P,2|foo,0|int,65536|" with Z is numbers4 11 2 0 0) ∷
    []

-- eleven digits are no numeral; 13: lines missing and spare, then an expression unfinished or finished early
unfoldable pub count_rows : List Pair
count_rows =
    ("P,10000000000|int,0|" with Z is numbers4 11 1 0 0) ∷
    ("P,2|int,0|" with Z is numbers4 13 2 0 0) ∷
    ("P,3|foo,0|" with Z is numbers4 11 2 0 0) ∷
    ("P,3|int,65536|" with Z is numbers4 12 2 0 0) ∷
    ("P,1|foo,0|int,0|" with Z is numbers4 11 2 0 0) ∷
    ("P,2|while,0|" with Z is numbers4 13 2 0 0) ∷
    ("P,1|int,0|int,0|" with Z is numbers4 13 3 0 0) ∷
    ("P,1|int,0|x" with Z is numbers4 13 3 0 0) ∷
    ("P,1|int,0||" with Z is numbers4 13 3 0 0) ∷
    ("P,1|let,0|int,0|" with Z is numbers4 13 3 0 0) ∷
    ("P,1|while,0|" with Z is numbers4 13 2 0 0) ∷
    ("P,2|spawn,0|int,0|" with Z is numbers4 13 3 0 0) ∷
    ("P,3|int,0|int,0|int,0|" with Z is numbers4 13 3 0 0) ∷
    ("P,4|if,0|int,0|int,0|var,0|" with Z is numbers4 13 5 0 0) ∷
    ("P,3|int,0|let,0|int,0|" with Z is numbers4 13 3 0 0) ∷
    []

-- 14 and 15, in line order
unfoldable pub scope_rows : List Pair
scope_rows =
    ("P,3|let,0|var,0|int,0|" with Z is numbers4 14 3 0 0) ∷
    ("P,5|if,0|let,0|int,0|int,0|var,0|" with Z is numbers4 14 6 0 0) ∷
    ("P,3|let,0|int,0|var,1|" with Z is numbers4 14 4 0 0) ∷
    ("P,5|let,0|var,0|let,0|int,0|int,0|" with Z is numbers4 14 3 0 0) ∷
    ("P,5|let,0|let,0|int,0|int,0|var,0|" with Z is numbers4 15 3 0 0) ∷
    ("P,7|let,0|let,0|int,0|int,0|let,1|int,0|var,2|" with Z is numbers4 15 3 0 0) ∷
    ("P,7|if,0|let,0|int,0|var,0|let,0|int,0|var,0|" with Z is numbers4 15 6 0 0) ∷
    ("P,1|var,0|" with "" is numbers4 14 2 0 0) ∷
    []

-- the line `C,D,L,T,M`
unfoldable pub split_header_rows : List Pair
split_header_rows =
    ("P,1|int,0|" with "" is numbers4 21 1 0 0) ∷
    ("P,1|int,0|" with "|" is numbers4 21 1 0 0) ∷
    ("P,1|int,0|" with "C,1,1,1|int,0,0|0|0,0,|" is numbers4 21 1 0 0) ∷
    ("P,1|int,0|" with "C,1,1,1,1,0|int,0,0|0|0,0,|" is numbers4 21 1 0 0) ∷
    ("P,1|int,0|" with "C2,1,1,1,1|int,0,0|0|0,0,|" is numbers4 21 1 0 0) ∷
    ("P,1|int,0|" with "C,1,1,1,1" is numbers4 21 1 0 0) ∷
    ("P,1|int,0|" with "C,0,1,1,1|int,0,0|0|0,0,|" is numbers4 22 1 0 0) ∷
    ("P,1|int,0|" with "C,1000000000,1,1,1|int,0,0|1000000000|0,0,|" is numbers4 0 0 0 0) ∷
    ("P,1|int,0|" with "C,1000000001,1,1,1|int,0,0|0|0,0,|" is numbers4 22 1 0 0) ∷
    ("P,1|int,0|" with "C,10000000000,1,1,1|int,0,0|0|0,0,|" is numbers4 21 1 0 0) ∷
    ("P,1|int,0|" with "C,1,0,1,1|int,0,0|0|0,0,|" is numbers4 22 1 0 0) ∷
    ("P,1|int,0|" with "C,1,16,1,1|int,0,0|0,0,0,0,0,0,0,0,0,0,0,0,0,0,0,0|0,0,|" is numbers4 0 0 0 0) ∷
    ("P,1|int,0|" with "C,1,17,1,1|int,0,0|0|0,0,|" is numbers4 22 1 0 0) ∷
    ("P,1|int,0|" with "C,1,1,0,1|0|0,0,|" is numbers4 22 1 0 0) ∷
    ("P,1|int,0|" with ("C,1,1,64,1|" ++ times 64 "int,0,0|" ++ "0|63,0,|") is numbers4 0 0 0 0) ∷
    ("P,1|int,0|" with "C,1,1,65,1|int,0,0|0|0,0,|" is numbers4 22 1 0 0) ∷
    ("P,1|int,0|" with "C,1,1,1,0|int,0,0|0,0,|" is numbers4 22 1 0 0) ∷
    ("P,1|int,0|" with ("C,1,1,1,512|int,0,0|" ++ times 512 "0|" ++ "0,511,|") is numbers4 0 0 0 0) ∷
    ("P,1|int,0|" with "C,1,1,1,513|int,0,0|0|0,0,|" is numbers4 22 1 0 0) ∷
    []

-- type lines
unfoldable pub type_rows : List Pair
type_rows =
    ("P,1|int,0|" with "C,1,1,1,1|flt,0,0|0|0,0,|" is numbers4 21 2 0 0) ∷
    ("P,1|int,0|" with "C,1,1,1,1|int,0|0|0,0,|" is numbers4 21 2 0 0) ∷
    ("P,1|int,0|" with "C,1,1,1,1|int,0,0,0|0|0,0,|" is numbers4 21 2 0 0) ∷
    ("P,1|int,0|" with "C,1,1,1,1|int,1,0|0|0,0,|" is numbers4 22 2 0 0) ∷
    ("P,1|int,0|" with "C,1,1,1,1|int,0,1|0|0,0,|" is numbers4 22 2 0 0) ∷
    ("P,1|int,0|" with "C,1,1,1,1|ref,0,0|0|0,0,|" is numbers4 22 2 0 0) ∷
    ("P,1|int,0|" with "C,1,1,2,1|int,0,0|ref,0,1|0|0,0,|" is numbers4 22 3 0 0) ∷
    ("P,1|int,0|" with "C,1,1,2,1|int,0,0|ref,1,0|0|0,0,|" is numbers4 22 3 0 0) ∷
    ("P,1|int,0|" with "C,1,1,2,1|int,0,0|ref,0,0|0|0,0,|" is numbers4 0 0 0 0) ∷
    ("P,1|int,0|" with "C,1,1,1,1|lock,1,0|0|0,0,|" is numbers4 22 2 0 0) ∷
    ("P,1|int,0|" with "C,1,1,1,1|lock,0,1|0|0,0,|" is numbers4 22 2 0 0) ∷
    ("P,1|int,0|" with "C,1,1,1,1|tid,1,0|0|0,0,|" is numbers4 22 2 0 0) ∷
    ("P,1|int,0|" with "C,1,1,1,1|tid,0,1|0|0,0,|" is numbers4 22 2 0 0) ∷
    ("P,1|int,0|" with "C,1,1,1,1|tid,x,1|0|0,0,|" is numbers4 21 2 0 0) ∷
    []

-- map lines
unfoldable pub map_rows : List Pair
map_rows =
    ("P,1|int,0|" with "C,1,1,1,1|int,0,0|0,0|0,0,|" is numbers4 21 3 0 0) ∷
    ("P,1|int,0|" with "C,1,2,1,1|int,0,0|0|0,0,|" is numbers4 21 3 0 0) ∷
    ("P,1|int,0|" with "C,1,1,1,1|int,0,0||0,0,|" is numbers4 21 3 0 0) ∷
    ("P,1|int,0|" with "C,1,1,1,1|int,0,0|00|0,0,|" is numbers4 21 3 0 0) ∷
    ("P,1|int,0|" with "C,1,1,1,1|int,0,0|1000000001|0,0,|" is numbers4 22 3 0 0) ∷
    ("P,1|int,0|" with "C,1,2,1,1|int,0,0|1000000001,x|0,0,|" is numbers4 21 3 0 0) ∷
    []

-- step lines of the split: s is empty on another word than spawn, and given on a spawn
unfoldable pub row_rows : List Pair
row_rows =
    ("P,1|int,0|" with (of "0,0|") is numbers4 21 4 0 0) ∷
    ("P,1|int,0|" with (of "0,0,,|") is numbers4 21 4 0 0) ∷
    ("P,1|int,0|" with (of ",0,|") is numbers4 21 4 0 0) ∷
    ("P,1|int,0|" with (of "0,,|") is numbers4 21 4 0 0) ∷
    ("P,1|int,0|" with (of "0,0,x|") is numbers4 21 4 0 0) ∷
    ("P,1|int,0|" with (of "1,0,|") is numbers4 22 4 0 0) ∷
    ("P,1|int,0|" with (of "0,1,|") is numbers4 22 4 0 0) ∷
    ("P,1|int,0|" with (of "0,0,0|") is numbers4 22 4 0 0) ∷
    ("P,1|int,0|" with (of "9,9,x|") is numbers4 21 4 0 0) ∷
    (P with (S "2" "0,1,") is numbers4 40 13 0 0) ∷
    (P with (S "2" "0,1,2") is numbers4 22 13 0 0) ∷
    (P with (S "2" "0,1,x") is numbers4 21 13 0 0) ∷
    []

-- 23: lines missing and spare
unfoldable pub split_count_rows : List Pair
split_count_rows =
    ("P,1|int,0|" with "C,1,1,1,1|" is numbers4 23 1 0 0) ∷
    ("P,1|int,0|" with "C,1,1,1,1|int,0,0|" is numbers4 23 2 0 0) ∷
    ("P,1|int,0|" with "C,1,1,1,1|flt,0,0|" is numbers4 21 2 0 0) ∷
    ("P,1|int,0|" with "C,1,1,1,2|int,0,0|1000000001|" is numbers4 22 3 0 0) ∷
    ("P,1|int,0|" with "C,1,1,1,1|int,0,0|0|" is numbers4 23 3 0 0) ∷
    ("P,1|int,0|" with (of "0,0,") is numbers4 21 4 0 0) ∷
    ("P,1|int,0|" with (of "0,0,|0,0,|") is numbers4 23 5 0 0) ∷
    ("P,1|int,0|" with (of "0,0,|x") is numbers4 23 5 0 0) ∷
    ("P,1|int,0|" with (of "0,0,||") is numbers4 23 5 0 0) ∷
    ("P,1|int,0|" with (of "1,0,|0,0,|") is numbers4 22 4 0 0) ∷
    []

-- all of them
unfoldable pub sheet_edges : List Pair
unfolding times of header_rows step_rows count_rows scope_rows split_header_rows type_rows map_rows row_rows split_count_rows
sheet_edges =
    header_rows
    ++ₗ step_rows
    ++ₗ count_rows
    ++ₗ scope_rows
    ++ₗ split_header_rows
    ++ₗ type_rows
    ++ₗ map_rows
    ++ₗ row_rows
    ++ₗ split_count_rows
