-- Rows for procedures: the sheets with each new refusal, each condition of a call and of a `proc` line met and false, and where 30
-- stands. The answers are worked out by hand from documents 01 and 02.
use Rattle.std.specs.Prelude.{◌≡◌, List, [], ◌∷◌, ◌++◌ as ◌++ₗ◌, map}
use Prim.Native.String.{String, ◌++◌}
use Rattle.spec.specs.Reading.{◌>>=◌}
use Rattle.spec.specs.StepContexts.{is_type, only}
use Rattle.spec.specs.Verdict.{numbers4, returned, answer, sheets, start_at_most_one, type_conditions_hold}
use Rattle.spec.specs.Pairs.KnownPairs.{Pair, barred, ◌with◌is◌, found, Z}
use Rattle.spec.specs.Pairs.EdgeSheets.{times}
use Rattle.spec.specs.declared.Returned.{Returned}
use Rattle.spec.specs.declared.Purpose.TheVariants.{Fill}

-- ------------------------------------------------------------------ the program sheet

-- n 1 to 256, k 0 to 16
unfoldable pub most_procedures : List Pair
most_procedures =
    ("P2,256,16|int,0|" with Z is numbers4 13 2 0 0) ∷
    ("P2,1,17|int,0|" with Z is numbers4 12 1 0 0) ∷
    []

-- line 1: as many numerals as the heading wants, then form before range
unfoldable pub procedure_headers : List Pair
procedure_headers =
    ("P2,1,0|int,0|" with Z is numbers4 0 0 0 0) ∷
    ("P2,1|int,0|" with Z is numbers4 11 1 0 0) ∷
    ("P2,1,0,0|int,0|" with Z is numbers4 11 1 0 0) ∷
    ("P2|int,0|" with Z is numbers4 11 1 0 0) ∷
    ("P2,1,|int,0|" with Z is numbers4 11 1 0 0) ∷
    ("P2,1,x|int,0|" with Z is numbers4 11 1 0 0) ∷
    ("P2,0,00|int,0|" with Z is numbers4 11 1 0 0) ∷
    ("P2,1,0" with Z is numbers4 11 1 0 0) ∷
    ("P,1,0|int,0|" with Z is numbers4 11 1 0 0) ∷
    ("p2,1,0|int,0|" with Z is numbers4 11 1 0 0) ∷
    ("P3,1,0|int,0|" with Z is numbers4 11 1 0 0) ∷
    ("P2,0,0|int,0|" with Z is numbers4 12 1 0 0) ∷
    ("P2,257,0|int,0|" with Z is numbers4 12 1 0 0) ∷
    ("P2,1,4294967296|int,0|" with Z is numbers4 12 1 0 0) ∷
    []

-- `proc,x` and `call,f`: their form, then x 0 to 255, f 0 to 15; in a `P` sheet they are no words
unfoldable pub procedure_lines : List Pair
procedure_lines =
    ("P,2|proc,0|int,0|" with Z is numbers4 11 2 0 0) ∷
    ("P,2|proc,256|int,0|" with Z is numbers4 11 2 0 0) ∷
    ("P,2|call,0|int,0|" with Z is numbers4 11 2 0 0) ∷
    ("P,2|call,16|int,0|" with Z is numbers4 11 2 0 0) ∷
    ("P2,1,1|proc|int,0|" with Z is numbers4 11 2 0 0) ∷
    ("P2,1,1|proc,|int,0|" with Z is numbers4 11 2 0 0) ∷
    ("P2,1,1|proc,00|int,0|" with Z is numbers4 11 2 0 0) ∷
    ("P2,1,1|proc,0,0|int,0|" with Z is numbers4 11 2 0 0) ∷
    ("P2,1,1|Proc,0|int,0|" with Z is numbers4 11 2 0 0) ∷
    ("P2,1,1|procs,0|int,0|" with Z is numbers4 11 2 0 0) ∷
    ("P2,1,1|proc,0" with Z is numbers4 11 2 0 0) ∷
    ("P2,1,1|proc,256|int,0|" with Z is numbers4 12 2 0 0) ∷
    ("P2,1,1|proc,4294967296|int,0|" with Z is numbers4 12 2 0 0) ∷
    ("P2,1,1|proc,255|int,0|" with Z is numbers4 13 3 0 0) ∷
    ("P2,2,0|call|int,0|" with Z is numbers4 11 2 0 0) ∷
    ("P2,2,0|call,x|int,0|" with Z is numbers4 11 2 0 0) ∷
    ("P2,2,0|call,0,0|int,0|" with Z is numbers4 11 2 0 0) ∷
    ("P2,2,0|Call,0|int,0|" with Z is numbers4 11 2 0 0) ∷
    ("P2,2,0|call,16|int,0|" with Z is numbers4 12 2 0 0) ∷
    ("P2,2,0|call,15|int,0|" with Z is numbers4 49 2 0 0) ∷
    []

-- lines missing and spare, over n + k lines, come before the order of proc and step lines; so do 11, 12 and 45 of every line
unfoldable pub procedure_counts : List Pair
procedure_counts =
    ("P2,1,1|" with Z is numbers4 13 1 0 0) ∷
    ("P2,1,1|proc,0|" with Z is numbers4 13 2 0 0) ∷
    ("P2,2,1|int,0|int,0|" with Z is numbers4 13 3 0 0) ∷
    ("P2,1,1|proc,0|int,0|int,0|" with Z is numbers4 13 4 0 0) ∷
    ("P2,1,1|int,0|int,0|foo" with Z is numbers4 13 4 0 0) ∷
    ("P2,1,1|int,0|foo,0|" with Z is numbers4 11 3 0 0) ∷
    ("P2,1,1|int,0|proc,256|" with Z is numbers4 12 3 0 0) ∷
    ("P2,1,1|int,0|freelock,0|" with Z is numbers4 45 3 0 0) ∷
    []

-- one walk from the top: the first line that does not fit, else the last line; before 14, 15 and 49
unfoldable pub procedure_order : List Pair
procedure_order =
    ("P2,1,1|int,0|int,0|" with Z is numbers4 13 2 0 0) ∷
    ("P2,1,1|proc,0|proc,1|" with Z is numbers4 13 3 0 0) ∷
    ("P2,1,1|proc,0|int,0|" with Z is numbers4 13 3 0 0) ∷
    ("P2,3,1|proc,0|int,0|int,0|int,0|" with Z is numbers4 13 5 0 0) ∷
    ("P2,2,2|proc,0|ref,0|ref,0|int,0|" with Z is numbers4 13 5 0 0) ∷
    ("P2,1,0|proc,0|" with Z is numbers4 13 2 0 0) ∷
    ("P2,2,0|int,0|proc,0|" with Z is numbers4 13 3 0 0) ∷
    ("P2,2,0|let,0|proc,1|" with Z is numbers4 13 3 0 0) ∷
    ("P2,3,1|proc,0|proc,1|int,0|int,0|" with Z is numbers4 13 3 0 0) ∷
    ("P2,3,1|proc,0|let,1|proc,2|int,0|" with Z is numbers4 13 4 0 0) ∷
    ("P2,3,1|proc,0|int,0|proc,1|int,0|" with Z is numbers4 13 4 0 0) ∷
    ("P2,4,0|let,0|int,0|proc,1|int,0|" with Z is numbers4 13 4 0 0) ∷
    ("P2,2,1|proc,0|let,1|proc,2|" with Z is numbers4 13 4 0 0) ∷
    ("P2,3,2|proc,0|int,0|int,0|proc,1|int,0|" with Z is numbers4 13 4 0 0) ∷
    ("P2,2,1|proc,0|int,0|let,1|" with Z is numbers4 13 4 0 0) ∷
    ("P2,2,1|var,0|proc,0|int,0|" with Z is numbers4 13 2 0 0) ∷
    ("P2,1,2|proc,0|call,9|proc,0|" with Z is numbers4 13 4 0 0) ∷
    []

-- x is bound in its body alone, a body uses only x and its own lets; lets and procs share one set of variables; a call is to a
-- procedure that is there, itself and later ones too; 14, 15 and 49 in line order
unfoldable pub procedure_scopes : List Pair
procedure_scopes =
    ("P2,2,1|proc,0|int,0|var,0|" with Z is numbers4 14 4 0 0) ∷
    ("P2,3,2|proc,0|int,0|proc,1|var,0|int,0|" with Z is numbers4 14 5 0 0) ∷
    ("P2,4,1|proc,0|var,1|let,1|int,0|int,0|" with Z is numbers4 14 3 0 0) ∷
    ("P2,4,1|proc,0|let,1|int,0|int,0|var,1|" with Z is numbers4 14 6 0 0) ∷
    ("P2,3,2|proc,0|int,0|proc,0|int,0|int,0|" with Z is numbers4 15 4 0 0) ∷
    ("P2,4,1|proc,0|let,0|int,0|int,0|int,0|" with Z is numbers4 15 3 0 0) ∷
    ("P2,4,1|proc,0|int,0|let,0|int,0|int,0|" with Z is numbers4 15 4 0 0) ∷
    ("P2,5,2|proc,1|let,0|int,0|int,0|proc,0|int,0|int,0|" with Z is numbers4 15 6 0 0) ∷
    ("P2,2,0|call,0|int,0|" with Z is numbers4 49 2 0 0) ∷
    ("P2,3,1|proc,0|int,0|call,1|int,0|" with Z is numbers4 49 4 0 0) ∷
    ("P2,3,1|proc,0|call,1|var,0|int,0|" with Z is numbers4 49 3 0 0) ∷
    ("P2,2,0|call,0|var,0|" with Z is numbers4 49 2 0 0) ∷
    ("P2,3,1|proc,0|var,1|call,1|int,0|" with Z is numbers4 14 3 0 0) ∷
    ("P2,4,2|proc,0|call,2|int,0|proc,0|int,0|int,0|" with Z is numbers4 49 3 0 0) ∷
    ("P2,4,2|proc,0|int,0|proc,0|call,2|int,0|int,0|" with Z is numbers4 15 4 0 0) ∷
    ("P2,4,2|proc,0|call,1|var,0|proc,1|var,1|int,0|" with "" is numbers4 21 1 0 0) ∷
    []

-- ------------------------------------------------------------------ the split sheet

-- a split with D = 2, one location, types int and ref to int, maps 0, 1, 2 of 2, 1 and nothing, by its signatures and its rows; and
-- the same with line 1 written out
unfoldable pub under : String → String → String
under header body = header ++ "|int,0,0|ref,0,0|2|1|0|" ++ body

unfoldable pub signed : String → String
signed body = under "C,2,1,2,3" body

-- line 2 a procedure whose body is a constant, line 4 its call: the body gets 1 and leaves 1, the caller keeps 1 back
unfoldable pub calling : String
calling = "P2,3,1|proc,0|int,0|call,0|int,0|"

-- `before,argument,after,result` behind the maps, a line a procedure, under every heading: form, then range, in its turn
unfoldable pub signature_lines : List Pair
signature_lines =
    (calling with (signed "1,0,1,0|0,1,|0,0,1|0,0,|") is numbers4 0 0 0 0) ∷
    (calling with (under "C2,2,1,2,3,0" "1,0,1,0|0,1,|0,0,1|0,0,|") is numbers4 0 0 0 0) ∷
    (calling with (under "C3,2,1,2,3,0" "1,0,1,0|0,1,|0,0,1|0,0,|") is numbers4 0 0 0 0) ∷
    (calling with (signed "1,0,1|0,1,|0,0,1|0,0,|") is numbers4 21 7 0 0) ∷
    (calling with (signed "1,0,1,0,0|0,1,|0,0,1|0,0,|") is numbers4 21 7 0 0) ∷
    (calling with (signed "1,0,1,|0,1,|0,0,1|0,0,|") is numbers4 21 7 0 0) ∷
    (calling with (signed "9,0,1,x|0,1,|0,0,1|0,0,|") is numbers4 21 7 0 0) ∷
    (calling with (signed "1,0,1,0") is numbers4 21 7 0 0) ∷
    (calling with (signed "3,0,1,0|0,1,|0,0,1|0,0,|") is numbers4 22 7 0 0) ∷
    (calling with (signed "1,2,1,0|0,1,|0,0,1|0,0,|") is numbers4 22 7 0 0) ∷
    (calling with (signed "1,0,3,0|0,1,|0,0,1|0,0,|") is numbers4 22 7 0 0) ∷
    (calling with (signed "1,0,1,2|0,1,|0,0,1|0,0,|") is numbers4 22 7 0 0) ∷
    (calling with (signed "1,4294967296,1,0|0,1,|0,0,1|0,0,|") is numbers4 22 7 0 0) ∷
    (calling with (signed "") is numbers4 23 6 0 0) ∷
    (calling with (signed "1,0,1,0|") is numbers4 23 7 0 0) ∷
    (calling with (signed "0,1,|0,0,1|0,0,|") is numbers4 21 7 0 0) ∷
    (calling with (signed "1,0,1,0|0,1,|0,0,1|") is numbers4 23 9 0 0) ∷
    (calling with (signed "1,0,1,0|0,1,|0,0,1|0,0,|0,0,|") is numbers4 23 11 0 0) ∷
    ("P2,1,0|int,0|" with (signed "0,0,|") is numbers4 0 0 0 0) ∷
    ("P2,1,0|int,0|" with (signed "1,0,1,0|0,0,|") is numbers4 21 7 0 0) ∷
    []

-- a call's s: after 22 on its line, before anything of a later line and before 23, under every heading; on other words as before
unfoldable pub kept_rows : List Pair
kept_rows =
    (calling with (signed "1,0,1,0|0,1,|0,0,|0,0,|") is numbers4 50 9 0 0) ∷
    (calling with (under "C2,2,1,2,3,0" "1,0,1,0|0,1,|0,0,|0,0,|") is numbers4 50 9 0 0) ∷
    (calling with (under "C3,2,1,2,3,0" "1,0,1,0|0,1,|0,0,|0,0,|") is numbers4 50 9 0 0) ∷
    (calling with (signed "1,0,1,0|0,1,|0,9,|0,0,|") is numbers4 22 9 0 0) ∷
    (calling with (signed "1,0,1,0|0,1,|9,0,|0,0,|") is numbers4 22 9 0 0) ∷
    (calling with (signed "1,0,1,0|0,1,|0,x,|0,0,|") is numbers4 21 9 0 0) ∷
    (calling with (signed "1,0,1,0|0,1,|0,0|0,0,|") is numbers4 21 9 0 0) ∷
    (calling with (signed "1,0,1,0|0,1,|0,0,x|0,0,|") is numbers4 21 9 0 0) ∷
    (calling with (signed "1,0,1,0|0,1,|0,0,3|0,0,|") is numbers4 22 9 0 0) ∷
    (calling with (signed "1,0,1,0|0,1,|0,0,|x,0,|") is numbers4 50 9 0 0) ∷
    (calling with (signed "1,0,1,0|0,1,|0,0,|9,0,|") is numbers4 50 9 0 0) ∷
    (calling with (signed "1,0,1,0|0,1,|0,0,|") is numbers4 50 9 0 0) ∷
    (calling with (signed "1,0,1,0|0,1,|0,0,|0,0,|0,0,|") is numbers4 50 9 0 0) ∷
    (calling with (signed "1,0,1,0|0,9,|0,0,|0,0,|") is numbers4 22 8 0 0) ∷
    (calling with (signed "1,0,1,0|0,1,2|0,0,|0,0,|") is numbers4 22 8 0 0) ∷
    ("P2,3,0|spawn,0|newtid,0|int,0|" with "C,2,1,2,1|int,0,0|tid,0,0|0|0,0,|1,0,|0,0,|" is numbers4 40 5 0 0) ∷
    ("P2,3,0|spawn,0|newtid,0|int,0|" with "C2,2,1,2,1,0|int,0,0|tid,0,0|0|0,0,|1,0,|0,0,|" is numbers4 0 0 0 0) ∷
    []

-- ------------------------------------------------------------------ the conditions

-- a call: its type is result, its part's type is argument, the argument's post = before + kept, post = after + kept
unfoldable pub call_rows : List Pair
call_rows =
    (calling with (signed "1,0,1,0|0,1,|1,0,1|0,0,|") is numbers4 31 4 1 0) ∷
    (calling with (signed "1,1,1,0|0,1,|0,0,1|0,0,|") is numbers4 31 4 2 0) ∷
    (calling with (signed "1,0,1,0|0,1,|0,0,0|0,0,|") is numbers4 32 4 3 0) ∷
    (calling with (signed "1,0,1,0|0,1,|0,0,2|0,0,|") is numbers4 32 4 3 0) ∷
    (calling with (signed "1,0,1,0|0,1,|0,1,1|0,0,|") is numbers4 32 4 4 0) ∷
    (calling with (signed "1,0,1,0|0,1,|0,1,0|0,0,|") is numbers4 32 4 3 0) ∷
    (calling with (signed "1,1,1,0|0,1,|1,1,0|0,0,|") is numbers4 31 4 1 0) ∷
    (calling with (signed "1,1,1,0|0,1,|0,1,0|0,0,|") is numbers4 31 4 2 0) ∷
    -- what is kept back is had again, also if nothing is kept
    (calling with (signed "0,0,0,0|0,0,|0,0,2|0,0,|") is numbers4 0 0 0 0) ∷
    (calling with (signed "2,0,2,0|0,2,|0,0,0|0,0,|") is numbers4 0 0 0 0) ∷
    (calling with (signed "2,0,2,0|0,2,|0,2,0|0,0,|") is numbers4 32 4 4 0) ∷
    -- the lowest location at which it fails
    (calling with "C,2,2,1,3|int,0,0|2,2|1,1|1,0|1,0,1,0|0,1,|0,0,2|0,0,|" is numbers4 32 4 3 1) ∷
    -- a type afresh under another number agrees
    (calling with "C,2,1,2,3|int,0,0|int,0,0|2|1|0|1,1,1,1|0,1,|0,0,1|0,0,|" is numbers4 0 0 0 0) ∷
    []

-- `after` unlike `before`: the body starts with `before` and leaves more than `after`, and the caller gets `after` back
unfoldable pub unlike_rows : List Pair
unlike_rows =
    (calling with (signed "1,0,2,0|0,1,|0,1,1|0,0,|") is numbers4 0 0 0 0) ∷
    (calling with (signed "1,0,2,0|0,1,|0,0,1|0,0,|") is numbers4 32 4 4 0) ∷
    []

-- a `proc` line: the body's type is result, the body's post is at least `after`; then the body, whose pre is `before`; called or not
unfoldable pub proc_rows : List Pair
proc_rows =
    (calling with (signed "1,0,1,1|0,1,|1,0,1|0,0,|") is numbers4 31 2 1 0) ∷
    (calling with (signed "1,0,0,0|0,1,|0,0,1|0,0,|") is numbers4 32 2 2 0) ∷
    (calling with (signed "1,0,0,1|0,1,|0,0,1|0,0,|") is numbers4 31 2 1 0) ∷
    (calling with (signed "1,0,1,0|0,0,|0,0,1|0,0,|") is numbers4 32 3 2 0) ∷
    (calling with (signed "1,0,2,0|0,2,|0,1,1|0,0,|") is numbers4 32 3 2 0) ∷
    (calling with (signed "1,0,0,0|0,2,|0,0,1|0,0,|") is numbers4 32 2 2 0) ∷
    (calling with (signed "1,0,1,0|1,1,|0,0,1|0,0,|") is numbers4 31 2 1 0) ∷
    (calling with "C,2,2,1,3|int,0,0|2,2|1,1|1,0|2,0,1,0|0,2,|0,0,1|0,0,|" is numbers4 32 2 2 1) ∷
    ("P2,2,1|proc,0|int,0|int,0|" with (signed "1,0,1,0|0,1,|0,0,|") is numbers4 0 0 0 0) ∷
    ("P2,2,1|proc,0|int,0|int,0|" with (signed "1,0,0,0|0,1,|0,0,|") is numbers4 32 2 2 0) ∷
    ("P2,2,1|proc,0|int,0|int,0|" with (signed "0,0,1,0|0,1,|0,0,|") is numbers4 32 3 2 0) ∷
    []

-- 30 at the root's own line, before every condition
unfoldable pub root_rows : List Pair
root_rows =
    ("P2,2,1|proc,0|int,0|int,0|" with (under "C,1,1,2,3" "1,0,1,0|0,1,|0,0,|") is numbers4 30 4 0 0) ∷
    ("P2,2,1|proc,0|int,0|int,0|" with (under "C2,1,1,2,3,0" "1,0,0,1|0,1,|0,0,|") is numbers4 30 4 0 0) ∷
    ("P2,2,1|proc,0|int,0|int,0|" with (under "C2,1,1,2,3,1" "1,0,0,1|0,1,|0,0,|") is numbers4 31 2 1 0) ∷
    ("P2,1,0|int,0|" with (under "C,1,1,2,3" "0,0,|") is numbers4 30 2 0 0) ∷
    -- a procedure may ask for more than there is: only the start is looked at
    ("P2,2,1|proc,0|int,0|int,0|" with (under "C2,1,1,2,3,1" "0,0,0,0|0,0,|0,1,|") is numbers4 0 0 0 0) ∷
    []

-- x has the argument type: line 2 a procedure that reads the cell handed to it; the types of x and of the call's part, each by itself
unfoldable pub parameter_rows : List Pair
parameter_rows =
    ("P2,5,1|proc,0|read,0|var,0|call,0|ref,0|int,0|" with (signed "1,1,1,0|0,1,|1,1,|0,0,1|1,0,|0,0,|") is numbers4 0 0 0 0) ∷
    ("P2,5,1|proc,0|read,0|var,0|call,0|ref,0|int,0|" with (signed "2,1,2,0|0,2,|1,2,|0,0,0|1,0,|0,0,|") is numbers4 33 3 4 0) ∷
    ("P2,5,1|proc,0|read,0|var,0|call,0|ref,0|int,0|" with (signed "1,0,1,0|0,1,|1,1,|0,0,1|1,0,|0,0,|") is numbers4 31 4 1 0) ∷
    ("P2,3,1|proc,0|var,0|call,0|int,0|" with (signed "1,0,1,0|0,1,|0,0,1|0,0,|") is numbers4 0 0 0 0) ∷
    ("P2,3,1|proc,0|var,0|call,0|int,0|" with (signed "1,1,1,0|0,1,|0,0,1|0,0,|") is numbers4 31 3 1 0) ∷
    ("P2,4,1|proc,0|var,0|call,0|ref,0|int,0|" with (signed "1,0,1,0|0,1,|0,0,1|1,0,|0,0,|") is numbers4 31 4 2 0) ∷
    []

-- several procedures, by number; a procedure that calls itself, and two that call each other
unfoldable pub several_rows : List Pair
several_rows =
    ("P2,4,2|proc,0|int,0|proc,1|int,0|call,1|int,0|" with (signed "1,0,1,0|2,0,2,0|0,1,|0,2,|0,0,0|0,0,|") is numbers4 0 0 0 0) ∷
    ("P2,4,2|proc,0|int,0|proc,1|int,0|call,0|int,0|" with (signed "1,0,1,0|2,0,2,0|0,1,|0,2,|0,0,0|0,0,|") is numbers4 32 6 3 0) ∷
    ("P2,4,2|proc,0|int,0|proc,1|int,0|call,1|int,0|" with (signed "2,0,2,0|1,0,1,0|0,1,|0,2,|0,0,0|0,0,|") is numbers4 32 3 2 0) ∷
    ("P2,4,2|proc,0|int,0|proc,1|int,0|call,1|int,0|" with (signed "1,0,1,0|2,0,1,0|0,1,|0,2,|0,0,0|0,0,|") is numbers4 32 4 2 0) ∷
    ("P2,4,1|proc,0|call,0|var,0|call,0|int,0|" with (signed "1,0,1,0|0,1,2|0,1,|0,0,1|0,0,|") is numbers4 0 0 0 0) ∷
    ("P2,4,1|proc,0|call,0|var,0|call,0|int,0|" with (signed "1,0,1,0|0,1,1|0,1,|0,0,1|0,0,|") is numbers4 32 3 3 0) ∷
    ("P2,6,2|proc,0|call,1|var,0|proc,1|call,0|var,1|call,0|int,0|" with (signed "1,0,1,0|1,0,1,0|0,1,2|0,1,|0,1,2|0,1,|0,0,1|0,0,|") is numbers4 0 0 0 0) ∷
    []

-- fifteen procedures, each with a constant for its body
unfoldable pub fifteen : String
fifteen = "proc,0|int,0|proc,1|int,0|proc,2|int,0|proc,3|int,0|proc,4|int,0|proc,5|int,0|proc,6|int,0|proc,7|int,0|proc,8|int,0|proc,9|int,0|proc,10|int,0|proc,11|int,0|proc,12|int,0|proc,13|int,0|proc,14|int,0|"

-- sixteen procedures, of which the last has the largest variable and is called; with fifteen it isn't there. 256 steps in two expressions
unfoldable pub many_rows : List Pair
many_rows =
    (("P2,18,16|" ++ fifteen ++ "proc,255|var,255|call,15|int,0|") with (signed (times 16 "1,0,1,0|" ++ times 16 "0,1,|" ++ "0,0,1|0,0,|")) is numbers4 0 0 0 0) ∷
    (("P2,17,15|" ++ fifteen ++ "call,15|int,0|") with Z is numbers4 49 32 0 0) ∷
    (("P2,256,1|proc,0|" ++ times 127 "while,0|" ++ "var,0|" ++ times 126 "while,0|" ++ "call,0|int,0|") with (signed ("0,0,0,0|" ++ times 254 "0,0,|" ++ "0,0,2|0,0,|")) is numbers4 0 0 0 0) ∷
    []

-- types 1 and 2 are locks of 1 in and out, and of nothing in and 1 out, which is looser
unfoldable pub lent : String → String
lent body = "C3,2,1,3,3,0|int,0,0|lock,1,1|lock,2,1|2|1|0|" ++ body

-- a var line of x may show a looser lock than `argument`; a call and a `proc` line want agreement
unfoldable pub looser_rows : List Pair
looser_rows =
    ("P2,4,1|proc,0|lock,0|var,0|call,0|newlock,0|" with (lent "2,1,2,0|0,2,|2,2,|0,1,1|1,1,|") is numbers4 0 0 0 0) ∷
    ("P2,4,1|proc,0|lock,0|var,0|call,0|newlock,0|" with (lent "2,2,2,0|0,1,|1,2,|0,1,1|2,1,|") is numbers4 31 4 1 0) ∷
    ("P2,4,1|proc,0|lock,0|var,0|call,0|newlock,0|" with (lent "2,1,2,0|0,2,|2,2,|0,1,1|2,1,|") is numbers4 31 5 2 0) ∷
    ("P2,3,1|proc,0|var,0|call,0|newlock,0|" with (lent "2,1,2,2|2,2,|2,1,1|1,1,|") is numbers4 0 0 0 0) ∷
    ("P2,3,1|proc,0|var,0|call,0|newlock,0|" with (lent "2,1,2,1|2,2,|1,1,1|1,1,|") is numbers4 31 2 1 0) ∷
    ("P2,3,1|proc,0|var,0|call,0|newlock,0|" with (lent "2,1,2,1|1,2,|2,1,1|1,1,|") is numbers4 31 4 1 0) ∷
    []

-- ------------------------------------------------------------------ filling

-- what filling gets of both sheets, 30 and 31; the sheets of call_fills leave m empty
unfoldable pub found_to_fill : Pair → Returned
unfolding found type_conditions_hold is_type only
found_to_fill r = returned (answer (sheets Fill (barred r.program) (barred r.split) >>= λ (P, S). start_at_most_one P S >>= λ whole. type_conditions_hold P S))

-- "A `C` header is 21"
unfoldable pub heading_fills : List Pair
heading_fills =
    (calling with (under "C,2,1,2,3" "1,0,1,0|0,,|0,,1|0,,|") is numbers4 21 1 0 0) ∷
    (calling with (under "C2,2,1,2,3,0" "1,0,1,0|0,,|0,,1|0,,|") is numbers4 0 0 0 0) ∷
    (calling with (under "C3,2,1,2,3,0" "1,0,1,0|0,,|0,,1|0,,|") is numbers4 0 0 0 0) ∷
    []

-- signatures and a call's s as in checking; an m that is a numeral is 22, before 50
unfoldable pub call_fills : List Pair
call_fills =
    (calling with (under "C2,2,1,2,3,0" "1,0,1|0,,|0,,1|0,,|") is numbers4 21 7 0 0) ∷
    (calling with (under "C2,2,1,2,3,0" "1,2,1,0|0,,|0,,1|0,,|") is numbers4 22 7 0 0) ∷
    (calling with (under "C2,2,1,2,3,0" "1,0,1,0|0,,|0,,|0,,|") is numbers4 50 9 0 0) ∷
    (calling with (under "C2,2,1,2,3,0" "1,0,1,0|0,,|0,0,|0,,|") is numbers4 22 9 0 0) ∷
    (calling with (under "C2,2,1,2,3,0" "1,0,1,0|0,,|0,x,|0,,|") is numbers4 21 9 0 0) ∷
    (calling with (under "C2,2,1,2,3,0" "1,0,1,0|0,,|0,,3|0,,|") is numbers4 22 9 0 0) ∷
    (calling with (under "C2,1,1,2,3,0" "1,0,1,1|0,,|0,,1|0,,|") is numbers4 30 4 0 0) ∷
    (calling with (under "C2,2,1,2,3,0" "1,0,0,1|0,,|0,,1|0,,|") is numbers4 31 2 1 0) ∷
    (calling with (under "C2,2,1,2,3,0" "1,1,0,0|0,,|0,,0|0,,|") is numbers4 31 4 2 0) ∷
    []

-- filling gives each row of a table its answer
unfoldable pub Filled : List Pair → Type 0
Filled rows = map found_to_fill rows ≡ map (λ (r : Pair). r.expected) rows

-- all of the others
unfoldable pub procedure_edges : List Pair
unfolding most_procedures procedure_headers procedure_lines procedure_counts procedure_order procedure_scopes under signed calling signature_lines kept_rows call_rows unlike_rows proc_rows root_rows parameter_rows several_rows fifteen many_rows lent looser_rows
procedure_edges =
    most_procedures ++ₗ procedure_headers ++ₗ procedure_lines ++ₗ procedure_counts ++ₗ procedure_order ++ₗ procedure_scopes ++ₗ signature_lines ++ₗ kept_rows
    ++ₗ call_rows ++ₗ unlike_rows ++ₗ proc_rows ++ₗ root_rows ++ₗ parameter_rows ++ₗ several_rows ++ₗ many_rows ++ₗ looser_rows
