-- The practice pair of k readers: the program sheet and the split sheet, as lines of fields.
use Rattle.std.specs.Prelude.{List, [], ◌∷◌, ◌++◌, ℕ, zero, suc, ◌+◌, ◌-◌, length}
use Prim.Native.String.{String}
use Rattle.spec.specs.Text.{Field, bytes}
use Rattle.text_theory.specs.Text.{decimal, text}
use Rattle.drill_theory.specs.Draw.{readers_of}

-- ------------------------------------------------------------------ the program sheet

-- `word,v`
unfoldable pub step : String → (v : ℕ) → List Field
step word v = bytes word ∷ decimal v ∷ []

-- n lets, each around all that follows, with the same steps for their value; they bind the variables from v upward
unfoldable pub lets : (value : List (List Field)) → (v n : ℕ) → List (List Field)
lets value v zero = []
lets value v (suc n) = step "let" v ∷ (value ++ lets value (v + 1) n)

-- a reader of the cell, spawned on the identifier
unfoldable pub spawn : List (List Field)
spawn = step "spawn" 0 ∷ step "var" 1 ∷ step "read" 0 ∷ step "var" 0 ∷ []

unfoldable pub join : List (List Field)
join = step "join" 0 ∷ step "var" 1 ∷ []

-- "a cell holding 0 and an identifier, spawns k readers on that identifier, joins k times, then writes 1"; "variables are
-- numbered in binding order from 0": the cell is 0, the identifier 1
unfoldable pub program_steps : (k : ℕ) → List (List Field)
program_steps k =
    step "let" 0 ∷ step "ref" 0 ∷ step "int" 0
    ∷ step "let" 1 ∷ step "newtid" 0
    ∷ (lets spawn 2 k
    ++ (lets join (2 + k) k
    ++ (step "write" 0 ∷ step "var" 0 ∷ step "int" 1 ∷ [])))

-- `P,n`, n the number of steps
unfoldable pub program_lines : (k : ℕ) → List (List Field)
program_lines k = step "P" (length (program_steps k)) ∷ program_steps k

unfoldable pub program_text : (k : ℕ) → List ℕ
program_text k = text (program_lines k)

-- ------------------------------------------------------------------ the split sheet

-- "a `C` sheet with D = k and one location"; three types, and maps 0 to k
unfoldable pub header : (k : ℕ) → List Field
header k = bytes "C" ∷ decimal k ∷ decimal 1 ∷ decimal 3 ∷ decimal (k + 1) ∷ []

-- `word,a,b`
unfoldable pub type_line : String → (a b : ℕ) → List Field
type_line word a b = bytes word ∷ decimal a ∷ decimal b ∷ []

-- "types are int, ref, tid in that order"; the identifier carries map k − 1
unfoldable pub type_lines : (k : ℕ) → List (List Field)
type_lines k = type_line "int" 0 0 ∷ type_line "ref" 0 0 ∷ type_line "tid" (k - 1) 0 ∷ []

-- "map i holds k − i for i from 0 to k": n maps, which hold n − 1 and so on down to 0
unfoldable pub falling_maps : (n : ℕ) → List (List Field)
falling_maps zero = []
falling_maps (suc n) = (decimal n ∷ []) ∷ falling_maps n

-- `t,m,`
unfoldable pub row : (t m : ℕ) → List Field
row t m = decimal t ∷ decimal m ∷ [] ∷ []

-- `t,m,s`: "s is written on every spawn, also when it is 0"
unfoldable pub start_row : (t m s : ℕ) → List Field
start_row t m s = decimal t ∷ decimal m ∷ decimal s ∷ []

-- the five rows of a reader that is spawned with map m before it: "Each reader starts with map k − 1", its share, keeps it and
-- leaves it to the identifier
unfoldable pub spawn_rows : (share m : ℕ) → List (List Field)
spawn_rows share m = row 0 0 ∷ start_row 0 (m + 1) share ∷ row 2 m ∷ row 0 share ∷ row 1 share ∷ []

-- n readers, the first with map m before it
unfoldable pub all_spawn_rows : (share m n : ℕ) → List (List Field)
all_spawn_rows share m zero = []
all_spawn_rows share m (suc n) = spawn_rows share m ++ all_spawn_rows share (m + 1) n

-- the three rows of a join with map m behind it
unfoldable pub join_rows : (m : ℕ) → List (List Field)
join_rows m = row 0 0 ∷ row 0 m ∷ row 2 (m + 1) ∷ []

-- n joins, the last with map 0 behind it
unfoldable pub all_join_rows : (n : ℕ) → List (List Field)
all_join_rows zero = []
all_join_rows (suc n) = join_rows n ++ all_join_rows n

-- the rows in step order: the cell and the identifier, the readers, the joins, the write
unfoldable pub rows : (k : ℕ) → List (List Field)
rows k =
    row 0 0 ∷ row 1 0 ∷ row 0 0
    ∷ row 0 0 ∷ row 2 0
    ∷ (all_spawn_rows (k - 1) 0 k
    ++ (all_join_rows k
    ++ (row 0 0 ∷ row 1 0 ∷ row 0 0 ∷ [])))

unfoldable pub split_lines : (k : ℕ) → List (List Field)
split_lines k = header k ∷ (type_lines k ++ (falling_maps (k + 1) ++ rows k))

unfoldable pub split_text : (k : ℕ) → List ℕ
split_text k = text (split_lines k)

-- ------------------------------------------------------------------ the pair of a seed

unfoldable pub program_of : (seed : ℕ) → List ℕ
program_of seed = program_text (readers_of seed)

unfoldable pub split_of : (seed : ℕ) → List ℕ
split_of seed = split_text (readers_of seed)
