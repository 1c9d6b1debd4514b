-- The lowest pair of threads that race. proofs/Pairs shows that a run has one exactly when its state has a race of the calculus.
use Rattle.std.specs.Prelude.{ℕ, Bool, false, ◌||◌, List, [], ◌∷◌, eqb, Option, None, Some}
use Rattle.spec.specs.Choice.{when◌then◌else◌}
use Rattle.calculus.specs.Expression.{Redex, next_word}
use Rattle.calculus.specs.State.{Slot, Thread}
use Rattle.calculus.specs.Reduction.{◌>>=◌, ◌>>◌, cell_value, word_of}
use Rattle.replay_theory.specs.Run.{Run, traits}

-- the name, if a cell has it
unfoldable pub if_cell : (ℕ → Slot) → Option ℕ → Option ℕ
if_cell names o = do
  n ← o
  cell_value (names n)
  Some n

-- the cell that a thread is about to read, the cell that it is about to write
pub record Uses : Type 0 where
  pub reading : Option ℕ
  pub writing : Option ℕ

unfoldable pub uses_of : (ℕ → Slot) → Option Redex → Uses
uses_of names w = record { reading = if_cell names (w >>= λ x. (traits x).reading); writing = if_cell names (w >>= λ x. (traits x).writing) }

unfoldable pub same_cell : Option ℕ → Option ℕ → Bool
same_cell None o = false
same_cell (Some n) None = false
same_cell (Some n) (Some m) = eqb n m

-- Definition 2.1: one of the two is about to write a cell that the other is about to read or write
unfoldable pub clash : Uses → Uses → Bool
clash a b = same_cell a.writing b.reading || (same_cell a.writing b.writing || same_cell a.reading b.writing)

-- what each thread is about to use, with its number
unfoldable pub uses_in : (ℕ → Slot) → (numbers : List ℕ) → List Thread → List (ℕ × Uses)
uses_in names [] ts = []
uses_in names (i ∷ is) [] = []
uses_in names (i ∷ is) (t ∷ ts) = (i, uses_of names (word_of (next_word t.body))) ∷ uses_in names is ts

-- "its lowest pair (smaller thread first, then the other)": the first thread that clashes with a later one, and the first of those
unfoldable pub clashing : Uses → List (ℕ × Uses) → Option ℕ
clashing a [] = None
clashing a (u ∷ us) = when clash a u.1 then Some u.0 else clashing a us

unfoldable pub pair_or : (i : ℕ) → Option ℕ → Option (ℕ × ℕ) → Option (ℕ × ℕ)
pair_or i None later = later
pair_or i (Some j) later = Some (i, j)

unfoldable pub lowest_among : List (ℕ × Uses) → Option (ℕ × ℕ)
lowest_among [] = None
lowest_among (u ∷ us) = pair_or u.0 (clashing u.1 us) (lowest_among us)

unfoldable pub lowest_pair : Run → Option (ℕ × ℕ)
lowest_pair r = lowest_among (uses_in r.state.names r.numbers r.state.threads)
