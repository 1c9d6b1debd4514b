-- Request (ix), "Locks that take more than they give". Before it a lock line was `lock,k,0`.
use Rattle.std.specs.Prelude.{◌≡◌, List, [], ◌∷◌, ℕ, zero, suc, ◌≤◌, length, Ok}
use Rattle.spec.specs.Choice.{when◌then◌else◌}
use Rattle.spec.specs.Text.{bytes, same, Line, closed, lines, Field, fields}
use Rattle.spec.specs.Program.{Program, program}
use Rattle.spec.specs.Split.{Split, split, split_limit}
use Rattle.spec.specs.Verdict.{verdict}
use Rattle.spec.specs.declared.Purpose.TheVariants.{Check}

-- `k,0` becomes `k,k`
unfoldable pub second_too : List Field → List Field
second_too [] = []
second_too (k ∷ []) = k ∷ []
second_too (k ∷ z ∷ []) = k ∷ k ∷ []
second_too (k ∷ z ∷ f ∷ fs) = k ∷ z ∷ f ∷ fs

-- the fields of a type line: those of a lock line change
unfoldable pub out_written : List Field → List Field
out_written [] = []
out_written (f ∷ fs) = when same f (bytes "lock") then f ∷ second_too fs else f ∷ fs

-- n type lines are changed so; the lines behind them stay
pub data OutsWritten : (n : ℕ) → List Line → List Line → Type 0 where
  stay : {ls : List Line} → OutsWritten zero ls ls
  change : {n : ℕ} {l l' : List ℕ} {ls ls' : List Line} → fields l' ≡ out_written (fields l) → OutsWritten n ls ls'
      → OutsWritten (suc n) (closed l ∷ ls) (closed l' ∷ ls')

-- the lines of a `C2` sheet with n types, and those of the `C3` sheet
pub data WrittenOut (n : ℕ) : List Line → List Line → Type 0 where
  heading : {l l' : List ℕ} {fs : List Field} {ls ls' : List Line} → fields l ≡ bytes "C2" ∷ fs → fields l' ≡ bytes "C3" ∷ fs
      → OutsWritten n ls ls' → WrittenOut n (closed l ∷ ls) (closed l' ∷ ls')

-- t' is the `C2` sheet t written out, for the steps of the program p, which reads t
abbrev pub LocksWritten : (p t t' : List ℕ) → Type 0
LocksWritten p t t' = (P : Program) → program p ≡ Ok P → (S : Split) × (split Check P t ≡ Ok S) × WrittenOut S.header.types (lines t) (lines t')

-- "Older lock lines mean in = out": the sheet that says so gets the same answer
abbrev pub InIsOutStays : Type 0
InIsOutStays =
    (room : ℕ) (p t t' : List ℕ) → length t ≤ split_limit → length t' ≤ split_limit → LocksWritten p t t' → verdict room p t ≡ verdict room p t'
