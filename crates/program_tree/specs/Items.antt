-- The steps and `proc` lines that the work space stores, each in columns of their own.
use Rattle.std.specs.Prelude.{◌≡◌, List, [], ◌∷◌, map, ℕ, ◌+◌, ◌≤◌, length}
use Rattle.spec.specs.Expression.{Step, Item, step, proc, steps_among}
use Rattle.spec.specs.Words.{largest_value}
use Rattle.workspace.specs.Layout.{proc_lines_at, proc_vars_at, proc_firsts_at}
use Rattle.workspace.specs.Region.{Region}
use Rattle.workspace.specs.Holds.{HoldsSteps}

-- a `proc` line as it is stored: its line, its variable, the index of the step behind it
pub record ProcRow : Type 0 where
  pub line : ℕ
  pub variable : ℕ
  pub first : ℕ

-- the `proc` lines among lines, where the next step has index i
unfoldable pub proc_rows : (i : ℕ) → List Item → List ProcRow
proc_rows i [] = []
proc_rows i (step s ∷ items) = proc_rows (i + 1) items
proc_rows i (proc x k ∷ items) = record { line = k; variable = x; first = i } ∷ proc_rows i items

-- each variable is one
pub data Variables : List ProcRow → Type 0 where
  no_variables : Variables []
  more_variables : {r : ProcRow} {rs : List ProcRow} → r.variable ≤ 255 → Variables rs → Variables (r ∷ rs)

-- `proc` lines in their columns
pub record HoldsProcs (w : List ℕ) (rows : List ProcRow) : Type 0 where
  pub lines : Region w proc_lines_at (map (λ (r : ProcRow). r.line) rows)
  pub variables : Region w proc_vars_at (map (λ (r : ProcRow). r.variable) rows)
  pub firsts : Region w proc_firsts_at (map (λ (r : ProcRow). r.first) rows)

-- lines, by their steps and their `proc` lines
pub record HoldsItems (w : List ℕ) (items : List Item) : Type 0 where
  pub steps : HoldsSteps w (steps_among items)
  pub procs : HoldsProcs w (proc_rows 0 items)

-- no number is larger than its word allows
pub data Limited : List Step → Type 0 where
  none_limited : Limited []
  more_limited : {s : Step} {ss : List Step} → s.value ≤ largest_value s.word → Limited ss → Limited (s ∷ ss)

-- lines are read and stored: so many steps and so many `proc` lines, and no number is larger than its line allows
pub record ItemsStored (steps procs : ℕ) (w : List ℕ) : Type 0 where
  pub items : List Item
  pub held : HoldsItems w items
  pub steps_counted : length (steps_among items) ≡ steps
  pub procs_counted : length (proc_rows 0 items) ≡ procs
  pub limited : Limited (steps_among items)
  pub variables : Variables (proc_rows 0 items)
