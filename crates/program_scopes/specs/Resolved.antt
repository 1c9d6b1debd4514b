-- What arranging stored lines answers, and what it leaves in the work space.
use Rattle.std.specs.Prelude.{List, [], map, ℕ, ◌+◌, ◌≤◌, Result, Ok}
use Rattle.spec.specs.declared.Refusal.{Refusal}
use Rattle.spec.specs.Reading.{◌>>=◌}
use Rattle.spec.specs.Expression.{Expr, Item, steps_among, Procedure, structure, scopes}
use Rattle.workspace.specs.Layout.{ends_at, lets_at, proc_lines_at, proc_vars_at, proc_firsts_at, row_types_at}
use Rattle.workspace.specs.Holds.{all_ends, all_lets, first_steps, HoldsSteps}
use Rattle.workspace.specs.Region.{Region, ChangedWithin}
use Rattle.program_tree.specs.Items.{ItemsStored}
use Rattle.program_tree.specs.declared.Stored.{Stored}
use Rattle.program_tree.specs.Outcomes.{Passes}

-- the procedures and the root that lines list, with their variables in scope; `last` is the last line read
unfoldable pub resolved_of : (last count : ℕ) → List Item → Result (List Procedure × Expr) Refusal
resolved_of last count items =
    structure last count 0 items >>= λ found. scopes count found.0 found.1 [] >>= λ bound. Ok found

-- lines are stored that may list so many procedures
pub record Resolvable (s : Stored) (count : ℕ) (w : List ℕ) : Type 0 where
  pub all : s.steps + s.procs ≤ 256 + count
  pub few : count ≤ 16
  pub stored : ItemsStored s.steps s.procs w

-- what the work space holds of them, beside their steps
pub record HoldsTree (w : List ℕ) (ps : List Procedure) (root : Expr) : Type 0 where
  pub ends : Region w ends_at (all_ends 0 ps root)
  pub lets : Region w lets_at (all_lets 0 0 ps root)
  pub proc_lines : Region w proc_lines_at (map (λ (p : Procedure). p.line) ps)
  pub proc_vars : Region w proc_vars_at (map (λ (p : Procedure). p.parameter) ps)
  pub proc_firsts : Region w proc_firsts_at (first_steps 0 ps)

pub record Resolved (s : Stored) (count : ℕ) (w w' : List ℕ) (r : Result (Unit {0}) Refusal) : Type 0 where
  pub found : (st : ItemsStored s.steps s.procs w)
      → Passes (λ (t : List Procedure × Expr). HoldsTree w' t.0 t.1 × HoldsSteps w' (steps_among st.items)) r (resolved_of s.last count st.items)
  pub changed : ChangedWithin ends_at row_types_at w w'
