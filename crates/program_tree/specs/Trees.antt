-- The procedures and the root that the lines stored list, walked from the top.
use Rattle.std.specs.Prelude.{◌≡◌, Bool, ◌&&◌, List, [], ◌∷◌, ℕ, ◌+◌, ◌-◌, ◌<◌, ◌≤◌, eqb, ltb, length, get_or, Result, Ok, Err}
use Rattle.spec.specs.declared.Refusal.{Refusal}
use Rattle.spec.specs.Choice.{when◌then◌else◌}
use Rattle.spec.specs.Expression.{Expr, size, Item, step, proc, steps_among, Procedure, listed, expression, structure}
use Rattle.spec.specs.declared.Refusal.TheVariants.{ProgramLines}
use Rattle.workspace.specs.Layout.{ends_at, lines_at, proc_lines_at, proc_firsts_at, step_room}
use Rattle.workspace.specs.Region.{Region, ChangedWithin}
use Rattle.workspace.specs.Holds.{ends, all_ends}
use Rattle.workspace.specs.Steps.{step_at, steps_from}
use Rattle.program_tree.specs.Items.{proc_rows, HoldsItems}
use Rattle.program_tree.specs.Outcomes.{Answers}
use Rattle.program_tree.specs.declared.Next.{Next}
use Rattle.program_tree.specs.declared.Next.TheVariants.{Proc, Step, End}
use Rattle.program_tree.specs.declared.Stored.{Stored}

-- ------------------------------------------------------------------ what stands where

-- whether `proc` line j stands at index i
unfoldable pub proc_next : List ℕ → Stored → (i j : ℕ) → Bool
proc_next w s i j = ltb j s.procs && eqb (get_or w (proc_firsts_at + j) 0) i

-- what stands at index i, behind j of the `proc` lines
unfoldable pub next_of : List ℕ → Stored → (i j : ℕ) → Next
next_of w s i j =
    when proc_next w s i j then Proc
    else when ltb i s.steps then Step
    else End

-- the index behind the steps in front of `proc` line j
unfoldable pub limit_at : List ℕ → Stored → (j : ℕ) → ℕ
limit_at w s j = when ltb j s.procs then get_or w (proc_firsts_at + j) 0 else s.steps

unfoldable pub break_line : List ℕ → Stored → (j : ℕ) → ℕ
break_line w s j = when ltb j s.procs then get_or w (proc_lines_at + j) 0 else s.last

abbrev left_by : List ℕ → (e j : ℕ) → Next → Result (Unit {0}) Refusal
left_by w e j Proc = Err (ProgramLines (get_or w (proc_lines_at + j) 0))
left_by w e j Step = Err (ProgramLines (get_or w (lines_at + e) 0))
left_by w e j End = Ok tt

unfoldable pub left_at : List ℕ → Stored → (e j : ℕ) → Result (Unit {0}) Refusal
left_at w s e j = left_by w e j (next_of w s e j)

-- ------------------------------------------------------------------ one expression

-- an expression is due at index i, behind j of the `proc` lines
pub record ExpressionDue (s : Stored) (i j : ℕ) (w : List ℕ) : Type 0 where
  pub before : i ≤ limit_at w s j
  pub within : limit_at w s j ≤ step_room

-- where it ends, or where it breaks off
abbrev pub ExpressionAnswer : (w' : List ℕ) (i line : ℕ) → Result ℕ Refusal → List Expr → Type 0
ExpressionAnswer w' i line r [] = r ≡ Err (ProgramLines line)
ExpressionAnswer w' i line r (e ∷ es) = (r ≡ Ok (i + size e)) × Region w' (ends_at + i) (ends i e)

pub record ExpressionFound (s : Stored) (i j : ℕ) (w w' : List ℕ) (r : Result ℕ Refusal) : Type 0 where
  pub found : ExpressionAnswer w' i (break_line w s j) r (listed i (steps_from w i (limit_at w s j - i)))
  pub changed : ChangedWithin (ends_at + i) (ends_at + step_room) w w'

-- ------------------------------------------------------------------ one procedure

-- lines stand stored from index i and `proc` line j on, up to the last step and the last `proc` line
unfoldable pub StoredFrom : (w : List ℕ) → Stored → (i j : ℕ) → List Item → Type 0
StoredFrom w s i j [] = (i ≡ s.steps) × (j ≡ s.procs)
StoredFrom w s i j (step x ∷ items) = (i < s.steps) × (step_at w i ≡ x) × StoredFrom w s (i + 1) j items
StoredFrom w s i j (proc x k ∷ items) =
    (j < s.procs)
    × (get_or w (proc_firsts_at + j) 0 ≡ i)
    × (get_or w (proc_lines_at + j) 0 ≡ k)
    × StoredFrom w s i (j + 1) items

-- a procedure, or the root, is due at index i, behind j of the `proc` lines
pub record LinesLeft (s : Stored) (i j : ℕ) (w : List ℕ) : Type 0 where
  pub items : List Item
  pub stored : StoredFrom w s i j items

-- the body of the procedure that is due, and the lines behind it
unfoldable pub body_due : (last i : ℕ) → List Item → Result (Expr × List Item) Refusal
body_due last i [] = Err (ProgramLines last)
body_due last i (step s ∷ items) = Err (ProgramLines s.line)
body_due last i (proc x k ∷ items) = expression last i items

-- where it ends, and what stands stored behind it, behind j of the `proc` lines
abbrev pub BodyAnswer : Stored → (i j : ℕ) (w' : List ℕ) → Result ℕ Refusal → Result (Expr × List Item) Refusal → Type 0
BodyAnswer s i j w' =
    Answers (λ (b : Expr × List Item). i + size b.0)
    (λ b. Region w' (ends_at + i) (ends i b.0) × StoredFrom w' s (i + size b.0) j b.1)

pub record BodyFound (s : Stored) (i j : ℕ) (w w' : List ℕ) (r : Result ℕ Refusal) : Type 0 where
  pub found : (items : List Item) → StoredFrom w s i j items → BodyAnswer s i (j + 1) w' r (body_due s.last i items)
  pub changed : ChangedWithin (ends_at + i) (ends_at + step_room) w w'

-- ------------------------------------------------------------------ all of them

-- where the root begins, behind bodies from index i on
unfoldable pub root_first : (i : ℕ) → List Procedure → ℕ
root_first i [] = i
root_first i (p ∷ ps) = root_first (i + size p.body) ps

-- where the root begins, behind the procedures from index i on, and where the steps of them all end
abbrev pub TreeAnswer : (w' : List ℕ) (i : ℕ) → Result ℕ Refusal → Result (List Procedure × Expr) Refusal → Type 0
TreeAnswer w' i =
    Answers (λ (t : List Procedure × Expr). root_first i t.0)
    (λ t. Region w' (ends_at + i) (all_ends i t.0 t.1))

-- what the walk answers, for the lines that the work space holds
pub record Structured (s : Stored) (count : ℕ) (w w' : List ℕ) (r : Result ℕ Refusal) : Type 0 where
  pub found : (items : List Item) → HoldsItems w items → length (steps_among items) ≡ s.steps → length (proc_rows 0 items) ≡ s.procs
      → TreeAnswer w' 0 r (structure s.last count 0 items)
  pub changed : ChangedWithin ends_at (ends_at + step_room) w w'
