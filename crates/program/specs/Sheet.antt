-- What reading a program sheet answers, and what it leaves in the work space.
use Rattle.std.specs.Prelude.{◌≡◌, List, [], ℕ, ◌+◌, ◌≤◌, length, Result, Ok}
use Rattle.spec.specs.declared.Refusal.{Refusal}
use Rattle.spec.specs.Reading.{program_sheet, ◌>>=◌, Place, read_lines, end}
use Rattle.spec.specs.Expression.{steps_among, structure, scopes}
use Rattle.spec.specs.Program.{Counts as Heading, Program, item_lines, program}
use Rattle.lexer.specs.Cursors.{Placed, place_at}
use Rattle.workspace.specs.Holds.{HoldsProgram}
use Rattle.program_tree.specs.Outcomes.{Answers}
use Rattle.program_lines.specs.declared.counts.CountLine.{CountLine}
use Rattle.program.specs.declared.Counts.{Counts}

-- how many steps and procedures a program has
abbrev pub counts_of : Program → Counts
counts_of P = record { steps = length P.steps; procedures = length P.procedures }

-- the refusal of a sheet; else the numbers of the steps and of the procedures, and the work space holds the program. That the steps
-- are at most 256 and the procedures at most 16 follows from the definition; it is said here for whoever goes on with the program.
abbrev pub Answered : (w : List ℕ) → Result Counts Refusal → Result Program Refusal → Type 0
Answered w = Answers counts_of (λ P. HoldsProgram w P × (length P.steps ≤ 256) × (length P.procedures ≤ 16))

-- what stands behind line 1
unfoldable pub behind_count : Heading → Place → Result Program Refusal
behind_count counts first = do
  (items, last) ← read_lines program_sheet (item_lines counts.heading (first.last + 1) (counts.steps + counts.procedures)) first
  done ← end program_sheet last
  (ps, e) ← structure last.last counts.procedures 0 items
  bound ← scopes counts.procedures ps e []
  Ok (record { steps = steps_among items; procedures = ps; root = e })

-- line 1 is read, and the lines that it counts are due
pub record LineOne (text : List ℕ) (one : CountLine) : Type 0 where
  pub few_steps : one.steps ≤ 256
  pub few_procedures : one.procedures ≤ 16
  pub placed : Placed text one.next

-- what line 1 counts
abbrev pub counted : CountLine → Heading
counted one = record { heading = one.heading; steps = one.steps; procedures = one.procedures }

abbrev pub LinesRead : List ℕ → CountLine → (w : List ℕ) → Result Counts Refusal → Type 0
LinesRead text one w r = Answered w r (behind_count (counted one) (place_at text one.next))

-- a text of a program sheet, a work space before and after, and the answer
pub record ProgramIs (text w w' : List ℕ) (r : Result Counts Refusal) : Type 0 where
  pub answer : Answered w' r (program text)
  pub long : length w' ≡ length w
