-- What the answer to both sheets means: a refusal is that of the definition; else the work space holds what they say.
use Rattle.std.specs.Prelude.{◌≡◌, List, ℕ, ◌≤◌, length, Result, Ok, Err}
use Rattle.spec.specs.Program.{Program}
use Rattle.spec.specs.Split.{Split}
use Rattle.spec.specs.WellFormed.{WellFormedProgram}
use Rattle.spec.specs.Verdict.{sheets}
use Rattle.spec.specs.declared.Purpose.{Purpose}
use Rattle.workspace.specs.Layout.{work_size}
use Rattle.workspace.specs.Holds.{HoldsProgram}
use Rattle.workspace.specs.Sheets.{HoldsSheets}
use Rattle.spec.specs.declared.Header.{Header}
use Rattle.workspace.specs.Sheets.{Small}
use Rattle.spec.specs.declared.Refusal.{Refusal}
use Rattle.sheets.specs.declared.Held.{Held}

-- the work space holds both sheets, and the split has this header
pub record HoldsBoth (w : List ℕ) (header : Header) (steps procedures : ℕ) (P : Program) (S : Split) : Type 0 where
  pub sheets : HoldsSheets w steps procedures header.denominator header.locations header.start.0 P S
  pub headed : S.header ≡ header

-- both sheets are read, and the work space w holds them
pub record SheetsHeld (purpose : Purpose) (program_text split_text w : List ℕ) (steps procedures : ℕ) (header : Header) : Type 0 where
  pub P : Program
  pub S : Split
  pub read : sheets purpose program_text split_text ≡ Ok (P, S)
  pub holds : HoldsBoth w header steps procedures P S
  pub few : steps ≤ 256
  pub few_procedures : procedures ≤ 16
  pub small : Small header

abbrev pub SheetsAnswered : Purpose → (program_text split_text w : List ℕ) → Result Held Refusal → Type 0
SheetsAnswered purpose program_text split_text w (Ok held) = SheetsHeld purpose program_text split_text w held.steps held.procedures held.header
SheetsAnswered purpose program_text split_text w (Err r) = sheets purpose program_text split_text ≡ Err r

-- ------------------------------------------------------------------ the split, for a program that is held

-- the work space has its size and holds a program of so many steps and procedures
pub record ProgramHeld (w : List ℕ) (steps procedures : ℕ) : Type 0 where
  pub long : length w ≡ work_size
  pub few : steps ≤ 256
  pub few_procedures : procedures ≤ 16
  pub P : Program
  pub holds : HoldsProgram w P
  pub steps_counted : steps ≡ length P.steps
  pub procedures_counted : procedures ≡ length P.procedures

-- for whichever program of so many steps and procedures the work space w holds
abbrev pub SplitAnswered : Purpose → (split_text : List ℕ) (steps procedures : ℕ) (w w' : List ℕ) → Result Held Refusal → Type 0
SplitAnswered purpose split_text steps procedures w w' answer =
    (program_text : List ℕ) (P : Program) → WellFormedProgram program_text P → HoldsProgram w P → steps ≡ length P.steps → procedures ≡ length P.procedures
    → SheetsAnswered purpose program_text split_text w' answer
