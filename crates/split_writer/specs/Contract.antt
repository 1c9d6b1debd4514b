-- What `write_sheet` promises.
use Rattle.std.specs.Prelude.{◌≡◌, List, ℕ, ◌≤◌, length}
use Rattle.spec.specs.Program.{Program}
use Rattle.spec.specs.Split.{Split}
use Rattle.spec.specs.Ranges.{InRange}
use Rattle.workspace.specs.Holds.{HoldsSplit}
use Rattle.spec.specs.declared.Header.{Header}
use Rattle.writer.specs.Buffer.{WrittenAt}
use Rattle.text_theory.specs.Sheet.{sheet_text}

-- the work space w holds the split S, its numbers in range, with this header, a line for each of so many procedures and a row for each
-- of so many steps
pub record HoldsSheet (w : List ℕ) (header : Header) (procedures steps : ℕ) (S : Split) : Type 0 where
  pub program : Program
  pub in_range : InRange program S
  pub split : HoldsSplit w S
  pub headed : S.header ≡ header
  pub procedures_counted : length program.procedures ≡ procedures
  pub counted : length program.steps ≡ steps
  pub few : procedures ≤ 16

-- it holds some split
pub record HoldsSome (w : List ℕ) (header : Header) (procedures steps : ℕ) : Type 0 where
  pub S : Split
  pub holds : HoldsSheet w header procedures steps S

-- the sheet of whichever split the work space holds is written at the front of the buffer, and the answer is its length
unfoldable pub SheetWritten : (w : List ℕ) (header : Header) (procedures steps : ℕ) (before after : List ℕ) (answer : ℕ) → Type 0
SheetWritten w header procedures steps before after answer = (S : Split) → HoldsSheet w header procedures steps S → WrittenAt before after 0 (sheet_text S) answer
