-- What each stage of filling promises the one before it.
use Rattle.std.specs.Prelude.{◌≡◌, List, ℕ, ◌+◌, ◌≤◌, min, leb, length, Result, Ok}
use Rattle.spec.specs.declared.Refusal.{Refusal}
use Rattle.spec.specs.Reading.{◌>>=◌, require}
use Rattle.spec.specs.Program.{Program}
use Rattle.spec.specs.Split.{Split, split_limit}
use Rattle.spec.specs.Verdict.{locks_take_enough, start_at_most_one, type_conditions_hold}
use Rattle.spec.specs.declared.Refusal.TheVariants.{TooLarge, TooManyMaps}
use Rattle.spec.specs.declared.Header.{Header}
use Rattle.workspace.specs.Sheets.{Small}
use Rattle.sheets.specs.Answers.{HoldsBoth}
use Rattle.text_theory.specs.Sheet.{sheet_text}
use Rattle.split_writer.specs.Contract.{HoldsSheet}
use Rattle.fill_theory.specs.Answer.{given_limit, filled_text, returned_for, buffer_after}
use Rattle.fill.specs.Numbers.{returned_by}

-- the four numbers, and the buffer before and after, are those of an outcome
pub record OutcomePost (outcome : Result (List ℕ) Refusal) (before after : List ℕ) (f : Result ℕ Refusal) : Type 0 where
  pub numbers : returned_by f ≡ returned_for outcome
  pub buffer : after ≡ buffer_after outcome before

-- "M grows by n"
unfoldable pub grown_by : (steps : ℕ) → Header → Header
grown_by steps header = record {
  heading = header.heading;
  denominator = header.denominator;
  locations = header.locations;
  types = header.types;
  maps = header.maps + steps;
  start = header.start;
}

-- 42 by length, else the text
unfoldable pub fitted : (buffer : ℕ) → List ℕ → Result (List ℕ) Refusal
fitted buffer text = require (leb (length text) (min split_limit buffer)) TooLarge >>= λ short. Ok text

-- the sheet of whichever split the work space holds
abbrev pub SheetPost : (w : List ℕ) (header : Header) (steps procedures : ℕ) (before after : List ℕ) → Result ℕ Refusal → Type 0
SheetPost w header steps procedures before after f =
    (S : Split) → HoldsSheet w header procedures steps S → OutcomePost (fitted (length before) (sheet_text S)) before after f

-- the work space holds both sheets, of so many steps and procedures and with this header
pub record SheetsGiven (w : List ℕ) (header : Header) (steps procedures : ℕ) : Type 0 where
  pub few : steps ≤ 256
  pub few_procedures : procedures ≤ 16
  pub small : Small header
  pub P : Program
  pub S : Split
  pub holds : HoldsBoth w header steps procedures P S

-- and the split gives at most 256 maps
pub record MapsGiven (w : List ℕ) (header : Header) (steps procedures : ℕ) : Type 0 where
  pub sheets : SheetsGiven w header steps procedures
  pub few_maps : header.maps ≤ 256

-- 41 and 42, for whichever sheets the work space holds
abbrev pub TextPost : (w : List ℕ) (header : Header) (steps procedures : ℕ) (before after : List ℕ) → Result ℕ Refusal → Type 0
TextPost w header steps procedures before after f =
    (P : Program) (S : Split) → HoldsBoth w header steps procedures P S → OutcomePost (filled_text (length before) P S) before after f

-- 43, 44, 30, 31, 41 and 42
unfoldable pub after_reading : (buffer : ℕ) → Program → Split → Result (List ℕ) Refusal
after_reading buffer P S = do
  few ← require (leb S.header.maps given_limit) TooManyMaps
  locks ← locks_take_enough S
  whole ← start_at_most_one P S
  types_hold ← type_conditions_hold P S
  filled_text buffer P S

abbrev pub SheetsPost : (w : List ℕ) (header : Header) (steps procedures : ℕ) (before after : List ℕ) → Result ℕ Refusal → Type 0
SheetsPost w header steps procedures before after f =
    (P : Program) (S : Split) → HoldsBoth w header steps procedures P S → OutcomePost (after_reading (length before) P S) before after f
