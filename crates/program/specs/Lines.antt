-- The lines behind line 1, as the work space holds them.
use Rattle.std.specs.Prelude.{◌≡◌, List, ℕ, ◌+◌, Result, Ok, Err}
use Rattle.spec.specs.declared.Refusal.{Refusal}
use Rattle.spec.specs.Reading.{program_sheet, Place, read_lines}
use Rattle.spec.specs.Expression.{Item}
use Rattle.spec.specs.Program.{item_lines}
use Rattle.spec.specs.declared.ProgramHeading.{ProgramHeading}
use Rattle.lexer.specs.Cursors.{Placed, place_at}
use Rattle.lexer.specs.declared.Cursor.{Cursor}
use Rattle.workspace.specs.Layout.{words_at, row_types_at}
use Rattle.workspace.specs.Region.{ChangedWithin}
use Rattle.program_tree.specs.Items.{ItemsStored}
use Rattle.program_tree.specs.declared.Stored.{Stored}

unfoldable pub items_at : List ℕ → ProgramHeading → (n : ℕ) → Cursor → Result (List Item × Place) Refusal
items_at text h n c = read_lines program_sheet (item_lines h (c.line + 1) n) (place_at text c)

-- n lines are read and stored, up to the cursor d
pub record StepsHeld (text : List ℕ) (h : ProgramHeading) (n : ℕ) (c : Cursor) (w : List ℕ) (s : Stored) (d : Cursor) : Type 0 where
  pub stored : ItemsStored s.steps s.procs w
  pub all : s.steps + s.procs ≡ n
  pub last : s.last ≡ d.line
  pub shown : items_at text h n c ≡ Ok (stored.items, place_at text d)
  pub placed : Placed text d

abbrev pub StepsFound : List ℕ → ProgramHeading → (n : ℕ) → Cursor → (w : List ℕ) → Result (Stored × Cursor) Refusal → Type 0
StepsFound text h n c w (Ok r) = StepsHeld text h n c w r.0 r.1
StepsFound text h n c w (Err x) = items_at text h n c ≡ Err x

pub record StepsShown (text : List ℕ) (h : ProgramHeading) (n : ℕ) (c : Cursor) (w w' : List ℕ) (r : Result (Stored × Cursor) Refusal) : Type 0 where
  pub found : StepsFound text h n c w' r
  pub changed : ChangedWithin words_at row_types_at w w'
