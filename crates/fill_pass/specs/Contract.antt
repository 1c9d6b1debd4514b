-- What `fill_location` asks and promises of the sheets that the work space holds.
use Rattle.std.specs.Prelude.{Bool, List, ℕ, ◌<◌}
use Rattle.spec.specs.Program.{Program}
use Rattle.spec.specs.Split.{Split}
use Rattle.workspace.specs.Sheets.{HoldsSheets}
use Rattle.fill_theory.specs.GreatestMaps.{posts_at}
use Rattle.fill_transfer.specs.declared.Column.{Column}
use Rattle.fill_pass.specs.declared.Given.{Given}
use Rattle.fill_pass.specs.Roots.{Stored}

-- the work space holds a program and a split that have the location, this denominator, so many procedures and this start
pub record HoldsColumn (w : List ℕ) (column : Column) (given : Given) (P : Program) (S : Split) : Type 0 where
  pub steps : ℕ
  pub locations : ℕ
  pub sheets : HoldsSheets w steps given.procedures column.denominator locations given.start.0 P S
  pub within : column.location.0 < locations

-- some sheets are held
pub record ColumnReady (w : List ℕ) (column : Column) (given : Given) : Type 0 where
  pub P : Program
  pub S : Split
  pub held : HoldsColumn w column given P S

-- whichever sheets are held, the posts at the location
pub record FilledHere (w : List ℕ) (column : Column) (given : Given) (q : List ℕ) (r : Bool) : Type 0 where
  pub answers : (P : Program) (S : Split) → HoldsColumn w column given P S → Stored (posts_at P S column.location.0) 0 q r
