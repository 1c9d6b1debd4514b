-- What it is for the work space to hold both sheets, once they are read.
use Rattle.std.specs.Prelude.{◌≡◌, List, ℕ, ◌≤◌, length}
use Rattle.spec.specs.Program.{Program}
use Rattle.spec.specs.Split.{Split}
use Rattle.spec.specs.declared.Header.{Header}
use Rattle.spec.specs.WellFormed.{WellFormedProgram}
use Rattle.spec.specs.Ranges.{InRange}
use Rattle.workspace.specs.Holds.{HoldsProgram, HoldsSplit}

-- the numbers of a header that the work space has room for
pub record Small (h : Header) : Type 0 where
  pub locations : h.locations ≤ 16
  pub types : h.types ≤ 64
  pub maps : h.maps ≤ 512

-- the work space w holds the program P of a well-formed sheet and a split S for it whose numbers are in range, with so many
-- steps and procedures, this denominator, so many locations and the start with this number
pub record HoldsSheets (w : List ℕ) (steps procedures denominator locations start : ℕ) (P : Program) (S : Split) : Type 0 where
  pub program_text : List ℕ
  pub well_formed : WellFormedProgram program_text P
  pub in_range : InRange P S
  pub program : HoldsProgram w P
  pub split : HoldsSplit w S
  pub steps_counted : steps ≡ length P.steps
  pub procedures_counted : procedures ≡ length P.procedures
  pub denominator_given : denominator ≡ S.header.denominator
  pub locations_given : locations ≡ S.header.locations
  pub start_given : start ≡ S.header.start.0
