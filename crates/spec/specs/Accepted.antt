-- Demand 2: what it is for a pair to be right.
use Rattle.std.specs.Prelude.{◌≡◌, List, [], ◌∷◌, ℕ, ◌≤◌}
use Rattle.spec.specs.Program.{Program}
use Rattle.spec.specs.Split.{Map, Split, type_at, map_at}
use Rattle.spec.specs.Conditions.{start_map}
use Rattle.spec.specs.Figure5.{◌⊒◌, Derives, BodiesDerive}
use Rattle.spec.specs.WellFormed.{WellFormedSheets}
use Rattle.spec.specs.declared.Purpose.{Purpose}
use Rattle.spec.specs.declared.Purpose.TheVariants.{Check}
use Rattle.spec.specs.declared.TypeNumber.{TypeNumber}
use Rattle.spec.specs.declared.MapNumber.{MapNumber}
use Rattle.spec.specs.declared.TypeLine.TheVariants as declared_type

-- a map has at most d of each location
pub data AtMost (d : ℕ) : Map → Type 0 where
  none : AtMost d []
  more : {a : ℕ} {m : Map} → a ≤ d → AtMost d m → AtMost d (a ∷ m)

-- the out of each lock line is nowhere below its in, used or not
abbrev pub LocksTakeEnough : Split → Type 0
LocksTakeEnough S = (t : TypeNumber) (i o : MapNumber) → type_at S t ≡ declared_type.Lock i o → map_at S o ⊒ map_at S i

-- what is judged before the conditions is passed: both sheets are well formed, no lock takes less than it gives, the start holds at most
-- one of each location
pub record Judgeable (purpose : Purpose) (program_text split_text : List ℕ) (P : Program) (S : Split) : Type 0 where
  pub sheets : WellFormedSheets purpose program_text split_text P S
  pub locks : LocksTakeEnough S
  pub at_most_one : AtMost S.header.denominator (start_map S)

-- "both sheets are well formed and the split sheet gives, step by step, a derivation [..], with the start holding at most
-- one of each location"; a derivation for each body and for the root
pub record Right (program_text split_text : List ℕ) : Type 0 where
  pub P : Program
  pub S : Split
  pub judgeable : Judgeable Check program_text split_text P S
  pub bodies : BodiesDerive S 0 P.procedures
  pub derives : Derives S [] (start_map S) P.root
