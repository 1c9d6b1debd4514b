-- What `rule` promises, and what the bodies and the root come to.
use Rattle.std.specs.Prelude.{◌≡◌, List, ℕ, ◌+◌, ◌≤◌, Result}
use Rattle.spec.specs.declared.Refusal.{Refusal}
use Rattle.spec.specs.Reading.{◌>>=◌}
use Rattle.spec.specs.Program.{Program}
use Rattle.spec.specs.Split.{Split}
use Rattle.spec.specs.StepContexts.{claims_of_procedures, first_false}
use Rattle.spec.specs.Verdict.{locks_take_enough, start_at_most_one, conditions_hold, type_conditions_hold}
use Rattle.spec.specs.declared.Purpose.{Purpose}
use Rattle.spec.specs.declared.Purpose.TheVariants.{Check, Fill}
use Rattle.workspace.specs.Layout.{pres_at}
use Rattle.workspace.specs.Region.{ChangedWithin}
use Rattle.workspace.specs.Sheets.{HoldsSheets}
use Rattle.spec.specs.declared.Header.{Header}
use Rattle.step_walk.specs.Asked.{asked}
use Rattle.step_walk.specs.declared.Judging.{Judging}

-- the conditions by purpose: all of them, 31 to 33, or those on types, 31
unfoldable pub ruled_for : Purpose → Program → Split → Result (Unit {0}) Refusal
ruled_for Check P S = conditions_hold P S
ruled_for Fill P S = type_conditions_hold P S

-- from w to w', with the outcome r of the bodies: the answer is the first false claim of the procedures of whichever sheets with so many
-- procedures, this denominator and so many locations w holds
pub record BodiesRuled (w : List ℕ) (how : Judging) (procedures : ℕ) (r : Result (Unit {0}) Refusal) (w' : List ℕ) : Type 0 where
  pub answers : (steps start : ℕ) (P : Program) (S : Split) → HoldsSheets w steps procedures how.denominator how.locations start P S → steps ≤ 256
      → r ≡ first_false (asked how.purpose (claims_of_procedures S 0 P.procedures))
  pub changed : ChangedWithin pres_at (pres_at + 256) w w'

-- the outcome r of the bodies and the root
pub record ProgramRuled (w : List ℕ) (how : Judging) (steps procedures start : ℕ) (r : Result (Unit {0}) Refusal) (w' : List ℕ) : Type 0 where
  pub answers : (P : Program) (S : Split) → HoldsSheets w steps procedures how.denominator how.locations start P S → r ≡ ruled_for how.purpose P S
  pub changed : ChangedWithin pres_at (pres_at + 256) w w'

-- from w to w', with the outcome r: the answer is that of the documents for whichever sheets with this header w holds, 44 first, then 30
-- and then the conditions; at most the maps before steps are changed
pub record Ruled (w : List ℕ) (purpose : Purpose) (steps procedures : ℕ) (header : Header) (r : Result (Unit {0}) Refusal) (w' : List ℕ) : Type 0 where
  pub answers : (P : Program) (S : Split) → HoldsSheets w steps procedures header.denominator header.locations header.start.0 P S
      → header.types ≡ S.header.types
      → r ≡ (locks_take_enough S >>= λ enough. start_at_most_one P S >>= λ whole. ruled_for purpose P S)
  pub changed : ChangedWithin pres_at (pres_at + 256) w w'
