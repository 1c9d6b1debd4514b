-- The loop's invariant: for whichever sheets were held at first, the claims of the procedures that are left have the first
-- false one of all; so far only maps before steps are changed, so the sheets are held still.
use Rattle.std.proofs.Common.{◌≡◌, ℕ, ◌+◌, ◌≤◌, List, length, drop}
use Rattle.spec.specs.Program.{Program}
use Rattle.spec.specs.Split.{Split}
use Rattle.spec.specs.StepContexts.{claims_of_procedures}
use Rattle.workspace.specs.Layout.{pres_at, work_size}
use Rattle.workspace.specs.Region.{ChangedWithin}
use Rattle.workspace.specs.Sheets.{HoldsSheets}
use Rattle.step_walk.proofs.Claims.{first_asked}
use Rattle.step_walk.specs.declared.Judging.{Judging}
use Rattle.walk.proofs.bodies.check_bodies.Given as goal

-- f procedures are judged, from w₀ to w
pub record Walking (how : Judging) (procedures : ℕ) (w₀ w : List ℕ) (f : ℕ) : Type 0 where
  pub long : length w ≡ work_size
  pub changed : ChangedWithin pres_at (pres_at + 256) w₀ w
  pub rest : (steps start : ℕ) (P : Program) (S : Split) → HoldsSheets w₀ steps procedures how.denominator how.locations start P S → steps ≤ 256
      → first_asked how.purpose (claims_of_procedures S 0 P.procedures) ≡ first_asked how.purpose (claims_of_procedures S f (drop f P.procedures))

abbrev pub invariant-loop-f : goal.invariant-loop-f
invariant-loop-f l = Walking l.how l.procedures l.initial.work l.work l.f
