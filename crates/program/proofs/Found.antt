-- What an answer of the reader says of the sheet and of the work space.
use Rattle.std.proofs.Common.{Result, Ok, Err}
use mathlib.Core.Path.{◌≡◌, ap}
use mathlib.Core.List.{List}
use Prim.Native.Nat.{ℕ, ◌≤◌}
use lib.ListN.{length}
use Rattle.spec.specs.Program.{Program, program_limit, program}
use Rattle.spec.specs.WellFormed.{WellFormedProgram}
use Rattle.spec.proofs.WellFormed.{program_well_formed}
use Rattle.spec.specs.declared.Refusal.{Refusal}
use Rattle.workspace.specs.Holds.{HoldsProgram}
use Rattle.program_tree.proofs.Outcomes.{found, refused}
use Rattle.program.specs.Sheet.{Answered}
use Rattle.program.specs.declared.Counts.{Counts}

pub program_refused_by : {x : Refusal} (w : List ℕ) (o : Result Program Refusal) → Answered w (Err x) o → o ≡ Err x
program_refused_by w o a = refused _ _ o a

-- the program of a sheet that was read, with so many steps and so many procedures
pub record ProgramFound (w : List ℕ) (c : Counts) (o : Result Program Refusal) : Type 0 where
  pub P : Program
  pub reads : o ≡ Ok P
  pub steps_counted : c.steps ≡ length P.steps
  pub procedures_counted : c.procedures ≡ length P.procedures
  pub holds : HoldsProgram w P
  pub few : length P.steps ≤ 256
  pub few_procedures : length P.procedures ≤ 16

pub program_read_by : {c : Counts} (w : List ℕ) (o : Result Program Refusal) → Answered w (Ok c) o → ProgramFound w c o
program_read_by w o a =
    let f = found _ _ o a in
    record {
      P = f.value;
      reads = f.is;
      steps_counted = ap (λ (c : Counts). c.steps) f.same;
      procedures_counted = ap (λ (c : Counts). c.procedures) f.same;
      holds = f.holds.0;
      few = f.holds.1;
      few_procedures = f.holds.2;
    }

pub good_program : {P : Program} (p : List ℕ) → length p ≤ 16384 → program p ≡ Ok P → WellFormedProgram p P
unfolding program_limit
good_program p fits e = program_well_formed p fits e
