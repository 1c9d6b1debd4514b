-- What is asked of the numbers when a replay starts.
use Rattle.std.specs.Prelude.{ℕ, None, Some, Result, ◌<◌, ◌≤◌, ◌≡◌, List, length, get_or}
use Rattle.spec.specs.Program.{Program, program}
use Rattle.program.specs.Sheet.{Answered}
use Rattle.program.specs.declared.Counts.{Counts}
use Rattle.replay_control.specs.Layout.{continuations_at}
use Rattle.spec.specs.declared.Refusal.{Refusal}
use Rattle.threads.specs.Threads.{started}
use Rattle.replay_theory.specs.declared.Ending.TheVariants.{Refused}
use Rattle.replay_loop.specs.declared.Point.{Point}
use Rattle.replay_simulation.proofs.Bodies.{all_size, AllStanding, AllRanged, FirstsAt, VariablesAt, ProgramStands}

-- a program sheet has been read in the front of a space: what its reader leaves there, and what it answers
pub record SheetIn (text s' : List ℕ) (r : Result Counts Refusal) : Type 0 where
  pub work : List ℕ
  pub answer : Answered work r (program text)
  pub front : (i : ℕ) → i < continuations_at → get_or s' i 0 ≡ get_or work i 0

-- the columns of a program, copied from the space
abbrev pub Copied : (s p : List ℕ) → Type 0
Copied s p = (i : ℕ) → i < continuations_at → get_or p i 0 ≡ get_or s i 0

-- a linked program
pub record Runs (p : List ℕ) : Type 0 where
  pub listed : Program
  pub stands : ProgramStands p listed.procedures listed.root

-- the space holds that program, with its counts
pub record HeldAs (P : Program) (s : List ℕ) (c : Counts) : Type 0 where
  pub standing : AllStanding s 0 P.procedures P.root
  pub firsts : FirstsAt s 0 0 P.procedures
  pub variables : VariablesAt s 0 P.procedures
  pub ranged : AllRanged (length P.procedures) P.procedures P.root
  pub counted : all_size P.procedures P.root ≡ c.steps
  pub listed : length P.procedures ≡ c.procedures

pub record Held (s : List ℕ) (c : Counts) : Type 0 where
  pub listed : Program
  pub held : HeldAs listed s c
  pub few : c.steps ≤ 256
  pub procs : c.procedures ≤ 16

-- a run that the refusal of its sheet has stopped
unfoldable pub refused_point : Refusal → Point
refused_point r = record { ending = Some (Refused r); threads = started 1; at = 0; steps = 0; race = None }
