-- A replay of a trace that comes in pieces: what it has come to behind each of them.
use Rattle.std.specs.Prelude.{ℕ, Option, None, Some, Bool, true, List, [], ◌∷◌, ◌++◌, eqb, length, take}
use Rattle.spec.specs.Text.{lines}
use Rattle.replay_theory.specs.Replay.{replay_space, judged}
use Rattle.replay_theory.specs.declared.Ending.{Ending}
use Rattle.replay_theory.specs.declared.Ending.TheVariants.{Done}
use Rattle.replay_theory.specs.declared.Replayed.{Replayed}
use Rattle.replay_machine.specs.Replay.{ended, replayed}
use Rattle.replay_loop.specs.declared.Point.{Point}
use Rattle.replay_loop.specs.Play.{LoopPost}

-- the text is empty, or ends with a line: its last byte is 10
unfoldable pub ends_line : List ℕ → Bool
ends_line [] = true
ends_line (b ∷ []) = eqb b 10
ends_line (b ∷ c ∷ t) = ends_line (c ∷ t)

-- so many numbers keep the job of a replay
abbrev pub job_size : ℕ
job_size = 2449

-- what a run tells: as far as it has come every line is done, unless one has stopped it
unfoldable pub telling_by : Option Ending → Point → Replayed
telling_by (Some e) q = ended e q.steps q.race
telling_by None q = ended Done q.steps q.race

unfoldable pub telling : Point → Replayed
telling q = telling_by q.ending q

-- The job, the space and the run are what a replay of that program has come to behind that trace: whatever lines come then, it goes on with
-- them as the replay of the program does with all of them. A reader need not look into it: `begin` makes it, `more` keeps it, and `told` says
-- what it is good for.
pub record RunOf (program trace job space : List ℕ) (run : Point) : Type 0 where
  pub comes : LoopPost run.ending (λ ls. replayed (judged (length space) program) (lines trace ++ ls)) job (take replay_space space) run
