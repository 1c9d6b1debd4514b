-- A replay in pieces, in lent buffers: which are long enough, what is left of them, and what they hold behind each piece.
use Rattle.std.specs.Prelude.{ℕ, ◌≡◌, Bool, true, ◌&&◌, List, leb, length, take, drop}
use Rattle.replay_theory.specs.Replay.{replay, returned_for}
use Rattle.replay_loop.specs.declared.Point.{Point}
use Rattle.replay.specs.Pieces.{job_size, RunOf}
use Rattle.replay_kept.specs.Kept.{kept_size}
use Rattle.replay_pieces.specs.Runs.{Keeps}

-- the buffers of the job and of the run are long enough
unfoldable pub roomy : (job run : List ℕ) → Bool
roomy job run = leb job_size (length job) && leb kept_size (length run)

-- of a lent buffer the first n numbers are used, and what is behind them is as it was
pub record FrontUsed (n : ℕ) (w w' : List ℕ) : Type 0 where
  pub long : length w' ≡ length w
  pub behind : drop n w' ≡ drop n w

-- the number of the answer: 0, or that of a refusal
abbrev pub answer_number : (room : ℕ) (program trace : List ℕ) → ℕ
answer_number room program trace = (returned_for (replay room program trace).ending).number

-- A job, a space and a run, of just the size, are what a replay of that program has come to behind that trace. A reader need not look into it:
-- `begin` makes it, `more` keeps it, and `told` says what it is good for.
pub record RunIn (program trace job space run : List ℕ) : Type 0 where
  pub point : Point
  pub is : RunOf program trace job space point
  pub kept : Keeps point run

-- the same of buffers that may be longer
pub record KeptRun (program trace job space run : List ℕ) : Type 0 where
  pub room : roomy job run ≡ true
  pub held : RunIn program trace (take job_size job) space (take kept_size run)
