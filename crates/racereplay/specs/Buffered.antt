-- What is known of a trace whose bytes have come so far: the run is the one behind its lines, and the rest is held.
use Rattle.std.specs.Prelude.{ℕ, ◌≡◌, true, List, ◌++◌, take}
use Rattle.replay.specs.Pieces.{ends_line, RunOf}
use Rattle.racereplay.specs.declared.buffered.Taken.{Taken}

-- Behind the lines `trace` a buffer came: the run is behind its lines too, and no byte of the rest is lost.
pub record TakenIn (program trace job space came left : List ℕ) (r : Taken) : Type 0 where
  pub lines : List ℕ
  pub run : RunOf program (trace ++ lines) job space r.run
  pub ends : ends_line (trace ++ lines) ≡ true
  pub all : lines ++ take r.held left ≡ came
