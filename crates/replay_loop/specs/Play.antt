-- The lines of a trace in turn, on numbers.
use Rattle.std.specs.Prelude.{ℕ, Option, None, Some, Result, Ok, Err, ◌+◌, ◌-◌, ◌<◌, ◌≤◌, ◌≡◌, List, ◌++◌, length, drop}
use Rattle.spec.specs.Text.{Line, lines}
use Rattle.threads.specs.declared.Threads.{Threads}
use Rattle.trace.specs.declared.Move.{Move}
use Rattle.replay_step.specs.declared.words.Halt.{Halt}
use Rattle.replay_step.specs.declared.words.Halt.TheVariants.{Stuck, Past}
use Rattle.replay_engine.specs.declared.Halted.{Halted}
use Rattle.replay_engine.specs.Steps.{stepped}
use Rattle.replay_engine.specs.Races.{lowest_pair}
use Rattle.replay_theory.specs.declared.Ending.{Ending}
use Rattle.replay_theory.specs.declared.Ending.TheVariants.{TraceForm, NoStep, PastLimit}
use Rattle.replay_theory.specs.declared.Race.{Race}
use Rattle.replay_theory.specs.declared.Replayed.{Replayed}
use Rattle.replay_machine.specs.Replay.{Replay, or_race, ended, play_from}
use Rattle.replay_simulation.proofs.Holds.{Holds}
use Rattle.replay_simulation.proofs.Posting.{CountsWithin}
use Rattle.replay_loop.specs.declared.Point.{Point}

unfoldable pub race_after : (p s : List ℕ) (count : ℕ) → Option Race → (state : ℕ) → Option Race
race_after p s n race k = or_race race k (lowest_pair p s n)

unfoldable pub stopped_by : Point → Ending → Point
stopped_by q e = record { ending = Some e; threads = q.threads; at = q.at; steps = q.steps; race = q.race }

-- a step is done: what the space and the records are after it
abbrev pub point_after : (p s : List ℕ) → Threads → (at : ℕ) → Point → Point
point_after p s T at q = record { ending = None; threads = T; at = at; steps = q.steps + 1; race = race_after p s T.count q.race (q.steps + 1) }

-- what a step that is not taken makes of the run, at that line
unfoldable pub ending_of : Halt → (line : ℕ) → Ending
ending_of Stuck line = NoStep line
ending_of Past line = PastLimit line

unfoldable pub by_outcome : Result Threads Halted → (p s : List ℕ) → Point → (next : ℕ) → Point
by_outcome (Ok T) p s q next = point_after p s T next q
by_outcome (Err h) p s q next = stopped_by q (ending_of h.why (q.steps + 1))

unfoldable pub after_step : (p : List ℕ) → Point → (next : ℕ) → Result Threads Halted × List ℕ → Point × List ℕ
after_step p q next (r, s) = (by_outcome r p s q next, s)

unfoldable pub line_done : (p s : List ℕ) → Point → Option Move → Point × List ℕ
line_done p s q (Some m) = after_step p q m.next (stepped p s q.threads m.thread m.choice)
line_done p s q None = (stopped_by q (TraceForm (q.steps + 1)), s)

-- ------------------------------------------------------------------ what the numbers stand for

-- the point stands in the piece, and its counts have room for every byte that is left
pub record Steady (piece : List ℕ) (q : Point) : Type 0 where
  pub in_piece : q.at ≤ length piece
  pub room : q.steps + (length piece - q.at) < 18446744073709551616
  pub few : q.threads.count ≤ 16

-- the numbers hold a run of the machine; what is left of the piece, and whatever lines come behind it, come to what `whole` says of those lines
pub record LoopPre (whole : List Line → Replayed) (p s piece : List ℕ) (q : Point) : Type 0 where
  pub going : q.ending ≡ None
  pub run : Replay
  pub held : Holds p s q.threads run
  pub counts : CountsWithin q.steps run.machine.names
  pub comes_to : (ls : List Line) → play_from q.steps q.race run (lines (drop q.at piece) ++ ls) ≡ whole ls

-- the same of a point with no piece at hand: the run has stopped, whatever lines come, or they go on with it
pub record GoesTo (whole : List Line → Replayed) (p s : List ℕ) (q : Point) : Type 0 where
  pub run : Replay
  pub held : Holds p s q.threads run
  pub counts : CountsWithin q.steps run.machine.names
  pub comes_to : (ls : List Line) → play_from q.steps q.race run ls ≡ whole ls

abbrev pub LoopPost : Option Ending → (whole : List Line → Replayed) (p s : List ℕ) → Point → Type 0
LoopPost (Some e) whole p s q = (ls : List Line) → ended e q.steps q.race ≡ whole ls
LoopPost None whole p s q = GoesTo whole p s q
