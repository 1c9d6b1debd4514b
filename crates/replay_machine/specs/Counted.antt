-- What every replay of a well-formed program keeps: its names are as many as its things, and no limit is passed. So 16 places for threads
-- and 321 for names are enough.
use Rattle.std.specs.Prelude.{◌≡◌, true}
use Rattle.replay_theory.specs.Run.{next_name}
use Rattle.replay_machine.specs.Kept.{Kept}
use Rattle.replay_machine.specs.Replay.{Replay, within}

pub record Counted (R : Replay) : Type 0 where
  pub kept : Kept R.machine
  pub named : R.machine.next ≡ next_name R.things
  pub limited : within R ≡ true
