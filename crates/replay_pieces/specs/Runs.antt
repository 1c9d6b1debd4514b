-- A run that a buffer keeps.
use Rattle.std.specs.Prelude.{ℕ, ◌≡◌, List, get_or, None, is_some, is_none}
use Rattle.std.specs.Int.{from_bool}
use Rattle.replay_loop.specs.declared.Point.{Point}
use Rattle.replay.specs.Pieces.{telling}
use Rattle.replay_kept.specs.Kept.{told_numbers, told_in, RecordsKept}

pub record Keeps (q : Point) (w : List ℕ) : Type 0 where
  pub goes : get_or w 0 0 ≡ from_bool (is_none q.ending)
  pub told : told_in w ≡ told_numbers (telling q)
  pub raced : get_or w 6 0 ≡ from_bool (is_some q.race)
  pub count : get_or w 10 0 ≡ q.threads.count
  pub records : RecordsKept q.threads.records w

-- a run that goes on, at the start of a piece
unfoldable pub at_start : Point → Point
at_start q = record { ending = None; threads = q.threads; at = 0; steps = q.steps; race = q.race }
