-- The definitions give each starred pair of document 01 its answer, and some edge rows of ours. A table is one equation that
-- computes; `found` unfolds every definition on the way from a text to an answer.
use mathlib.Core.Path.{refl}
use Rattle.spec.specs.Verdict.{returned}
use Rattle.spec.specs.Pairs.KnownPairs.{◌with◌is◌, found, Answered, P, S, Z, starred}
use Rattle.spec.specs.Pairs.Reasons.{reasons, Returns}
use Rattle.spec.specs.Pairs.EdgeSheets.{count_rows}
use Rattle.spec.specs.Pairs.EdgeConditions.{rows, int_rows}
use Rattle.spec.specs.Pairs.EdgeRwlocks.{rwlock_words}
use Rattle.spec.specs.Pairs.EdgeProcedures.{most_procedures, procedure_lines, procedure_order, procedure_scopes, under, signed, calling, kept_rows, unlike_rows, root_rows, parameter_rows, found_to_fill, heading_fills, Filled}
use Rattle.spec.specs.Pairs.EdgeFreelock.{freelock_lines, freelock_among_lines, freelock_edges}
use Rattle.spec.specs.Pairs.EdgeLocks.{takes_less_rows}
use Rattle.spec.specs.Pairs.EdgeSpawns.{spawning, plainly, naming, reading, spawn_edges}

pub starred_pairs : Answered starred
unfolding Answered found ◌with◌is◌ P S Z starred
starred_pairs = refl

-- edge rows beside which nothing here tells a wrong definition of must-fail from the right one; crates/compatibility has all edge rows
pub record TellingRows : Type 0 where
  pub counts : Answered count_rows
  pub locations : Answered int_rows
  pub spawns : Answered spawn_edges
  pub freelocks : Answered freelock_edges
  pub places : Answered rwlock_words
  pub takes_less : Answered takes_less_rows
  pub most : Answered most_procedures
  pub procedures : Answered procedure_lines
  pub order : Answered procedure_order
  pub scopes : Answered procedure_scopes
  pub kept : Answered kept_rows
  pub unlike : Answered unlike_rows
  pub root : Answered root_rows
  pub parameter : Answered parameter_rows
  pub fills : Filled heading_fills
  pub numbers : Returns reasons

pub telling_rows : TellingRows
unfolding ◌with◌is◌ found Answered P S Z count_rows rows int_rows spawning plainly naming reading spawn_edges takes_less_rows freelock_lines freelock_among_lines freelock_edges rwlock_words most_procedures procedure_lines procedure_order procedure_scopes under signed calling kept_rows unlike_rows root_rows parameter_rows found_to_fill heading_fills Filled returned reasons Returns
telling_rows =
    record {
      counts = refl;
      locations = refl;
      spawns = refl;
      freelocks = refl;
      places = refl;
      takes_less = refl;
      most = refl;
      procedures = refl;
      order = refl;
      scopes = refl;
      kept = refl;
      unlike = refl;
      root = refl;
      parameter = refl;
      fills = refl;
      numbers = refl;
    }
