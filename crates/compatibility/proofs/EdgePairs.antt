-- The definitions give each edge row of ours its answer. A table is one equation that computes; `found` unfolds every definition
-- on the way from a text to an answer, and each table its rows.
use mathlib.Core.Path.{refl}
use mathlib.Core.List.{◌++◌}
use Rattle.spec.specs.Pairs.KnownPairs.{◌with◌is◌, found, Answered, P, S, Z}
use Rattle.spec.specs.Pairs.EdgeSheets.{sheet_edges}
use Rattle.spec.specs.Pairs.EdgeConditions.{condition_edges}
use Rattle.spec.specs.Pairs.EdgeAgreement.{agreement_edges}
use Rattle.spec.specs.Pairs.EdgeNumbers.{number_edges}
use Rattle.spec.specs.Pairs.EdgeStart.{start_edges}
use Rattle.spec.specs.Pairs.EdgeSemaphores.{semaphore_edges}
use Rattle.spec.specs.Pairs.EdgeRwlocks.{rwlock_edges}
use Rattle.spec.specs.Pairs.EdgeProcedures.{under, calling, found_to_fill, heading_fills, call_fills, Filled, procedure_edges}
use Rattle.spec.specs.Pairs.EdgeFreelock.{freelock_edges}
use Rattle.spec.specs.Pairs.EdgeLocks.{lock_edges}
use Rattle.spec.specs.Pairs.EdgeSpawns.{spawn_edges}

pub edge_pairs : Answered (sheet_edges ++ condition_edges ++ agreement_edges ++ number_edges ++ start_edges ++ semaphore_edges ++ spawn_edges ++ lock_edges ++ freelock_edges ++ rwlock_edges ++ procedure_edges)
unfolding Answered found ◌with◌is◌ P S Z sheet_edges condition_edges agreement_edges number_edges start_edges semaphore_edges spawn_edges lock_edges freelock_edges rwlock_edges procedure_edges
edge_pairs = refl

-- with a sheet that is to be filled
pub fill_pairs : Filled (heading_fills ++ call_fills)
unfolding found_to_fill ◌with◌is◌ under calling heading_fills call_fills Filled
fill_pairs = refl
