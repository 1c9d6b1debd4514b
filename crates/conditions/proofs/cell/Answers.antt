use mathlib.Core.Path.{ap}
use Prim.Native.Nat.{ℕ}
use native.Mathlib.Omega.{arith}
use lib.ListN.{get_or}
use Rattle.workspace.specs.Layout.{map_cell}
use Rattle.conditions.proofs.cell.Goals as goal

pub returns : goal.returns
unfolding map_cell
returns c = ap (λ (i : ℕ). get_or c.args.work.now i 0) (omega arith)
