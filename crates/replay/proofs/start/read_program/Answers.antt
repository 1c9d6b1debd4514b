-- The front of the space is lent to the reader of program sheets; what is behind it stays.
use native.Mathlib.Omega.{arith}
use Rattle.workspace.specs.Layout.{work_size}
use Rattle.replay.proofs.Fronts.{sheet_in}
use Rattle.replay.proofs.start.read_program.Goals as goal

pub returns : goal.returns
returns c = sheet_in work_size (omega arith) _ c.args.space.now c.read.new.work _ (omega (arith, c.told-space)) c.read.ensures
