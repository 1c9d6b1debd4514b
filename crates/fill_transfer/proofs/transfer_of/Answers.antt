-- A write needs the denominator.
use mathlib.Core.Path.{ap, ◌∙◌}
use Rattle.fill_theory.specs.Flow.{needing}
use Rattle.fill_theory.specs.declared.Transfer.TheVariants.{Binary}
use Rattle.fill_theory.specs.declared.BinaryTransfer.TheVariants.{InTurn}
use Rattle.fill_transfer.proofs.Row.{row}
use Rattle.fill_transfer.proofs.transfer_of.Goals as goal

pub returns-in-WRITE : goal.returns-in-WRITE
unfolding row
returns-in-WRITE c =
    let needed = c.needing-in-WRITE.ensures ∙ ap needing c.access_in-access-in-WRITE.ensures in
    rw c.in-WRITE.is (ap (λ E. Binary (InTurn E)) needed)
