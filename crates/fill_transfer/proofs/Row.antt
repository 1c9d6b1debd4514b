-- A row of the table at a step, with all that it is computed through.
use mathlib.Core.List.{List}
use Prim.Native.Nat.{ℕ}
use Rattle.spec.specs.Words.{calls}
use Rattle.spec.specs.declared.Word.{Word}
use Rattle.fill_theory.specs.Flow.{unchanged, taking, giving, needing, lending}
use Rattle.fill_theory.specs.FlowOf.{loops, moving, effect_of, part_transfer, binary_transfer}
use Rattle.fill_theory.specs.declared.Transfer.{Transfer}
use Rattle.fill_transfer.specs.declared.Column.{Column}
use Rattle.fill_transfer.specs.Transfers.{lending_in, has_in, given_in, transfer_of}

unfoldable pub row : Word → List ℕ → Column → (k : ℕ) → Transfer
unfolding calls unchanged taking giving needing lending loops moving effect_of part_transfer binary_transfer lending_in has_in given_in transfer_of
row = transfer_of
