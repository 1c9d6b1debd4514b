-- The flow that the work space shows at a location.
use Rattle.std.specs.Prelude.{◌≡◌, List, ℕ, ◌+◌, get_or}
use Rattle.workspace.specs.Layout.{ends_at}
use Rattle.fill_theory.specs.declared.Effect.{Effect}
use Rattle.fill_theory.specs.Flow.{Flow, alone, unary_flow, binary_flow, steps}
use Rattle.fill_transfer.specs.declared.Column.{Column}
use Rattle.fill_theory.specs.declared.Transfer.TheVariants.{Leaf, Unary, Binary}
use Rattle.fill_theory.specs.declared.UnaryTransfer.{UnaryTransfer}
use Rattle.fill_theory.specs.declared.BinaryTransfer.{BinaryTransfer}
use Rattle.fill_transfer.specs.Transfers.{transfer_in}

-- the end of step k
unfoldable pub end_in : List ℕ → (k : ℕ) → ℕ
end_in w k = get_or w (ends_at + k) 0

-- the work space shows a flow from step k on. A first part stands just behind its step, a second part at the end of the first.
pub data Shows (w : List ℕ) (column : Column) : (k : ℕ) → Flow → Type 0 where
  leaf_shown : {k : ℕ} {E : Effect} → transfer_in w column k ≡ Leaf E → Shows w column k (alone E)
  unary_shown : {k : ℕ} {f : Flow} (transfer : UnaryTransfer) → transfer_in w column k ≡ Unary transfer → Shows w column (k + 1) f
      → Shows w column k (unary_flow transfer f)
  binary_shown : {k : ℕ} {f g : Flow} (transfer : BinaryTransfer) → transfer_in w column k ≡ Binary transfer → Shows w column (k + 1) f
      → end_in w (k + 1) ≡ k + 1 + steps f → Shows w column (k + 1 + steps f) g
      → Shows w column k (binary_flow transfer f g)
