-- A read that fails keeps the bytes that were held, since it goes behind them.
use mathlib.Core.Path.{◌∙◌}
use Rattle.file_io.proofs.Buffers.{front_kept}
use Rattle.file_io.proofs.fill.Goals as goal

pub returns-in_err-more-clause-kept : goal.returns-in_err-more-clause-kept
returns-in_err-more-clause-kept g c =
    front_kept _ c.loop-n.n c.loop-n.buffer _ c.loop-n.invariant.2 c.loop-n.invariant.0 ∙ c.loop-n.invariant.3
