-- The word's seed is drilled, and buffers for any sheet are never too short.
use Rattle.std.proofs.Common.{sym, ◌∙◌}
use Rattle.racedrill.proofs.Pairs.{none_of, pair_of_lem}
use Rattle.racedrill.proofs.pair.pair_of.Goals as goal

pub returns-in_err-seed : goal.returns-in_err-seed
returns-in_err-seed c = rw c.from_residual.ensures (none_of _ _ _ (sym c.seed_of.ensures ∙ c.in_err-seed.was))

pub returns : goal.returns
returns c = pair_of_lem _ _ _ c.requires _ _ _ _ _ c.drill.ensures.answer c.drill.ensures.written _ (sym c.seed_of.ensures ∙ c.in_ok-seed.was)
