-- The numeral is read by the lexer; what is left is whether 32 bits hold it.
use Rattle.std.proofs.Common.{sym, ◌∙◌}
use Rattle.racedrill.specs.Seed.{seed_of}
use Rattle.racedrill.proofs.Seeds.{no_numeral, held}
use Rattle.racedrill.proofs.seed.seed_of.Goals as goal

pub returns-in_err-n : goal.returns-in_err-n
unfolding seed_of
returns-in_err-n c = c.from_residual.ensures ∙ no_numeral _ (sym c.numeral_of.ensures ∙ c.in_err-n.was)

pub returns : goal.returns
unfolding seed_of
returns c = c.ok.ensures.value ∙ held _ _ c.try_from.result (sym c.numeral_of.ensures ∙ c.in_ok-n.was) c.try_from.ensures
