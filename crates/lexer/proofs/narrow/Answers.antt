-- The two cases of the definition.
use mathlib.Core.Path.{◌∙◌}
use Rattle.lexer.proofs.Stored.{held_or_largest}
use Rattle.lexer.proofs.narrow.Goals as goal

pub returns : goal.returns
returns c = c.unwrap_or.ensures ∙ held_or_largest c.args.n c.try_from.result c.try_from.ensures
