use mathlib.Core.Path.{sym, ◌∙◌}
use native.Mathlib.Omega.{arith}
use Rattle.lexer.proofs.Fields.{before_byte, before_end}
use Rattle.lexer.proofs.FieldEnd.at.Goals as goal

pub returns-then-to-text : goal.returns-then-to-text
returns-then-to-text c = sym (before_end c.args.text.now c.args.to (omega arith))

pub returns : goal.returns
returns c = c.of.ensures ∙ sym (before_byte c.args.text.now c.args.to (omega arith))
