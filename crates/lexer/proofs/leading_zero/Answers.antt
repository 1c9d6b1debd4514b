-- A field of one byte has no leading zero; of a longer one the first byte tells.
use mathlib.Core.Path.{sym, ◌∙◌}
use native.Mathlib.Omega.{arith}
use borrow.Author.Tests.{eq-eqb, ne_eqb}
use Rattle.lexer.proofs.Digits.{leading_one, leading_two}
use Rattle.lexer.proofs.leading_zero.Goals as goal

pub returns-in-48 : goal.returns-in-48
returns-in-48 c = sym (leading_two _ (omega arith) ∙ eq-eqb _ _ (omega arith))

pub returns-in_default : goal.returns-in_default
returns-in_default c = sym (leading_one _ (omega arith))

pub returns-in_default-2 : goal.returns-in_default-2
returns-in_default-2 c = sym (leading_two _ (omega arith) ∙ ne_eqb _ _ (λ e. omega arith))
