-- The line goes on after a comma, with two numerals.
use mathlib.Core.Path.{refl}
use Rattle.lexer.proofs.LineEnds.{numbers_none}
use Rattle.program_lines.proofs.TailLaws.{pair_ends}
use Rattle.program_lines.proofs.tails.last_pair.Goals as goal

pub returns-in_err-next : goal.returns-in_err-next
returns-in_err-next c = rw c.from_residual.ensures (λ comma. (numbers_none c.numbers.ensures 2 refl c.in_err-next.was).0)

pub returns : goal.returns
returns c = pair_ends c.in_ok-next.ensures refl c.in-Comma.is c.requires
