-- A line with the word `freelock` in the order in which it is judged: the number after the word, its range, the word itself.
use native.Mathlib.Omega.{arith}
use Rattle.lexer.proofs.Walks.{span_placed}
use Rattle.program_lines.proofs.TailLaws.{line_fits}
use Rattle.program_lines.proofs.LineLaws.{freelock_malformed, freelock_over, freelock_named}
use Rattle.program_lines.proofs.items.freelock_line.Goals as goal

pub overflow_add-line : goal.overflow_add-line
overflow_add-line c = omega (arith, line_fits _ _ c.requires.here.placed c.requires.here.left)

pub last_number-requires : goal.last_number-requires
last_number-requires c = span_placed _ _ _ c.requires.here.field c.requires.here.placed

pub returns-in-None : goal.returns-in-None
returns-in-None c = freelock_malformed _ _ _ _ c.requires c.in-None.ensures

pub returns-in-Some-eq0-default : goal.returns-in-Some-eq0-default
returns-in-Some-eq0-default c = freelock_named _ _ _ _ c.requires _ _ c.in-Some-eq0-default.ensures (omega arith)

pub returns-in-Some : goal.returns-in-Some
returns-in-Some c = freelock_over _ _ _ _ c.requires _ _ c.in-Some.ensures (omega arith)
