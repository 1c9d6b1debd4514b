-- A `proc` line in the order in which it is judged: the heading of its sheet, the number after the word, its range.
use native.Mathlib.Omega.{arith}
use Rattle.lexer.proofs.Walks.{span_placed}
use Rattle.program_lines.proofs.TailLaws.{line_fits}
use Rattle.program_lines.proofs.LineLaws.{proc_plain, proc_malformed, proc_over, proc_right}
use Rattle.program_lines.proofs.items.proc_line.Goals as goal

pub overflow_add-line : goal.overflow_add-line
overflow_add-line c = omega (arith, line_fits _ _ c.requires.here.placed c.requires.here.left)

pub returns-in_default : goal.returns-in_default
returns-in_default c = proc_plain _ _ _ c.requires _ c.in_default.is

pub last_number-requires : goal.last_number-requires
last_number-requires c = span_placed _ _ _ c.requires.here.field c.requires.here.placed

pub returns-in_default-last_number : goal.returns-in_default-last_number
returns-in_default-last_number c = proc_malformed _ _ _ c.requires _ c.in-P2.is c.in_default-last_number.ensures

pub returns-then-variable-gt-VARIABLE_LIMIT : goal.returns-then-variable-gt-VARIABLE_LIMIT
returns-then-variable-gt-VARIABLE_LIMIT c = proc_over _ _ _ c.requires _ c.in-P2.is _ _ c.in-Some.ensures c.if-variable-gt-VARIABLE_LIMIT.true

pub returns : goal.returns
returns c = proc_right _ _ _ c.requires _ c.in-P2.is _ _ c.in-Some.ensures c.if-variable-gt-VARIABLE_LIMIT.false
