-- A line with a word of a step in the order in which it is judged: the number after the word, its range.
use native.Mathlib.Omega.{arith}
use Rattle.lexer.proofs.Walks.{span_placed}
use Rattle.program_lines.proofs.TailLaws.{line_fits}
use Rattle.program_lines.proofs.LineLaws.{step_malformed, step_under, step_over, step_right}
use Rattle.program_lines.proofs.items.word_line.Goals as goal
use Rattle.program_lines.proofs.items.word_line.Goals.{then-value-least_of-via-then-value-least_of, then-value-least_of-via-else-value-least_of+then-limit_of-value}

pub overflow_add-line : goal.overflow_add-line
overflow_add-line c = omega (arith, line_fits _ _ c.requires.step.here.placed c.requires.step.here.left)

pub last_number-requires : goal.last_number-requires
last_number-requires c = span_placed _ _ _ c.requires.step.here.field c.requires.step.here.placed

pub returns-in_default : goal.returns-in_default
returns-in_default c = step_malformed _ _ _ _ _ c.requires c.in_default.ensures

pub returns-then-value-least_of : goal.returns-then-value-least_of
returns-then-value-least_of c =
    elim c.then-value-least_of.branch [
      | then-value-least_of-via-then-value-least_of w ↦ step_under _ _ _ _ _ c.requires _ _ c.in-Some.ensures (omega (arith, w.if-value-least_of.true, c.least_of.ensures))
      | then-value-least_of-via-else-value-least_of+then-limit_of-value w ↦ step_over _ _ _ _ _ c.requires _ _ c.in-Some.ensures (omega (arith, w.if-limit_of-value.true, w.limit_of.ensures))
    ]

pub returns : goal.returns
returns c =
    step_right _ _ _ _ _ c.requires _ _ c.in-Some.ensures (omega (arith, c.if-value-least_of.false, c.least_of.ensures)) (omega (arith, c.if-limit_of-value.false, c.limit_of.ensures))
