use Rattle.std.proofs.Common.{Some}
use mathlib.Core.Path.{ap, sym, ◌∙◌}
use native.Mathlib.Omega.{arith}
use lib.ListN.{length}
use borrow.Author.Tests.{eqb-true, eqb-false}
use Rattle.spec.specs.Text.{digit_limit}
use Rattle.lexer.proofs.Digits.{digits_stop, digits_on, digits_end, value_at_lem, value_end, ten_more, not_short, not_long_lem, not_leading, not_digits, is_numeral}
use Rattle.lexer.proofs.numeral_of.Goals as goal
use Rattle.lexer.proofs.numeral_of.Goals.{then-is_empty-via-then-is_empty, then-is_empty-via-else-is_empty+then-field-gt-DIGIT_LIMIT, then-is_empty-via-else-is_empty+else-field-gt-DIGIT_LIMIT+then-leading_zero}

pub returns-then-is_empty : goal.returns-then-is_empty
unfolding digit_limit
returns-then-is_empty c =
    let s = c.args.field.now in
    elim c.then-is_empty.branch [
      | then-is_empty-via-then-is_empty w ↦ sym (not_short s (eqb-true (length s) 0 (sym c.is_empty.ensures ∙ w.if-is_empty.true)))
      | then-is_empty-via-else-is_empty+then-field-gt-DIGIT_LIMIT w ↦ sym (not_long_lem s (omega arith))
      | then-is_empty-via-else-is_empty+else-field-gt-DIGIT_LIMIT+then-leading_zero w ↦ sym (not_leading s (sym w.leading_zero.ensures ∙ w.if-leading_zero.true))
    ]

pub returns-then-not-is_ascii_digit : goal.returns-then-not-is_ascii_digit
returns-then-not-is_ascii_digit c =
    let s = c.args.field.now in
    sym (not_digits s (sym c.loop-b.invariant.1 ∙ digits_stop s c.loop-b.b-index (omega arith) (sym c.is_ascii_digit.ensures.value ∙ c.if-not-is_ascii_digit.true)))

pub loop-b-preserved : goal.loop-b-preserved
loop-b-preserved c =
    let s = c.args.field.now in
    let i = c.loop-b.b-index in
    let digit = c.if-not-is_ascii_digit.ensures.cases in
    rw c.from.ensures (
      ten_more i c.loop-b.value _ c.loop-b.invariant.0 (omega (arith, digit)),
      sym (digits_on s i (omega arith) (sym c.is_ascii_digit.ensures.value ∙ c.if-not-is_ascii_digit.false)) ∙ c.loop-b.invariant.1,
      sym (value_at_lem s i c.loop-b.value (omega arith)) ∙ c.loop-b.invariant.2,
    )

pub returns : goal.returns
unfolding digit_limit
returns c =
    let s = c.args.field.now in
    let i = c.loop-b.b-index in
    let some = eqb-false (length s) 0 (sym c.is_empty.ensures ∙ c.if-is_empty.false) in
    let all_digits = sym c.loop-b.invariant.1 ∙ digits_end s i (omega arith) in
    let whole = sym c.loop-b.invariant.2 ∙ value_end s i c.loop-b.value (omega arith) in
    sym (is_numeral s (omega arith) (omega arith) (sym c.leading_zero.ensures ∙ c.if-leading_zero.false) all_digits ∙ ap Some whole)
