use mathlib.Core.Path.{◌≡◌, sym, ◌∙◌}
use Prim.Native.Nat.{◌+◌, ◌-◌}
use native.Mathlib.Omega.{arith}
use Rattle.spec.specs.Text.{digit_limit}
use Rattle.lexer.proofs.Digits.{ten_more, ten_limit}
use Rattle.lexer.proofs.FirstDigits.{reached_more, not_first, none_first, digits_taken}
use Rattle.lexer.proofs.Cursor.digits_within.Goals as goal

pub returns-then-not-is_ascii_digit : goal.returns-then-not-is_ascii_digit
unfolding digit_limit
returns-then-not-is_ascii_digit c =
    digits_taken _ _ _ c.requires.1 c.requires.0.in_text _ (omega arith) (omega arith) c.loop-to.invariant.1
    (λ h. not_first _ c.loop-to.to (omega arith) (sym c.is_ascii_digit.ensures.value ∙ c.if-not-is_ascii_digit.true))

pub overflow_mul-value : goal.overflow_mul-value
unfolding digit_limit
overflow_mul-value c =
    let small = ten_limit (c.loop-to.to - _) c.loop-to.value c.loop-to.invariant.0 (omega arith) in
    omega arith

pub overflow_add-value : goal.overflow_add-value
unfolding digit_limit
overflow_add-value c =
    let small = ten_limit (c.loop-to.to - _) c.loop-to.value c.loop-to.invariant.0 (omega arith) in
    omega arith

pub loop-to-preserved : goal.loop-to-preserved
loop-to-preserved c =
    let from = c.args.self.at in
    let to = c.loop-to.to in
    let value = c.loop-to.value in
    let digit = c.if-not-is_ascii_digit.ensures.cases in
    let more : to + 1 - from ≡ to - from + 1 = omega arith in (
      rw (more, c.from.ensures) (ten_more (to - from) value _ c.loop-to.invariant.0 (omega (arith, digit))),
      rw c.from.ensures (reached_more _ from to value c.loop-to.invariant.1 (omega arith) (omega (arith, digit)) (omega (arith, digit))),
    )

pub returns : goal.returns
unfolding digit_limit
returns c =
    let all : c.args.self.at + c.args.most ≡ c.loop-to.to = omega arith in
    rw all (digits_taken _ _ _ c.requires.1 c.requires.0.in_text _ (omega arith) (omega arith) c.loop-to.invariant.1
    (λ h. none_first _ c.loop-to.to (omega arith)))
