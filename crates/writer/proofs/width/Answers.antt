use native.Mathlib.Nat.{div-add-mod'}
use native.Mathlib.Omega.{arith}
use Rattle.writer.proofs.Digits.{one_digit, two_digits, two_more_digits, few_digits}
use Rattle.writer.proofs.width.Goals as goal

pub loop-rest-init : goal.loop-rest-init
loop-rest-init c = omega arith

pub overflow_add-digits : goal.overflow_add-digits
overflow_add-digits c =
    omega (arith, few_digits c.args.n c.ranges.n.fits)

pub loop-rest-smaller : goal.loop-rest-smaller
loop-rest-smaller c = omega (arith, div-add-mod' c.loop-rest.rest 100)

pub loop-rest-preserved : goal.loop-rest-preserved
loop-rest-preserved c = omega (arith, two_more_digits _ c.loop-rest-test.true)

pub overflow_add-result : goal.overflow_add-result
overflow_add-result c =
    omega (arith, few_digits c.args.n c.ranges.n.fits)

pub returns-then-rest-lt10 : goal.returns-then-rest-lt10
returns-then-rest-lt10 c = omega (arith, one_digit _ c.if-rest-lt10.true)

pub overflow_add-result-2 : goal.overflow_add-result-2
overflow_add-result-2 c =
    omega (arith, few_digits c.args.n c.ranges.n.fits)

pub returns : goal.returns
returns c = omega (arith, two_digits _ c.if-rest-lt10.false c.loop-rest-test.false)
