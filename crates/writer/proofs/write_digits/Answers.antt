use Rattle.std.proofs.Common.{◌≡◌, refl, ◌∙◌, arith}
use Rattle.text_theory.proofs.Decimal.{decimal_long}
use Rattle.writer.specs.Buffer.{overwrite}
use Rattle.writer.proofs.Digits.{last_digits, last_written, all_digits}
use Rattle.writer.proofs.write_digits.Goals as goal

pub loop-front-init : goal.loop-front-init
loop-front-init c = (omega (arith, decimal_long c.args.n), refl)

pub loop-front-preserved : goal.loop-front-preserved
loop-front-preserved c = (omega arith, rw c.write_digit.ensures (last_written _ _ _ _ _ (omega arith) ∙ c.loop-front.invariant.1))

pub returns : goal.returns
unfolding last_digits overwrite
returns c =
    let first : c.loop-front.front ≡ 1 = omega arith in
    rw c.digit.ensures (rw (first, all_digits _ _ c.requires.1) at c.loop-front.invariant.1)
