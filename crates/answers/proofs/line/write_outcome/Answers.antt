use Rattle.std.proofs.Common.{arith}
use Rattle.spec.specs.Text.{bytes}
use Rattle.text_theory.specs.Text.{line}
use Rattle.answers.specs.Line.{output_line}
use Rattle.answers.proofs.line.write_outcome.Goals as goal

pub returns-in-Some : goal.returns-in-Some
unfolding output_line
returns-in-Some c = rw c.in-Some.is c.write_answer.ensures

pub returns-in-None : goal.returns-in-None
unfolding bytes line output_line
returns-in-None c = rw c.in-None.is (record { written = c.bytes.ensures; short = omega arith })
