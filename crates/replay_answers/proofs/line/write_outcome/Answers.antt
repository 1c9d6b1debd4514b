use native.Mathlib.Omega.{arith}
use Rattle.spec.specs.Text.{bytes}
use Rattle.writer.proofs.Buffer.{said}
use Rattle.replay_answers.proofs.Lines.{ran_line, refused_line, unread_line}
use Rattle.replay_answers.proofs.line.write_outcome.Goals as goal

pub returns-in_default : goal.returns-in_default
unfolding bytes
returns-in_default c =
    let e = unread_line c.in_default.is in
    record { written = said e c.bytes.ensures; short = rw e (omega arith) }

pub returns-in-Done : goal.returns-in-Done
returns-in-Done c =
    let e = ran_line c.in-Some.is c.in-Done.is in
    let short = c.write_ran.ensures.short in
    record { written = said e c.write_ran.ensures.written; short = rw e (omega (arith, short)) }

pub returns-in_default-ending : goal.returns-in_default-ending
returns-in_default-ending c =
    let e = refused_line c.in-Some.is c.in_default-ending.not-Done c.ending_numbers.ensures in
    record { written = said e c.write_refused.ensures.written; short = rw e c.write_refused.ensures.short }
