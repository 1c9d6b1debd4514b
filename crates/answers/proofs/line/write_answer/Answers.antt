-- ACCEPT, or the line of a refusal.
use Rattle.std.proofs.Common.{◌≡◌, sym, ap, ◌∙◌, arith}
use Rattle.spec.specs.Text.{bytes}
use Rattle.text_theory.specs.Text.{line}
use Rattle.writer.proofs.Buffer.{said, ◌then◌}
use Rattle.answers.specs.Line.{answer_line, refusal_line}
use Rattle.answers.proofs.Lines.{refusal_parts, refusal_short}
use Rattle.answers.proofs.line.write_answer.Goals as goal

pub returns-in-Accept : goal.returns-in-Accept
unfolding bytes line answer_line
returns-in-Accept c = rw c.in-Accept.is (record { written = c.bytes.ensures; short = omega arith })

pub returns-in-Refuse : goal.returns-in-Refuse
unfolding bytes answer_line
returns-in-Refuse c =
    let same : answer_line c.args.answer ≡ refusal_line c.refusal_numbers-four.result = rw c.in-Refuse.is (ap refusal_line (sym c.refusal_numbers-four.ensures)) in
    record {
      written = said (same ∙ refusal_parts _) (c.bytes-in-Refuse.ensures then c.numbers.ensures);
      short = rw same (refusal_short _ (omega arith) (omega arith) (omega arith) (omega arith));
    }
