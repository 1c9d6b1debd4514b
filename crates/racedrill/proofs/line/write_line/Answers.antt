-- `DRILL,` and the numbers behind it.
use Rattle.std.proofs.Common.{rules, arith}
use Rattle.spec.specs.Text.{bytes}
use Rattle.writer.specs.Buffer.{WrittenAt}
use Rattle.writer.proofs.Buffer.{said, ◌then◌, at_front}
use Rattle.racedrill.specs.Line.{drill_line}
use Rattle.racedrill.proofs.Lines.{line_parts, line_short}
use Rattle.racedrill.proofs.line.write_line.Goals as goal

pub returns : goal.returns
unfolding bytes
returns c =
    let d = c.args.drilled in
    let short = line_short d.next d.program d.split (omega arith) (omega arith) (omega arith) in
    let written : WrittenAt c.args.buffer.now _ 0 (drill_line d.next d.program d.split) c.position.result =
    at_front c.new-writer.ensures.held c.new-writer.ensures.front (omega arith)
    (said (line_parts _ _ _) (c.bytes.ensures then c.numbers.ensures))
    (search rules) c.position.ensures in
    record { line = written; short = omega (arith, written.moved) }
