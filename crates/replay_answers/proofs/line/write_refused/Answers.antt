-- `REFUSE,`, four numbers, the steps, and `RACE,` with the race behind them.
use borrow.Author.Rules.{rules}
use Rattle.spec.specs.Text.{bytes}
use Rattle.writer.proofs.Buffer.{said, ◌then◌}
use Rattle.replay_answers.specs.Line.{refused_fields}
use Rattle.replay_answers.proofs.Lines.{Small, refused_parts, refused_raced_parts, refused_short, refused_raced_short}
use Rattle.replay_answers.proofs.line.write_refused.Goals as goal

pub returns-in-None : goal.returns-in-None
unfolding bytes refused_fields
returns-in-None c =
    let small : Small c.args.x = record { number = search rules; line = search rules; condition = search rules; location = search rules } in
    record {
      written = said (refused_parts _ _ c.in-None.is) (c.bytes.ensures then c.write_four.ensures then c.field.ensures);
      short = refused_short _ _ small (search rules) c.in-None.is;
    }

pub returns-in-Some : goal.returns-in-Some
unfolding bytes refused_fields
returns-in-Some c =
    let small : Small c.args.x = record { number = search rules; line = search rules; condition = search rules; location = search rules } in
    record {
      written = said (refused_raced_parts _ _ c.in-Some.is) (c.bytes.ensures then c.write_four.ensures then c.field-in-Some.ensures then c.bytes-in-Some.ensures then c.write_race.ensures);
      short = refused_raced_short _ _ small (search rules) c.in-Some.is (record { state = search rules; lower = search rules; other = search rules });
    }
