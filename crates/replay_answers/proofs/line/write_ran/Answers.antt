-- `RAN,` or `RACE,`, the steps, and the race behind them.
use borrow.Author.Rules.{rules}
use Rattle.spec.specs.Text.{bytes}
use Rattle.writer.proofs.Buffer.{said, ◌then◌}
use Rattle.replay_answers.specs.Line.{ran_fields}
use Rattle.replay_answers.proofs.Lines.{ran_parts, raced_parts, ran_short, raced_short}
use Rattle.replay_answers.proofs.line.write_ran.Goals as goal

pub returns-in-None : goal.returns-in-None
unfolding bytes ran_fields
returns-in-None c =
    record {
      written = said (ran_parts _ c.in-None.is) (c.bytes.ensures then c.field.ensures);
      short = ran_short _ (search rules) c.in-None.is;
    }

pub returns-in-Some : goal.returns-in-Some
unfolding bytes ran_fields
returns-in-Some c =
    record {
      written = said (raced_parts _ c.in-Some.is) (c.bytes-in-Some.ensures then c.field-in-Some.ensures then c.write_race.ensures);
      short = raced_short _ (search rules) c.in-Some.is (record { state = search rules; lower = search rules; other = search rules });
    }
