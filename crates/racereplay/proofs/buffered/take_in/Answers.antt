-- The lines of the buffer are a piece, and what is behind them comes to its front.
use Rattle.std.proofs.Common.{take}
use Rattle.racereplay.proofs.Carrying.{ends_joined, none_lost, still_counted}
use Rattle.racereplay.proofs.buffered.take_in.Goals as goal

pub returns-clause-taken : goal.returns-clause-taken
returns-clause-taken c = λ program trace R ends room.
    let b = c.args.buffer.now in
    let cut = c.whole_lines-cut.result in
    let low = c.whole_lines-cut.ensures.0 in
    record {
      lines = take cut b;
      run = c.more-run.ensures.goes_on program trace R ends (still_counted cut b _ low room);
      ends = ends_joined trace (take cut b) ends c.whole_lines-cut.ensures.1;
      all = none_lost cut b low c.copy_within.ensures.after;
    }
