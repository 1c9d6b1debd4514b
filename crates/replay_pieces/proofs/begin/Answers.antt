-- The fronts of job and run are lent on; what is behind them stays.
use mathlib.Core.Logic.{inl, inr}
use mathlib.Core.Path.{refl, sym, ◌∙◌}
use lib.Seq.{length-take-le}
use Rattle.replay.specs.Pieces.{job_size}
use Rattle.replay_kept.specs.Kept.{kept_size}
use Rattle.replay_pieces.proofs.Lending.{no_room, room_here, never, front_used, both_kept}
use Rattle.replay_pieces.proofs.begin.Goals as goal

pub returns-then-job-lt-PROGRAM-clause-begun : goal.returns-then-job-lt-PROGRAM-clause-begun
returns-then-job-lt-PROGRAM-clause-begun c = no_room _ _ (inl c.if-job-lt-PROGRAM.true)

pub returns-then-job-lt-PROGRAM-clause-answer : goal.returns-then-job-lt-PROGRAM-clause-answer
returns-then-job-lt-PROGRAM-clause-answer c = no_room _ _ (inl c.if-job-lt-PROGRAM.true)

pub returns-in-None-clause-begun : goal.returns-in-None-clause-begun
returns-in-None-clause-begun c = no_room _ _ (inr c.in-None.ensures.cases)

pub returns-in-None-clause-answer : goal.returns-in-None-clause-answer
returns-in-None-clause-answer c = no_room _ _ (inr c.in-None.ensures.cases)

pub begin_in-requires : goal.begin_in-requires
begin_in-requires c = length-take-le job_size c.args.job.now c.if-job-lt-PROGRAM.false

pub returns-in-Some : goal.returns-in-Some
returns-in-Some c =
    let fits = c.in-Some.ensures.cases.enough in
    let room = room_here c.args.job.now c.args.run.now c.if-job-lt-PROGRAM.false fits in
    let (run, number, kept, used, sized) = c.begin_in.ensures in
    let job-long = c.begin_in.auto.job in
    let run_long = sized ∙ sym (length-take-le kept_size c.args.run.now fits) in
    record {
      begun = λ roomy. both_kept _ _ _ _ _ _ room run_long _ job-long run;
      answer = λ roomy. number;
      short = λ short. never _ room short;
      unchanged = refl;
      kept = kept;
      free = (front_used job_size c.args.job.now c.begin_in.new.job c.if-job-lt-PROGRAM.false job-long, used, front_used kept_size c.args.run.now c.begin_in.new.run fits run_long);
    }
