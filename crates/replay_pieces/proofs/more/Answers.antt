-- The front of the run is lent on; what is behind it stays.
use mathlib.Core.Logic.{inl, inr}
use mathlib.Core.Path.{refl, sym, ◌∙◌}
use lib.Seq.{length-take-le}
use Rattle.replay_kept.specs.Kept.{kept_size}
use Rattle.replay_pieces.proofs.Lending.{no_room, room_here, never, held_there, front_used, run_kept}
use Rattle.replay_pieces.proofs.more.Goals as goal

pub returns-then-job-lt-PROGRAM-clause-goes_on : goal.returns-then-job-lt-PROGRAM-clause-goes_on
returns-then-job-lt-PROGRAM-clause-goes_on c = λ program trace K ends bound. no_room _ _ (inl c.if-job-lt-PROGRAM.true) K.room

pub returns-then-job-lt-PROGRAM-clause-answer : goal.returns-then-job-lt-PROGRAM-clause-answer
returns-then-job-lt-PROGRAM-clause-answer c = λ program trace K ends bound. no_room _ _ (inl c.if-job-lt-PROGRAM.true) K.room

pub returns-in-None-clause-goes_on : goal.returns-in-None-clause-goes_on
returns-in-None-clause-goes_on c = λ program trace K ends bound. no_room _ _ (inr c.in-None.ensures.cases) K.room

pub returns-in-None-clause-answer : goal.returns-in-None-clause-answer
returns-in-None-clause-answer c = λ program trace K ends bound. no_room _ _ (inr c.in-None.ensures.cases) K.room

pub returns-in-Some : goal.returns-in-Some
returns-in-Some c =
    let fits = c.in-Some.ensures.cases.enough in
    let room = room_here c.args.job.now c.args.run.now c.if-job-lt-PROGRAM.false fits in
    let (goes, kept, used, sized) = c.go_on.ensures in
    let long = sized ∙ sym (length-take-le kept_size c.args.run.now fits) in
    record {
      goes_on = λ program trace K ends bound. run_kept _ _ _ _ _ _ room long (goes program trace (held_there c.in-Some.ensures.cases.same K) ends bound).0;
      answer = λ program trace K ends bound. (goes program trace (held_there c.in-Some.ensures.cases.same K) ends bound).1;
      short = λ short. never _ room short;
      unchanged = (refl, refl);
      kept = kept;
      free = (used, front_used kept_size c.args.run.now c.go_on.new.run fits long);
    }
