-- A run that is too short holds none; of another the numbers are told.
use mathlib.Core.Logic.{inr}
use mathlib.Core.Path.{refl, ◌∙◌}
use Rattle.replay_pieces.proofs.Resuming.{answer_in}
use Rattle.replay_pieces.proofs.Lending.{no_room}
use Rattle.replay_pieces.proofs.told.Goals as goal

pub returns-in-None : goal.returns-in-None
returns-in-None c = record {
  answer = λ program trace job space K. no_room _ _ (inr c.in-None.ensures.cases) K.room;
  short = λ l. c.short_told.ensures;
  unchanged = refl;
}

pub returns-in-Some-clause-answer : goal.returns-in-Some-clause-answer
returns-in-Some-clause-answer c = λ program trace job space K.
    c.told_in.ensures ∙ rw c.in-Some.ensures.cases.same (answer_in program trace _ space _ K.held)
