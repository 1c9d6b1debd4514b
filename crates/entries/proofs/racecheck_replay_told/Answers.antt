-- The numbers of the run, one by one.
use mathlib.Core.Path.{refl}
use Rattle.entries.proofs.Telling as telling
use Rattle.entries.proofs.racecheck_replay_told.Goals as goal

pub returns : goal.returns
returns c =
    let S = c.store_told.ensures in
    let told = c.told-told.ensures.answer in
    record {
      answer = λ program trace job space K. telling.answers S _ _ _ (told program trace job space K);
      report = λ program trace job space K. telling.reports S _ _ _ (told program trace job space K);
      short = λ l. telling.short_told S (c.told-told.ensures.short l);
      unchanged = refl;
      stops = λ program trace job space K. telling.stops S _ _ _ (told program trace job space K);
      first_race = λ program trace job space K. telling.first_race S _ _ _ (told program trace job space K);
      safe = λ program trace job space K. telling.safe S _ _ _ (told program trace job space K);
    }
