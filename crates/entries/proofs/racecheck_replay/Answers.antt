-- The numbers of what `replay` hands back, one by one.
use mathlib.Core.Path.{◌≡◌, refl, ◌∙◌, ap}
use lib.ListN.{length}
use Rattle.replay_theory.specs.declared.Replayed.{Replayed}
use Rattle.replay_theory.specs.Replay.{replay}
use Rattle.replay_kept.specs.Kept.{told_numbers}
use Rattle.entries.proofs.Telling as telling
use Rattle.entries.proofs.racecheck_replay.Goals as goal

pub returns : goal.returns
returns c =
    let S = c.store_told.ensures in
    let said = c.replay.ensures in
    let whole : c.replay.result ≡ replay (length c.args.space.now) c.args.program.now c.args.trace.now = λ i. record { ending = said.ending i; report = said.report i } in
    let e = c.from-told.ensures ∙ ap told_numbers whole in
    record {
      answer = telling.answers S _ _ _ e;
      report = telling.reports S _ _ _ e;
      unchanged = (refl, refl);
      kept = said.kept;
      free = said.free;
      stops = telling.stops S _ _ _ e;
      first_race = telling.first_race S _ _ _ e;
      safe = telling.safe S _ _ _ e;
    }
