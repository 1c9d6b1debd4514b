-- A replay is one piece.
use mathlib.Core.Path.{◌≡◌, refl, ◌∙◌, ap}
use Prim.Native.Nat.{ℕ}
use mathlib.Core.List.{[]}
use native.Mathlib.Omega.{arith}
use Rattle.replay_theory.specs.Replay.{replay}
use Rattle.replay.specs.Pieces.{ends_line}
use Rattle.replay.proofs.Promises.{space_after, both_after, promises_kept}
use borrow.Author.Rules.{rules}
use Rattle.replay.proofs.replay.Goals as goal

pub returns : goal.returns
unfolding ends_line
returns c =
    let begun = c.begin-start.ensures in
    let further = c.more.ensures in
    let small = c.well_formed.1.0.0 in
    let none_done = begun.at_start in
    let run = further.goes_on _ [] (begun.begun (search rules)) refl (omega (arith, none_done, small)) in
    let first = space_after _ _ begun.kept begun.free in
    let second = space_after _ _ further.kept further.free in
    let after = both_after _ _ _ first second in
    let program = c.args.program.now in
    let trace = c.args.trace.now in
    let (answer, (ending, (report, (unchanged, (kept, (free, (stops, (first_race, safe)))))))) =
    promises_kept {U = (program ≡ program) × (trace ≡ trace)} program trace _ _ _
    (c.told.ensures.answer _ _ _ _ run ∙ ap (λ (room : ℕ). replay room program trace) after.long) (refl, refl) after in
    record {
      answer = answer;
      ending = ending;
      report = report;
      unchanged = unchanged;
      kept = kept;
      free = free;
      stops = stops;
      first_race = first_race;
      safe = safe;
    }
