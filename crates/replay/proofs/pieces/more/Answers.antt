-- The front of the space is lent on; what is behind it stays.
use mathlib.Core.Path.{refl, sym}
use lib.Seq.{length-take-le}
use Rattle.replay_theory.specs.Replay.{replay_space}
use Rattle.replay_control.specs.Layout.{space_size}
use Rattle.replay.proofs.Promises.{space_counted, long_space_after}
use Rattle.replay.proofs.Runs.{short_run, further_run}
use Rattle.replay.proofs.pieces.more.Goals as goal

pub returns-then-space-lt-SPACE : goal.returns-then-space-lt-SPACE
returns-then-space-lt-SPACE c = record {
  goes_on = λ text trace R ends room. short_run _ _ _ _ _ _ c.if-space-lt-SPACE.true R ends;
  unchanged = (refl, refl);
  kept = λ l. refl;
  free = (refl, refl);
}

pub slice_bounds-go_on-end-2 : goal.slice_bounds-go_on-end-2
slice_bounds-go_on-end-2 c =
    sym (length-take-le space_size c.args.space.now c.if-space-lt-SPACE.false)

pub returns : goal.returns
unfolding replay_space
returns c =
    let after = long_space_after c.args.space.now c.go_on.new.space c.if-space-lt-SPACE.false c.go_on.auto.space in
    record {
      goes_on = λ text trace R ends room.
          further_run space_size space_counted c.args.space.now c.go_on.new.space c.if-space-lt-SPACE.false c.go_on.auto.space after.long text trace _ _ _ _ R ends
          (λ whole C. c.go_on.ensures whole C room);
      unchanged = (refl, refl);
      kept = after.kept;
      free = (after.long, after.behind);
    }
