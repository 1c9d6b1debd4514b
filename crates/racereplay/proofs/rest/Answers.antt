-- The last piece, and what the run tells after it.
use Prim.Native.Nat.{ℕ}
use mathlib.Core.List.{◌++◌}
use mathlib.Core.Path.{◌∙◌, ap}
use Rattle.replay_theory.specs.Replay.{replay}
use Rattle.racereplay.proofs.rest.Goals as goal

pub returns : goal.returns
returns c = λ program trace R ends room.
    c.told.ensures.answer program _ _ _ (c.more.ensures.goes_on program trace R ends room)
    ∙ ap (λ (n : ℕ). replay n program (trace ++ c.args.bytes.now)) c.more.auto.space
