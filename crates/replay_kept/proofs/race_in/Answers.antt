use mathlib.Core.Path.{◌∙◌}
use Rattle.replay_kept.proofs.Rereading.{found_back}
use Rattle.replay_kept.proofs.race_in.Goals as goal

pub returns : goal.returns
returns c = λ race K. rw (c.count_at.ensures, c.small_at.ensures, c.small_at-2.ensures) (found_back _ race (λ z. c.if-at-eq0.false (c.at.ensures ∙ z)) K)
