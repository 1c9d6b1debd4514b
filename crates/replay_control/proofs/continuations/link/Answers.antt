use Rattle.replay_control.specs.Continuations.{root_joined, linked}
use Rattle.replay_control.proofs.continuations.link.Goals as goal

pub returns : goal.returns
unfolding linked root_joined
returns c =
    rw (
      c.link_steps.ensures,
      c.join.ensures,
      c.root-k.ensures,
      c.link_bodies.ensures,
      c.put.ensures,
    )
