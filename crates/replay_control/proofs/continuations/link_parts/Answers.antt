use Rattle.replay_control.specs.Continuations.{linked_parts}
use Rattle.replay_control.proofs.continuations.link_parts.Goals as goal

pub returns-in-Spawn : goal.returns-in-Spawn
unfolding linked_parts
returns-in-Spawn c = rw (c.join-in-Spawn-2.ensures, c.join-in-Spawn.ensures, c.in-Spawn.is)
