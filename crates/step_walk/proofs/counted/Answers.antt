-- When filling, a refusal that is not on types does not count.
use Rattle.std.proofs.Common.{refl}
use Rattle.step_walk.specs.Walk.{on_types, counted}
use Rattle.step_walk.proofs.counted.Goals as goal

pub returns-in-Fill-Err : goal.returns-in-Fill-Err
unfolding counted on_types
returns-in-Fill-Err c = rw (c.in-Fill-Err.is-0, c.in-Fill-Err.is-1, ← c.on_types.ensures, c.if-not-on_types.true) refl
