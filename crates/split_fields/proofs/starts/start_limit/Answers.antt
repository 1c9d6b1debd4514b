use mathlib.Core.Path.{refl}
use Rattle.split_fields.proofs.starts.start_limit.Goals as goal

pub returns-then-takes_start : goal.returns-then-takes_start
returns-then-takes_start c = rw (← c.if-takes_start.ensures) refl

pub returns-else-takes_start : goal.returns-else-takes_start
returns-else-takes_start c = rw (← c.if-takes_start.ensures) refl
