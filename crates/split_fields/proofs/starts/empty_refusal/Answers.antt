use mathlib.Core.Path.{refl}
use Rattle.split_fields.specs.Starts.{empty_refusal}
use Rattle.split_fields.proofs.starts.empty_refusal.Goals as goal

pub returns-then-keeps_back : goal.returns-then-keeps_back
unfolding empty_refusal
returns-then-keeps_back c = rw (← c.if-keeps_back.ensures) refl

pub returns-else-keeps_back : goal.returns-else-keeps_back
unfolding empty_refusal
returns-else-keeps_back c = rw (← c.if-keeps_back.ensures) refl
