-- What each name names, in the lent space s, by the value v that stands for the name.
use Rattle.std.specs.Prelude.{ℕ, ◌+◌, List, ltb, get_or, set}
use Rattle.spec.specs.Choice.{when◌then◌else◌}
use Rattle.replay_control.specs.Layout.{thing_kinds_at, thing_firsts_at, thing_seconds_at}
use Rattle.replay_objects.specs.declared.Thing.{Thing}
use Rattle.replay_objects.specs.declared.Thing.TheVariants.{Unused}
use Rattle.replay_objects.specs.declared.Slot.{Slot}
use Rattle.replay_objects.specs.Stored.{slot, numbers_of, thing_of}

unfoldable pub thing_at : (s : List ℕ) (v : ℕ) → Thing
thing_at s v = when ltb v 322 then thing_of (slot (get_or s (thing_kinds_at + v) 0) (get_or s (thing_firsts_at + v) 0) (get_or s (thing_seconds_at + v) 0)) else Unused

-- the numbers x of a thing
unfoldable pub slot_put : (s : List ℕ) (v : ℕ) → Slot → List ℕ
slot_put s v x = set (set (set s (thing_kinds_at + v) x.kind) (thing_firsts_at + v) x.first) (thing_seconds_at + v) x.second

unfoldable pub thing_put : (s : List ℕ) (v : ℕ) → Thing → List ℕ
thing_put s v x = slot_put s v (numbers_of x)
