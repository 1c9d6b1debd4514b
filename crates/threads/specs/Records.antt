-- Thread records, and the lowest finished one with an identifier.
use Rattle.std.specs.Prelude.{ℕ, Bool, false, List, Option, position, eqb}
use Rattle.replay_theory.specs.declared.Status.{Status}
use Rattle.replay_theory.specs.declared.Status.TheVariants.{Running, Finished}
use Rattle.threads.specs.declared.Record.{Record}

unfoldable pub no_record : Record
no_record = record { state = Running; tid = 0 }

unfoldable pub if_finished : Status → Bool → Bool
if_finished Finished b = b
if_finished s b = false

unfoldable pub matching : Record → (tid : ℕ) → Bool
matching r tid = if_finished r.state (eqb r.tid tid)

-- the place of the first record of a finished thread with that identifier
unfoldable pub lowest : List Record → (tid : ℕ) → Option ℕ
lowest rs tid = position (λ r. matching r tid) rs
