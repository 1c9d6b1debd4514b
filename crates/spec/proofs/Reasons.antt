-- The reasons to stop, one after the other: which answer a pair gets once all before it are passed. The limits are written out.
use Rattle.std.proofs.Common.{Ok, Err}
use mathlib.Core.Path.{◌≡◌}
use mathlib.Core.List.{List}
use Prim.Native.Nat.{ℕ, ◌≤◌, ◌<◌}
use borrow.Author.Tests.{le-leb, lt-leb}
use Rattle.spec.specs.Reading.{◌>>=◌, require}
use Rattle.spec.specs.Program.{Program}
use Rattle.spec.specs.Split.{Split}
use Rattle.spec.specs.Workspace.{workspace_size}
use Rattle.spec.specs.Verdict.{sheets, locks_take_enough, start_at_most_one, conditions_hold, checked, answer, verdict}
use Rattle.spec.specs.declared.Answer.TheVariants.{Refuse}
use Rattle.spec.specs.declared.Refusal.{Refusal}
use Rattle.spec.specs.declared.Refusal.TheVariants.{ShortWorkspace}
use Rattle.spec.specs.declared.Purpose.TheVariants.{Check}

module _ (room : ℕ) (p s : List ℕ) where
  pub short_workspace : room < 16384 → verdict room p s ≡ Refuse ShortWorkspace
  unfolding verdict checked answer require ◌>>=◌ workspace_size
  short_workspace h = rw (lt-leb _ _ h)

  module _ (enough : 16384 ≤ room) where
    pub sheets_refused : (r : Refusal) → sheets Check p s ≡ Err r → verdict room p s ≡ Refuse r
    unfolding verdict checked answer require ◌>>=◌ workspace_size
    sheets_refused r e = rw (le-leb _ _ enough, e)

    pub rules_decide : (P : Program) (S : Split) → sheets Check p s ≡ Ok (P, S)
        → verdict room p s ≡ answer (locks_take_enough S >>= λ locks. start_at_most_one P S >>= λ whole. conditions_hold P S)
    unfolding verdict checked require ◌>>=◌ workspace_size
    rules_decide P S e = rw (le-leb _ _ enough, e)
