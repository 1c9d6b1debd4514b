-- Demand 2: a pair is accepted exactly when it is right and the work space is large enough.
use Rattle.std.proofs.Common.{Result, Ok, Err}
use mathlib.Core.Path.{◌≡◌, refl, ap}
use mathlib.Core.List.{List}
use mathlib.Core.Logic.{◌↔◌}
use Prim.Native.Nat.{ℕ, ◌≤◌}
use native.Mathlib.Omega.{arith}
use Rattle.spec.specs.declared.Refusal.{Refusal}
use Rattle.spec.specs.Workspace.{workspace_size}
use Rattle.spec.specs.Verdict.{conditions_hold, checked, answer, verdict}
use Rattle.spec.specs.Accepted.{Right}
use Rattle.spec.specs.declared.Answer.TheVariants.{Accept}
use Rattle.spec.proofs.Figure5.{conditions_derive, derivation_meets_conditions}
use Rattle.spec.proofs.Reached.{Reached, reached, reached_checked}

pub accept_goes_on : (o : Result (Unit {0}) Refusal) → answer o ≡ Accept → o ≡ Ok tt
unfolding answer
accept_goes_on (Err r) h = let clash : ◌≡◌ {A = ℕ} 0 1 = cc in absurd (omega arith)
accept_goes_on (Ok t) h = refl

accepted_reached : (room : ℕ) (p s : List ℕ) → verdict room p s ≡ Accept → Reached room p s (Ok tt)
unfolding verdict
accepted_reached room p s h = reached room p s (Ok tt) tt (accept_goes_on (checked room p s) h)

pub accepted_has_room : (room : ℕ) (p s : List ℕ) → verdict room p s ≡ Accept → workspace_size ≤ room
accepted_has_room room p s h = (accepted_reached room p s h).enough

pub accepted_is_right : (room : ℕ) (p s : List ℕ) → verdict room p s ≡ Accept → Right p s
unfolding conditions_hold
accepted_is_right room p s h =
    let r = accepted_reached room p s h in
    let (bodies, root) = conditions_derive r.S r.P r.outcome in
    record {
      P = r.P;
      S = r.S;
      judgeable = r.judgeable;
      bodies = bodies;
      derives = root;
    }

pub right_is_accepted : (room : ℕ) (p s : List ℕ) → workspace_size ≤ room → Right p s → verdict room p s ≡ Accept
unfolding verdict answer conditions_hold
right_is_accepted room p s enough r = ap answer (reached_checked room p s (Ok tt) (record {
  P = r.P;
  S = r.S;
  enough = enough;
  judgeable = r.judgeable;
  outcome = derivation_meets_conditions r.S r.P r.bodies r.derives;
}))

-- with room enough, ACCEPT is the answer exactly when the pair is right
pub accepted_exactly_right : (room : ℕ) (p s : List ℕ) → workspace_size ≤ room → verdict room p s ≡ Accept ↔ Right p s
accepted_exactly_right room p s enough = (accepted_is_right room p s, right_is_accepted room p s enough)
