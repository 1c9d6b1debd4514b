-- A refusal 31 to 33 names the first condition, by line and then by number, that is false; and each such pair gets one.
use Rattle.std.proofs.Common.{Result, Ok, Err}
use mathlib.Core.Path.{◌≡◌, refl, ap}
use mathlib.Core.List.{List}
use mathlib.Core.Bool.{true}
use Prim.Native.Nat.{ℕ, ◌≤◌}
use native.Mathlib.Omega.{arith}
use Rattle.spec.specs.Conditions.{Condition}
use Rattle.spec.specs.StepContexts.{claims_of}
use Rattle.spec.specs.Workspace.{workspace_size}
use Rattle.spec.specs.Verdict.{conditions_hold, checked, answer, verdict, numbers4, returned, on_conditions}
use Rattle.spec.specs.WellFormed.{first_item_line}
use Rattle.spec.specs.FirstFalse.{Names, type, flow, access, Refuted}
use Rattle.spec.specs.declared.Answer.TheVariants.{Refuse}
use Rattle.spec.specs.declared.Refusal.{Refusal}
use Rattle.spec.proofs.Claims.{stopped_first_false, first_false_stopped}
use Rattle.spec.proofs.StepLines.{items_rise}
use Rattle.spec.proofs.Order.{claims_in_order}
use Rattle.spec.proofs.Reached.{reached, reached_checked}

refused_stopped : {r : Refusal} (o : Result (Unit {0}) Refusal) → answer o ≡ Refuse r → o ≡ Err r
unfolding answer
refused_stopped {r} (Err s) h = let same : s ≡ r = cc in ap Err same
refused_stopped (Ok t) h = let clash : ◌≡◌ {A = ℕ} 0 1 = cc in absurd (omega arith)

pub refusal_names_first_false : (room : ℕ) (p s : List ℕ) (r : Refusal) → verdict room p s ≡ Refuse r → on_conditions (returned (Refuse r)).number ≡ true
    → Refuted p s r
unfolding verdict conditions_hold
refusal_names_first_false room p s r h late =
    let c = reached room p s (Err r) late (refused_stopped (checked room p s) h) in
    record {
      P = c.P;
      S = c.S;
      judgeable = c.judgeable;
      in_order = claims_in_order c.S c.P first_item_line (items_rise _ first_item_line _ c.judgeable.sheets.program.listed);
      first = stopped_first_false (claims_of c.S c.P) c.outcome;
    }

pub first_false_is_refused : (room : ℕ) (p s : List ℕ) (r : Refusal) → workspace_size ≤ room → Refuted p s r → verdict room p s ≡ Refuse r
unfolding verdict answer conditions_hold
first_false_is_refused room p s r enough f = ap answer (reached_checked room p s (Err r) (record {
  P = f.P;
  S = f.S;
  enough = enough;
  judgeable = f.judgeable;
  outcome = first_false_stopped f.first;
}))

-- what names a condition is one of 31 to 33, so that the promise of a first false condition is about each of them
named_on_conditions : {k i : ℕ} {c : Condition} {r : Refusal} → Names k i c r → on_conditions (returned (Refuse r)).number ≡ true
unfolding returned numbers4 on_conditions
named_on_conditions type = refl
named_on_conditions flow = refl
named_on_conditions access = refl

pub refuted_on_conditions : {p s : List ℕ} {r : Refusal} → Refuted p s r → on_conditions (returned (Refuse r)).number ≡ true
refuted_on_conditions f = named_on_conditions f.first.named
