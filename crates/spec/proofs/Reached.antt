-- The conditions decide exactly when all that is judged before them is passed.
use Rattle.std.proofs.Common.{Option, None, Some, Result, Ok}
use mathlib.Core.Path.{◌≡◌, refl}
use mathlib.Core.List.{List}
use Prim.Native.Nat.{ℕ, ◌≤◌}
use borrow.Author.Tests.{leb-true, le-leb}
use Rattle.spec.specs.declared.Refusal.{Refusal}
use Rattle.spec.specs.Program.{Program}
use Rattle.spec.specs.Split.{Split}
use Rattle.spec.specs.Conditions.{start_map}
use Rattle.spec.specs.Workspace.{workspace_size}
use Rattle.spec.specs.Verdict.{refuse_over, start_at_most_one, conditions_hold, checked, numbers4, returned, on_conditions}
use Rattle.spec.specs.Accepted.{Judgeable, AtMost}
use Rattle.spec.proofs.Outcomes.{stop_is_not_on, goes_on_bind, demand_goes_on, goes_on_demand}
use Rattle.spec.proofs.Maps.{none_at_most_lem, at_most_none}
use Rattle.spec.proofs.EarlyRefusals.{Late, past, early_demand, locks_early, start_early}
use Rattle.spec.proofs.Sheets.{sheets_well_formed, well_formed_sheets, sheets_early}
use Rattle.spec.specs.declared.Purpose.TheVariants.{Check}
use Rattle.spec.proofs.Locks.{locks_take_enough_lem, enough_taken}

-- ------------------------------------------------------------------ the start

over_none : {t : Unit {0}} (k : ℕ) (o : Option ℕ) → refuse_over k o ≡ Ok t → o ≡ None
unfolding refuse_over
over_none k None h = refl
over_none k (Some l) h = stop_is_not_on h

none_over : (k : ℕ) (o : Option ℕ) → o ≡ None → refuse_over k o ≡ Ok tt
unfolding refuse_over
none_over k o h = rw h

pub start_at_most_one_lem : {t : Unit {0}} (P : Program) (S : Split) → start_at_most_one P S ≡ Ok t → AtMost S.header.denominator (start_map S)
unfolding start_at_most_one
start_at_most_one_lem P S h = none_at_most_lem _ 0 _ (over_none _ _ h)

pub at_most_one_start : (P : Program) (S : Split) → AtMost S.header.denominator (start_map S) → start_at_most_one P S ≡ Ok tt
unfolding start_at_most_one
at_most_one_start P S h = none_over _ _ (at_most_none _ 0 h)

-- ------------------------------------------------------------------ the conditions

-- nothing is refused before the conditions are judged, and o is what they come to
pub record Reached (room : ℕ) (p s : List ℕ) (o : Result (Unit {0}) Refusal) : Type 0 where
  pub P : Program
  pub S : Split
  pub enough : workspace_size ≤ room
  pub judgeable : Judgeable Check p s P S
  pub outcome : conditions_hold P S ≡ o

pub reached : (room : ℕ) (p s : List ℕ) (o : Result (Unit {0}) Refusal) → Late o → checked room p s ≡ o → Reached room p s o
unfolding checked returned numbers4 on_conditions
reached room p s o late h =
    past o _ _ (early_demand _ _ refl) late h λ _ enough r₁.
    past o _ _ (sheets_early Check p s) late r₁ λ found reads r₂.
    let (P, S) = found in
    past o _ _ (locks_early S) late r₂ λ _ locks r₃.
    past o _ _ (start_early P S) late r₃ λ _ whole r₄. record {
      P = P;
      S = S;
      enough = leb-true _ _ (demand_goes_on _ _ enough);
      judgeable = record {
        sheets = sheets_well_formed Check p s reads;
        locks = locks_take_enough_lem S locks;
        at_most_one = start_at_most_one_lem P S whole;
      };
      outcome = r₄;
    }

pub reached_checked : (room : ℕ) (p s : List ℕ) (o : Result (Unit {0}) Refusal) → Reached room p s o → checked room p s ≡ o
unfolding checked
reached_checked room p s o r =
    let j = r.judgeable in
    goes_on_bind _ _ (goes_on_demand _ _ (le-leb _ _ r.enough))
    (goes_on_bind _ _ (well_formed_sheets Check p s j.sheets)
    (goes_on_bind _ _ (enough_taken r.S j.locks)
    (goes_on_bind _ _ (at_most_one_start r.P r.S j.at_most_one) r.outcome)))
