-- What the conditions at a `proc` line look at, and the body behind it.
use Rattle.std.specs.Prelude.{List, ℕ, ◌+◌, ◌-◌, Result}
use Rattle.spec.specs.declared.Refusal.{Refusal}
use Rattle.workspace.specs.Layout.{proc_lines_at, proc_firsts_at, row_types_at, posts_at, sig_befores_at}
use Rattle.conditions.specs.Outcome.{both, first_false_from}
use Rattle.rule_rows.specs.StepView.{cell, signature_of}
use Rattle.rule_rows.specs.Table.{procedure_row}
use Rattle.step_walk.specs.Walk.{counted, put_pre, walk}
use Rattle.step_walk.specs.declared.Judging.{Judging}

-- the conditions at the `proc` line of procedure f: its body begins where the next step stands
unfoldable pub procedure_outcome : (w : List ℕ) → (locations f : ℕ) → Result (Unit {0}) Refusal
procedure_outcome w locations f =
    let first = cell w proc_firsts_at f in
    first_false_from (cell w proc_lines_at f) 1
    (procedure_row w locations (signature_of w f) (record { 0 = cell w row_types_at first }) (record { 0 = cell w posts_at first }))

-- procedure f: the conditions at its line, then its body, which ends where the next one or the root begins
unfoldable pub body_outcome : Judging → (w : List ℕ) → (f : ℕ) → Result (Unit {0}) Refusal
body_outcome how w f =
    let first = cell w proc_firsts_at f in
    both (counted how.purpose (procedure_outcome w how.locations f))
    (walk how (put_pre w first (record { 0 = cell w sig_befores_at f })) first (cell w (proc_firsts_at + 1) f - first))
