-- What the conditions of one step come to, from what the work space shows of it.
use Rattle.std.specs.Prelude.{List, ℕ, Result}
use Rattle.workspace.specs.declared.Rule.{Rule}
use Rattle.workspace.specs.Layout.{words_at, rule_of}
use Rattle.conditions.specs.Outcome.{first_false_from}
use Rattle.rule_rows.specs.StepView.{cell, view_of}
use Rattle.spec.specs.declared.Refusal.{Refusal}
use Rattle.rule_rows.specs.Table.{rule_row}

-- the conditions of step k with the rule r, in order
unfoldable pub rule_outcome : Rule → (w : List ℕ) → (locations denominator k : ℕ) → Result (Unit {0}) Refusal
rule_outcome r w locations denominator k =
    let s = view_of w locations denominator k in
    first_false_from s.line 1 (rule_row r w s)

-- the conditions of step k
unfoldable pub step_outcome : (w : List ℕ) → (locations denominator k : ℕ) → Result (Unit {0}) Refusal
step_outcome w locations denominator k = rule_outcome (rule_of (cell w words_at k)) w locations denominator k
