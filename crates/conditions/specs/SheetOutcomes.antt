-- What is judged before the steps: the lock lines, then the start.
use Rattle.std.specs.Prelude.{List, ℕ, zero, suc, ◌+◌, Result, Ok}
use Rattle.spec.specs.declared.Refusal.{Refusal}
use Rattle.spec.specs.Reading.{require}
use Rattle.spec.specs.Verdict.{refuse_over}
use Rattle.spec.specs.declared.MapNumber.{MapNumber}
use Rattle.spec.specs.declared.TypeNumber.{TypeNumber}
use Rattle.spec.specs.declared.Refusal.TheVariants.{LockTakesLess}
use Rattle.workspace.specs.Layout.{type_at}
use Rattle.conditions.specs.Outcome.{both}
use Rattle.conditions.specs.Relation.{fails}
use Rattle.conditions.specs.Agreement.{takes_enough_in}
use Rattle.conditions.specs.declared.Relation.TheVariants.{Within}

-- 44, at the line of type t: types begin at line 2
unfoldable pub lock_outcome : (w : List ℕ) → (locations : ℕ) → TypeNumber → Result (Unit {0}) Refusal
lock_outcome w locations t = require (takes_enough_in w locations (type_at w t)) (LockTakesLess (t.0 + 2))

-- n types from type t on
unfoldable pub locks_outcome : (w : List ℕ) → (locations t n : ℕ) → Result (Unit {0}) Refusal
locks_outcome w locations t zero = Ok tt
locks_outcome w locations t (suc n) = both (lock_outcome w locations (record { 0 = t })) (locks_outcome w locations (t + 1) n)

-- 30, at the root's line: the lowest location at which the start is over the whole
unfoldable pub start_outcome : (line : ℕ) (w : List ℕ) → (denominator locations : ℕ) → (start : MapNumber) → Result (Unit {0}) Refusal
start_outcome line w denominator locations start = refuse_over line (fails w locations (Within start denominator))
