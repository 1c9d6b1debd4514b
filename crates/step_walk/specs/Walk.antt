-- The steps in line order: what counts of each for a purpose, and the map before each, which its step hands down.
use Rattle.std.specs.Prelude.{Bool, List, ℕ, zero, suc, ◌+◌, eqb, ltb, set, Result, Ok, Err}
use Rattle.spec.specs.Choice.{when◌then◌else◌}
use Rattle.spec.specs.Words.{pre_of_part, pre_of_second}
use Rattle.spec.specs.Verdict.{returned}
use Rattle.spec.specs.declared.MapNumber.{MapNumber}
use Rattle.spec.specs.declared.Answer.TheVariants.{Refuse}
use Rattle.spec.specs.declared.Refusal.{Refusal}
use Rattle.spec.specs.declared.Purpose.{Purpose}
use Rattle.spec.specs.declared.Purpose.TheVariants.{Check, Fill}
use Rattle.spec.specs.declared.Word.{Word}
use Rattle.spec.specs.declared.Word.TheVariants.{Leaf, Unary, Binary}
use Rattle.workspace.specs.Layout.{words_at, ends_at, posts_at, starts_at, pres_at, word_of}
use Rattle.conditions.specs.Outcome.{both}
use Rattle.rule_rows.specs.StepView.{cell}
use Rattle.rule_table.specs.Outcome.{step_outcome}
use Rattle.step_walk.specs.declared.Judging.{Judging}

-- whether a refusal is on types: one on flow or access, 32 or 33, is not
unfoldable pub refuses_types : Refusal → Bool
refuses_types r = eqb (returned (Refuse r)).number 31

-- what an outcome says of types
unfoldable pub on_types : Result (Unit {0}) Refusal → Result (Unit {0}) Refusal
on_types (Err r) = when refuses_types r then Err r else Ok tt
on_types (Ok a) = Ok tt

-- what counts of the outcome of a step or a `proc` line: when filling, what it says of types
unfoldable pub counted : Purpose → Result (Unit {0}) Refusal → Result (Unit {0}) Refusal
counted Check o = o
counted Fill o = on_types o

-- the map before step i is m
unfoldable pub put_pre : (w : List ℕ) → (i : ℕ) → MapNumber → List ℕ
put_pre w i m = when ltb i 256 then set w (pres_at + i) m.0 else w

unfoldable pub pass_word : Word → (w : List ℕ) → (k : ℕ) → (pre post post₁ start : MapNumber) → (second : ℕ) → List ℕ
pass_word (Leaf l) w k pre post post₁ start second = w
pass_word (Unary u) w k pre post post₁ start second = put_pre w (k + 1) (pre_of_part u pre post)
pass_word (Binary b) w k pre post post₁ start second =
    put_pre (put_pre w (k + 1) pre) second (pre_of_second b pre post₁ start)

-- the maps before the parts of step k
unfoldable pub pass_on : (w : List ℕ) → (k : ℕ) → List ℕ
pass_on w k =
    pass_word (word_of (cell w words_at k)) w k (record { 0 = cell w pres_at k }) (record { 0 = cell w posts_at k })
    (record { 0 = cell w (posts_at + 1) k }) (record { 0 = cell w starts_at k }) (cell w (ends_at + 1) k)

-- n steps from step k on
unfoldable pub walk : Judging → (w : List ℕ) → (k n : ℕ) → Result (Unit {0}) Refusal
walk how w k zero = Ok tt
walk how w k (suc n) = both (counted how.purpose (step_outcome w how.locations how.denominator k)) (walk how (pass_on w k) (k + 1) n)
