-- What it is for a refusal to name the first false condition, and for conditions to stand in order.
use Rattle.std.specs.Prelude.{◌≡◌, List, [], ◌∷◌, ◌++◌, Bool, true, ℕ, ◌<◌, None, Some}
use Rattle.spec.specs.Program.{Program}
use Rattle.spec.specs.Split.{Split}
use Rattle.spec.specs.Conditions.{Condition, T, F, A}
use Rattle.spec.specs.StepContexts.{NumberedCondition, claims_of}
use Rattle.spec.specs.Accepted.{Judgeable}
use Rattle.spec.specs.declared.Location.{Location}
use Rattle.spec.specs.declared.Refusal.{Refusal}
use Rattle.spec.specs.declared.Refusal.TheVariants.{TypeFalse, FlowFalse, AccessFalse}
use Rattle.spec.specs.declared.Purpose.TheVariants.{Check}

-- a condition holds: its test comes out true, or no location fails it
unfoldable pub Holds : Condition → Type 0
Holds (T b) = b ≡ true
Holds (F o) = o ≡ None
Holds (A b p) = b ≡ true

-- Q holds of each entry of a list
abbrev pub Every : {A : Type 0} → (A → Type 0) → List A → Type 0
Every Q [] = Unit {0}
Every Q (x ∷ xs) = Q x × Every Q xs

unfoldable pub AllHold : List NumberedCondition → Type 0
AllHold = Every (λ c. Holds c.condition)

-- the refusal of condition i at line k: "first false condition: (T), (F), (A)"; "Location is 0 for (T), the lowest failing
-- one for (F) [..], p for (A)"
pub data Names (k i : ℕ) : Condition → Refusal → Type 0 where
  type : {b : Bool} → Names k i (T b) (TypeFalse k i)
  flow : {l : ℕ} → Names k i (F (Some l)) (FlowFalse k i (record { 0 = l }))
  access : {b : Bool} {p : Location} → Names k i (A b p) (AccessFalse k i p)

-- r names a claim of the list that does not hold, and all before it hold
pub record FirstFalse (all : List NumberedCondition) (r : Refusal) : Type 0 where
  pub before : List NumberedCondition
  pub here : NumberedCondition
  pub after : List NumberedCondition
  pub parted : all ≡ before ++ here ∷ after
  pub hold_before : AllHold before
  pub is_false : Holds here.condition → ⊥
  pub named : Names here.line here.number here.condition r

-- ------------------------------------------------------------------ order

-- "conditions by step line, then by number"
pub data Earlier (c d : NumberedCondition) : Type 0 where
  by_line : c.line < d.line → Earlier c d
  by_number : c.line ≡ d.line → c.number < d.number → Earlier c d

-- each claim is earlier than every one behind it
unfoldable pub InOrder : List NumberedCondition → Type 0
InOrder [] = Unit {0}
InOrder (c ∷ cs) = Every (Earlier c) cs × InOrder cs

-- ------------------------------------------------------------------ a pair of sheets

-- what a refusal 31 to 33 says of a pair: what is judged before the conditions is passed, the conditions stand by line, of a step or a
-- `proc` line, and then by number, and r names the first that is false
pub record Refuted (program_text split_text : List ℕ) (r : Refusal) : Type 0 where
  pub P : Program
  pub S : Split
  pub judgeable : Judgeable Check program_text split_text P S
  pub in_order : InOrder (claims_of S P)
  pub first : FirstFalse (claims_of S P) r
