-- Every step of a program in line order, with what surrounds it, and the first condition that is false.
use Rattle.std.specs.Prelude.{List, [], ◌∷◌, ◌++◌, Bool, true, false, ℕ, ◌+◌, None, Some, Result, Ok, Err}
use Rattle.spec.specs.declared.Refusal.{Refusal}
use Rattle.spec.specs.Choice.{when◌then◌else◌}
use Rattle.spec.specs.Reading.{◌>>=◌}
use Rattle.spec.specs.Words.{role, binding, pre_of_part, pre_of_second}
use Rattle.spec.specs.Expression.{Expr, leaf, unary, binary, line_of, Procedure}
use Rattle.spec.specs.Program.{Program}
use Rattle.spec.specs.Split.{Map, Split}
use Rattle.spec.specs.declared.Signature.{Signature}
use Rattle.spec.specs.Conditions.{Condition, T, F, A, Env, type, post, body_start, map_at, start_map, signature, conditions_of, procedure_conditions}
use Rattle.spec.specs.declared.Word.TheVariants.{Binary}
use Rattle.spec.specs.declared.Refusal.TheVariants.{TypeFalse, FlowFalse, AccessFalse}

-- ------------------------------------------------------------------ steps in line order

-- a step, with the types of the variables there and the map before it
pub record StepContext : Type 0 where
  pub Γ : Env
  pub pre : Map
  pub step : Expr

module _ (S : Split) where
  -- a let's variable has the type of e1, and only inside e2
  unfoldable pub step_contexts : Env → (pre : Map) → Expr → List StepContext
  step_contexts Γ pre (leaf w k v) = record { Γ = Γ; pre = pre; step = leaf w k v } ∷ []
  step_contexts Γ pre (unary w k v e₁) = let e = unary w k v e₁ in
      record { Γ = Γ; pre = pre; step = e } ∷ step_contexts Γ (pre_of_part w pre (post S e)) e₁
  step_contexts Γ pre (binary w k v e₁ e₂) = let e = binary w k v e₁ e₂ in
      record { Γ = Γ; pre = pre; step = e }
      ∷ (step_contexts Γ pre e₁ ++ step_contexts (binding (role (Binary w)) (v, type S e₁) Γ) (pre_of_second w pre (post S e₁) (body_start S e)) e₂)

-- ------------------------------------------------------------------ the first false condition

-- a condition with its number and its line, that of its step or of a `proc` line
pub record NumberedCondition : Type 0 where
  pub line : ℕ
  pub number : ℕ
  pub condition : Condition

unfoldable pub numbered : (line number : ℕ) → List Condition → List NumberedCondition
numbered k i [] = []
numbered k i (c ∷ cs) = record { line = k; number = i; condition = c } ∷ numbered k (i + 1) cs

-- "conditions by step line, then by number"; those of a `proc` line stand at that line
module _ (S : Split) where
  unfoldable pub claims_at : StepContext → List NumberedCondition
  claims_at s = numbered (line_of s.step) 1 (conditions_of S s.Γ s.pre s.step)

  unfoldable pub claims : List StepContext → List NumberedCondition
  claims [] = []
  claims (s ∷ ss) = claims_at s ++ claims ss

  -- "the body's pre is before and x has the argument type, as if a let had bound it to such a value"
  unfoldable pub body_step_contexts : Signature → Procedure → List StepContext
  body_step_contexts g p = step_contexts S ((p.parameter, g.argument) ∷ []) (map_at S g.before) p.body

  -- of a procedure: the conditions at its `proc` line, then those of its body
  unfoldable pub claims_of_procedure : Signature → Procedure → List NumberedCondition
  claims_of_procedure g p = numbered p.line 1 (procedure_conditions S g p) ++ claims (body_step_contexts g p)

  -- of the procedures from number f on, called or not
  unfoldable pub claims_of_procedures : (f : ℕ) → List Procedure → List NumberedCondition
  claims_of_procedures f [] = []
  claims_of_procedures f (p ∷ ps) = claims_of_procedure (signature S f) p ++ claims_of_procedures (f + 1) ps

  -- of a program: its procedures, then its root, whose pre is the start
  unfoldable pub claims_of : Program → List NumberedCondition
  claims_of P = claims_of_procedures 0 P.procedures ++ claims (step_contexts S [] (start_map S) P.root)

-- "Location is 0 for (T), the lowest failing one for (F) [..], p for (A)"
unfoldable pub judge : (line number : ℕ) → Condition → Result (Unit {0}) Refusal
judge k i (T true) = Ok tt
judge k i (T false) = Err (TypeFalse k i)
judge k i (F None) = Ok tt
judge k i (F (Some l)) = Err (FlowFalse k i (record { 0 = l }))
judge k i (A true p) = Ok tt
judge k i (A false p) = Err (AccessFalse k i p)

unfoldable pub first_false : List NumberedCondition → Result (Unit {0}) Refusal
first_false [] = Ok tt
first_false (c ∷ cs) = judge c.line c.number c.condition >>= λ holds. first_false cs

-- ------------------------------------------------------------------ claims of two sorts

unfoldable pub is_type : Condition → Bool
is_type (T b) = true
is_type (F o) = false
is_type (A b p) = false

unfoldable pub is_flow : Condition → Bool
is_flow (T b) = false
is_flow (F o) = true
is_flow (A b p) = true

-- the claims of one sort
unfoldable pub only : (Condition → Bool) → List NumberedCondition → List NumberedCondition
only sort [] = []
only sort (c ∷ cs) = when sort c.condition then c ∷ only sort cs else only sort cs
