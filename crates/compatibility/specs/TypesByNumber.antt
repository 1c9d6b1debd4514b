-- Request (i), "The same type under two numbers". Before it two types agreed when their numbers agreed.
use Rattle.std.specs.Prelude.{◌≡◌, List, [], ◌∷◌, ◌++◌, Bool, ℕ, ◌+◌, eqb, Result}
use Rattle.spec.specs.declared.Refusal.{Refusal}
use Rattle.spec.specs.Expression.{Expr, line_of, Procedure}
use Rattle.spec.specs.Program.{Program, program}
use Rattle.spec.specs.Split.{Map, Split, split, map_at}
use Rattle.spec.specs.declared.Signature.{Signature}
use Rattle.spec.specs.Maps.{◌≥ᵐ◌}
use Rattle.spec.specs.Conditions.{Condition, T, F, Env, type, post, start_map, signature, conditions_by}
use Rattle.spec.specs.StepContexts.{StepContext, step_contexts, NumberedCondition, numbered, body_step_contexts, first_false}
use Rattle.spec.specs.Verdict.{verdict}
use Rattle.spec.specs.declared.TypeNumber.{TypeNumber}
use Rattle.spec.specs.declared.Answer.{Answer}
use Rattle.spec.specs.declared.Answer.TheVariants.{Accept}
use Rattle.spec.specs.declared.Purpose.TheVariants.{Check}
use Rattle.compatibility.specs.Judging.{verdict_by}

unfoldable pub agree_by_number : TypeNumber → TypeNumber → Bool
agree_by_number t u = eqb t.0 u.0

module _ (S : Split) where
  -- the table, with types compared so, on var lines too
  unfoldable pub conditions_by_number : Env → (pre : Map) → Expr → List Condition
  conditions_by_number Γ pre e = conditions_by S Γ pre e agree_by_number agree_by_number

  unfoldable pub procedure_conditions_by_number : Signature → Procedure → List Condition
  procedure_conditions_by_number g p = T (agree_by_number (type S p.body) g.result) ∷ F (post S p.body ≥ᵐ map_at S g.after) ∷ []

  -- the claims of a program in their order, as Sites.antt of crates/spec has them
  unfoldable pub claims_by_number : List StepContext → List NumberedCondition
  claims_by_number [] = []
  claims_by_number (s ∷ ss) = numbered (line_of s.step) 1 (conditions_by_number s.Γ s.pre s.step) ++ claims_by_number ss

  unfoldable pub claims_of_procedure_by_number : Signature → Procedure → List NumberedCondition
  claims_of_procedure_by_number g p = numbered p.line 1 (procedure_conditions_by_number g p) ++ claims_by_number (body_step_contexts S g p)

  unfoldable pub claims_of_procedures_by_number : (f : ℕ) → List Procedure → List NumberedCondition
  claims_of_procedures_by_number f [] = []
  claims_of_procedures_by_number f (p ∷ ps) = claims_of_procedure_by_number (signature S f) p ++ claims_of_procedures_by_number (f + 1) ps

  unfoldable pub claims_of_by_number : Program → List NumberedCondition
  claims_of_by_number P = claims_of_procedures_by_number 0 P.procedures ++ claims_by_number (step_contexts S [] (start_map S) P.root)

unfoldable pub ruled_by_number : Program → Split → Result (Unit {0}) Refusal
ruled_by_number P S = first_false (claims_of_by_number S P)

unfoldable pub verdict_by_number : (room : ℕ) → (program_text split_text : List ℕ) → Answer
verdict_by_number = verdict_by program (split Check) ruled_by_number

-- "Pairs accepted before remain accepted"
abbrev pub AcceptedStay : Type 0
AcceptedStay = (room : ℕ) (p s : List ℕ) → verdict_by_number room p s ≡ Accept → verdict room p s ≡ Accept
