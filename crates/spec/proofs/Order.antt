-- The conditions of a program stand by line, then by number: the lines of its steps and of its procedures rise, and those of one line
-- are numbered.
use mathlib.Core.Path.{◌≡◌, refl, ap, sym, ◌∙◌}
use mathlib.Core.List.{List, [], ◌∷◌, ◌++◌, map, map-append, append_assoc}
use Prim.Native.Nat.{ℕ, ◌+◌, ◌≤◌, ◌<◌}
use native.Mathlib.Omega.{arith}
use Rattle.spec.specs.Expression.{Step, Expr, leaf, unary, binary, line_of, step, line_of_item, Procedure}
use Rattle.spec.specs.Program.{Program}
use Rattle.spec.specs.Split.{Map, Split}
use Rattle.spec.specs.Conditions.{Condition, Env, start_map, signature, conditions_of, procedure_conditions}
use Rattle.spec.specs.StepContexts.{StepContext, step_contexts, NumberedCondition, numbered, claims_at, claims, body_step_contexts, claims_of_procedure, claims_of_procedures, claims_of}
use Rattle.spec.specs.WellFormed.{prefix, items_of, listing}
use Rattle.spec.specs.FirstFalse.{Every, Earlier, by_line, by_number, InOrder}
use Rattle.spec.proofs.StepLines.{Rising}

-- ------------------------------------------------------------------ one step, and the claims behind it

-- the claims stand on lines from lo on
unfoldable From : (lo : ℕ) → List NumberedCondition → Type 0
From lo [] = Unit {0}
From lo (c ∷ cs) = (lo ≤ c.line) × From lo cs

from_lower : (lo hi : ℕ) (cs : List NumberedCondition) → lo ≤ hi → From hi cs → From lo cs
unfolding From
from_lower lo hi [] l h = tt
from_lower lo hi (c ∷ cs) l h = (omega (arith, h.0), from_lower lo hi cs l h.1)

module _ (k : ℕ) (behind : List NumberedCondition) (from : From (k + 1) behind) where
  earlier_than_behind : (i : ℕ) (c : Condition) (cs : List NumberedCondition) → From (k + 1) cs → Every (Earlier (record { line = k; number = i; condition = c })) cs
  unfolding From
  earlier_than_behind i c [] h = tt
  earlier_than_behind i c (d ∷ ds) h = (by_line (omega (arith, h.0)), earlier_than_behind i c ds h.1)

  earlier_than_all : (i j : ℕ) (c : Condition) (cs : List Condition) → i < j
      → Every (Earlier (record { line = k; number = i; condition = c })) (numbered k j cs ++ behind)
  unfolding numbered
  earlier_than_all i j c [] h = earlier_than_behind i c behind from
  earlier_than_all i j c (d ∷ ds) h = (by_number refl h, earlier_than_all i (j + 1) c ds (omega arith))

  numbered_in_order : (i : ℕ) (cs : List Condition) → InOrder behind → InOrder (numbered k i cs ++ behind)
  unfolding InOrder numbered
  numbered_in_order i [] order = order
  numbered_in_order i (c ∷ cs) order = (earlier_than_all i (i + 1) c cs (omega arith), numbered_in_order (i + 1) cs order)

  numbered_from : (i : ℕ) (cs : List Condition) → From k (numbered k i cs ++ behind)
  unfolding From numbered
  numbered_from i [] = from_lower k (k + 1) behind (omega arith) from
  numbered_from i (c ∷ cs) = (omega arith, numbered_from (i + 1) cs)

-- ------------------------------------------------------------------ lines that rise

-- a line with its conditions
abbrev Judged : Type 0
Judged = ℕ × List Condition

abbrev line_of_judged : Judged → ℕ
line_of_judged j = j.0

unfoldable claims_all : List Judged → List NumberedCondition
claims_all [] = []
claims_all (j ∷ js) = numbered j.0 1 j.1 ++ claims_all js

claims_all_append : (js ks : List Judged) → claims_all (js ++ ks) ≡ claims_all js ++ claims_all ks
unfolding claims_all
claims_all_append [] ks = refl
claims_all_append (j ∷ js) ks = rw (claims_all_append js ks, append_assoc (numbered j.0 1 j.1) (claims_all js) (claims_all ks))

rising_in_order : (lo : ℕ) (js : List Judged) → Rising lo (map line_of_judged js) → InOrder (claims_all js) × From lo (claims_all js)
unfolding Rising claims_all InOrder From
rising_in_order lo [] h = (tt, tt)
rising_in_order lo ((k, cs) ∷ js) h =
    let (order, from) = rising_in_order (k + 1) js h.1 in
    (numbered_in_order k (claims_all js) from 1 cs order, from_lower lo k (numbered k 1 cs ++ claims_all js) h.0 (numbered_from k (claims_all js) from 1 cs))

-- ------------------------------------------------------------------ the lines of a program

module _ (S : Split) where
  abbrev judged_at : StepContext → Judged
  judged_at s = (line_of s.step, conditions_of S s.Γ s.pre s.step)

  abbrev judged_of : List StepContext → List Judged
  judged_of ss = map judged_at ss

  claims_judged : (ss : List StepContext) → claims S ss ≡ claims_all (judged_of ss)
  unfolding claims claims_at claims_all
  claims_judged [] = refl
  claims_judged (s ∷ ss) = ap (claims_at S s ++◌) (claims_judged ss)

  -- of the procedures from number f on, and of the root
  unfoldable judged_from : (f : ℕ) → List Procedure → Expr → List Judged
  judged_from f [] root = judged_of (step_contexts S [] (start_map S) root)
  judged_from f (p ∷ ps) root =
      (p.line, procedure_conditions S (signature S f) p) ∷ (judged_of (body_step_contexts S (signature S f) p) ++ judged_from (f + 1) ps root)

  program_judged : (f : ℕ) (ps : List Procedure) (root : Expr)
      → claims_of_procedures S f ps ++ claims S (step_contexts S [] (start_map S) root) ≡ claims_all (judged_from f ps root)
  unfolding claims_of_procedures claims_of_procedure claims_all judged_from
  program_judged f [] root = claims_judged (step_contexts S [] (start_map S) root)
  program_judged f (p ∷ ps) root =
      let g = signature S f in
      let own = numbered p.line 1 (procedure_conditions S g p) in
      let body = claims S (body_step_contexts S g p) in
      let rest = claims S (step_contexts S [] (start_map S) root) in
      append_assoc (own ++ body) (claims_of_procedures S (f + 1) ps) rest
      ∙ append_assoc own body (claims_of_procedures S (f + 1) ps ++ rest)
      ∙ ap (λ cs. own ++ (body ++ cs)) (program_judged (f + 1) ps root)
      ∙ ap (λ cs. own ++ (cs ++ claims_all (judged_from (f + 1) ps root))) (claims_judged (body_step_contexts S g p))
      ∙ ap (own ++◌) (sym (claims_all_append (judged_of (body_step_contexts S g p)) (judged_from (f + 1) ps root)))

  -- step contexts stand on the lines of their steps
  abbrev line_of_step_context : StepContext → ℕ
  line_of_step_context s = line_of s.step

  abbrev line_of_step : Step → ℕ
  line_of_step s = s.line

  step_context_lines : (e : Expr) (Γ : Env) (pre : Map) → map line_of_step_context (step_contexts S Γ pre e) ≡ map line_of_step (prefix e)
  unfolding step_contexts prefix line_of
  step_context_lines (leaf w k v) Γ pre = refl
  step_context_lines (unary w k v e₁) Γ pre = ap (k.line ∷◌) (step_context_lines e₁ Γ _)
  step_context_lines (binary w k v e₁ e₂) Γ pre =
      rw (map-append line_of_step_context (step_contexts S Γ pre e₁) _, map-append line_of_step (prefix e₁) (prefix e₂), step_context_lines e₁ Γ pre, step_context_lines e₂ _ _)

  judged_lines : (ss : List StepContext) → map line_of_judged (judged_of ss) ≡ map line_of_step_context ss
  judged_lines [] = refl
  judged_lines (s ∷ ss) = ap (line_of s.step ∷◌) (judged_lines ss)

  step_lines : (ss : List Step) → map line_of_item (map step ss) ≡ map line_of_step ss
  unfolding line_of_item
  step_lines [] = refl
  step_lines (s ∷ ss) = ap (s.line ∷◌) (step_lines ss)

  expression_lines : (Γ : Env) (pre : Map) (e : Expr) → map line_of_judged (judged_of (step_contexts S Γ pre e)) ≡ map line_of_item (items_of e)
  unfolding items_of
  expression_lines Γ pre e = judged_lines (step_contexts S Γ pre e) ∙ step_context_lines e Γ pre ∙ sym (step_lines (prefix e))

  program_lines_lem : (f : ℕ) (ps : List Procedure) (root : Expr) → map line_of_judged (judged_from f ps root) ≡ map line_of_item (listing ps root)
  unfolding listing body_step_contexts line_of_item judged_from
  program_lines_lem f [] root = expression_lines [] (start_map S) root
  program_lines_lem f (p ∷ ps) root =
      let body = body_step_contexts S (signature S f) p in
      ap (p.line ∷◌) (map-append line_of_judged (judged_of body) (judged_from (f + 1) ps root)
      ∙ ap (◌++ map line_of_judged (judged_from (f + 1) ps root)) (expression_lines _ _ p.body)
      ∙ ap (map line_of_item (items_of p.body) ++◌) (program_lines_lem (f + 1) ps root)
      ∙ sym (map-append line_of_item (items_of p.body) (listing ps root)))

  pub claims_in_order : (P : Program) (lo : ℕ) → Rising lo (map line_of_item (listing P.procedures P.root)) → InOrder (claims_of S P)
  unfolding claims_of
  claims_in_order P lo h =
      rw (program_judged 0 P.procedures P.root)
      (rising_in_order lo (judged_from 0 P.procedures P.root) (rw (program_lines_lem 0 P.procedures P.root) h)).0
