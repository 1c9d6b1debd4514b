-- Filling changes no (T) condition.
use mathlib.Core.Path.{◌≡◌, refl, ap₂, sym, ◌∙◌}
use mathlib.Core.List.{List, [], ◌∷◌, ◌++◌, map}
use Prim.Native.Nat.{ℕ, ◌+◌}
use Rattle.spec.specs.Words.{role, binding, pre_of_part, pre_of_second}
use Rattle.spec.specs.Expression.{Expr, leaf, unary, binary, line_of, Procedure}
use Rattle.spec.specs.Program.{Program}
use Rattle.spec.specs.Split.{Map, Split}
use Rattle.spec.specs.Table as entry
use Rattle.spec.specs.Table.{TypeTerm, Entry, table}
use Rattle.spec.specs.Conditions.{Env, type, post, body_start, signature, start_map, may_show, step_word, type_term, says, conditions_by, conditions_of, procedure_conditions}
use Rattle.spec.specs.Agreement.{agree}
use Rattle.spec.specs.StepContexts.{StepContext, NumberedCondition, step_contexts, numbered, claims_at, claims, body_step_contexts, claims_of_procedure, claims_of_procedures, claims_of, is_type, only}
use Rattle.spec.specs.Ranges.{InRange}
use Rattle.spec.specs.declared.Word.TheVariants.{Binary}
use Rattle.spec.proofs.Claims.{claims_append}
use Rattle.fill_theory.specs.Filled.{filled}
use Rattle.fill_theory.proofs.Kept.{type_kept, kind_kept, agree_kept, may_show_kept, contains_kept}
use Rattle.spec.proofs.Claims.{only_append}

-- two lists of step contexts have the same claims on types
record Alike (S : Split) (ss : List StepContext) (S' : Split) (ss' : List StepContext) : Type 0 where
  same : only is_type (claims S ss) ≡ only is_type (claims S' ss')

-- a step and then its parts; one part and then the other
module _ {S S' : Split} where
  step_alike : (s s' : StepContext) {ss ss' : List StepContext} → only is_type (claims_at S s) ≡ only is_type (claims_at S' s') → Alike S ss S' ss'
      → Alike S (s ∷ ss) S' (s' ∷ ss')
  unfolding claims
  step_alike s s' {ss} {ss'} p q = record {
    same = only_append is_type (claims_at S s) (claims S ss) ∙ ap₂ ◌++◌ p q.same ∙ sym (only_append is_type (claims_at S' s') (claims S' ss'));
  }

  both_alike : {xs ys xs' ys' : List StepContext} → Alike S xs S' xs' → Alike S ys S' ys' → Alike S (xs ++ ys) S' (xs' ++ ys')
  both_alike {xs} {ys} {xs'} {ys'} p q = record {
    same = rw (
      claims_append S xs ys,
      claims_append S' xs' ys',
      only_append is_type (claims S xs) (claims S ys),
      only_append is_type (claims S' xs') (claims S' ys'),
    ) (ap₂ ◌++◌ p.same q.same);
  }

-- two lists of claims, one behind the other
both_kept : (xs ys xs' ys' : List NumberedCondition) → only is_type xs ≡ only is_type xs' → only is_type ys ≡ only is_type ys' → only is_type (xs ++ ys) ≡ only is_type (xs' ++ ys')
both_kept xs ys xs' ys' p q = only_append is_type xs ys ∙ ap₂ ◌++◌ p q ∙ sym (only_append is_type xs' ys')

module _ {P : Program} {S : Split} (R : InRange P S) (σ : List Map) where
  abbrev S' : Split
  S' = filled S σ

  -- the claims on types at a step, whatever its pre
  abbrev own_types : Split → Env → Map → Expr → List NumberedCondition
  own_types T Γ pre e = only is_type (claims_at T (record { Γ = Γ; pre = pre; step = e }))

  module _ (Γ : Env) (pre pre' : Map) (e : Expr) where
    term_kept : (t : TypeTerm) → type_term S' Γ pre e t ≡ type_term S Γ pre' e t
    unfolding signature filled
    term_kept (entry.type_of p) = type_kept S σ _
    term_kept entry.type_of_its_let = refl
    term_kept entry.result = refl
    term_kept entry.argument = refl

    entries_kept : (n i : ℕ) (xs : List Entry)
        → only is_type (numbered n i (map (says S' Γ pre e (agree S') (may_show S')) xs)) ≡ only is_type (numbered n i (map (says S Γ pre' e (agree S) (may_show S)) xs))
    unfolding numbered only is_type
    entries_kept n i [] = refl
    entries_kept n i (entry.◌a◌ p k ∷ xs) = rw (kind_kept S σ _, entries_kept n (i + 1) xs)
    entries_kept n i (entry.◌is◌ p t ∷ xs) = rw (type_kept S σ _, term_kept t, agree_kept R σ _ _, entries_kept n (i + 1) xs)
    entries_kept n i (entry.◌shows◌ p t ∷ xs) = rw (type_kept S σ _, term_kept t, may_show_kept R σ _ _, entries_kept n (i + 1) xs)
    entries_kept n i (entry.◌is_c_of◌ p q ∷ xs) = rw (type_kept S σ _, kind_kept S σ _, contains_kept R σ _ _, entries_kept n (i + 1) xs)
    entries_kept n i (entry.◌＝◌ l m ∷ xs) = entries_kept n (i + 1) xs
    entries_kept n i (entry.◌≧◌ l m ∷ xs) = entries_kept n (i + 1) xs
    entries_kept n i (entry.N×◌≦◌ l m ∷ xs) = entries_kept n (i + 1) xs
    entries_kept n i (entry.◌⊕◌＝◌ l m k ∷ xs) = entries_kept n (i + 1) xs
    entries_kept n i (entry.◌＝◌⊕◌ l m k ∷ xs) = entries_kept n (i + 1) xs
    entries_kept n i (entry.post_at_p＞0 ∷ xs) = entries_kept n (i + 1) xs
    entries_kept n i (entry.post_at_p≧D ∷ xs) = entries_kept n (i + 1) xs

    conditions_kept : own_types S' Γ pre e ≡ own_types S Γ pre' e
    unfolding claims_at conditions_of conditions_by
    conditions_kept = entries_kept (line_of e) 1 (table (step_word e))

  step_contexts_alike : (Γ : Env) (pre pre' : Map) (e : Expr) → Alike S' (step_contexts S' Γ pre e) S (step_contexts S Γ pre' e)
  unfolding step_contexts claims
  step_contexts_alike Γ pre pre' (leaf w k v) = step_alike _ _ (conditions_kept Γ pre pre' (leaf w k v)) (record { same = refl })
  step_contexts_alike Γ pre pre' (unary w k v e₁) =
      let e = unary w k v e₁ in
      let of_part : Split → Map → Map = λ T pre. pre_of_part w pre (post T e) in
      step_alike _ _ (conditions_kept Γ pre pre' e) (step_contexts_alike Γ (of_part S' pre) (of_part S pre') e₁)
  step_contexts_alike Γ pre pre' (binary w k v e₁ e₂) =
      let e = binary w k v e₁ e₂ in
      let of_second : Split → Map → Map = λ T pre. pre_of_second w pre (post T e₁) (body_start T e) in
      let second = step_contexts_alike (binding (role (Binary w)) (v, type S e₁) Γ) (of_second S' pre) (of_second S pre') e₂ in
      step_alike _ _ (conditions_kept Γ pre pre' e) (both_alike (step_contexts_alike Γ pre pre' e₁) (rw (type_kept S σ e₁) second))

  -- at a procedure's line
  line_kept : (f : ℕ) (q : Procedure)
      → only is_type (numbered q.line 1 (procedure_conditions S' (signature S' f) q)) ≡ only is_type (numbered q.line 1 (procedure_conditions S (signature S f) q))
  unfolding numbered procedure_conditions only is_type signature filled
  line_kept f q = simp (type_kept S σ, agree_kept R σ)

  body_kept : (f : ℕ) (q : Procedure) → only is_type (claims S' (body_step_contexts S' (signature S' f) q)) ≡ only is_type (claims S (body_step_contexts S (signature S f) q))
  unfolding body_step_contexts signature filled
  body_kept f q = (step_contexts_alike _ _ _ q.body).same

  procedures_kept_lem : (f : ℕ) (qs : List Procedure) → only is_type (claims_of_procedures S' f qs) ≡ only is_type (claims_of_procedures S f qs)
  unfolding claims_of_procedures claims_of_procedure
  procedures_kept_lem f [] = refl
  procedures_kept_lem f (q ∷ qs) = both_kept _ _ _ _ (both_kept _ _ _ _ (line_kept f q) (body_kept f q)) (procedures_kept_lem (f + 1) qs)

  pub types_kept : only is_type (claims_of S' P) ≡ only is_type (claims_of S P)
  unfolding claims_of
  types_kept = both_kept _ _ _ _ (procedures_kept_lem 0 P.procedures) (step_contexts_alike [] (start_map S') (start_map S) P.root).same
