-- What counts of a step or a `proc` line when only its types are asked for: since a row has its conditions on types in front, the first false
-- condition of the row is on types, or no condition on types is false.
use Rattle.std.proofs.Common.{None, Some, Ok}
use mathlib.Core.Path.{◌≡◌, refl}
use mathlib.Core.Bool.{true, false}
use mathlib.Core.List.{List, [], ◌∷◌, ◌++◌}
use Prim.Native.Nat.{ℕ, ◌+◌}
use Rattle.spec.specs.Reading.{◌>>=◌}
use Rattle.spec.specs.Expression.{Expr, leaf, unary, binary, Procedure}
use Rattle.spec.specs.Split.{Map, Split}
use Rattle.spec.specs.declared.Signature.{Signature}
use Rattle.spec.specs.Conditions.{Condition, T, F, A, Env, conditions_by, conditions_of, procedure_conditions}
use Rattle.spec.specs.StepContexts.{NumberedCondition, numbered, judge, first_false, is_type, only}
use Rattle.spec.specs.Verdict.{numbers4, returned}
use Rattle.spec.specs.declared.Purpose.{Purpose}
use Rattle.spec.specs.declared.Purpose.TheVariants.{Check, Fill}
use Rattle.spec.specs.declared.LeafWord.TheVariants.{Var, Int, Newtid, Newlock, Newsem, Newrwlock}
use Rattle.spec.specs.declared.UnaryWord.TheVariants.{While, Join, Ref, Read, Lock, Unlock, Post, Wait, Rdlock, Rdunlock, Wrlock, Wrunlock, Call}
use Rattle.spec.specs.declared.BinaryWord.TheVariants.{Let, If, Spawn, Write}
use Rattle.spec.proofs.Claims.{only_append}
use Rattle.conditions.specs.Outcome.{first_false_from}
use Rattle.step_walk.specs.Walk.{refuses_types, on_types, counted}
use Rattle.step_walk.specs.Asked.{asked}

pub asked_append : (purpose : Purpose) (xs ys : List NumberedCondition) → asked purpose (xs ++ ys) ≡ asked purpose xs ++ asked purpose ys
unfolding asked
asked_append Check xs ys = refl
asked_append Fill xs ys = only_append is_type xs ys

pub asked_none : (purpose : Purpose) → asked purpose [] ≡ []
unfolding asked only
asked_none Check = refl
asked_none Fill = refl

-- ------------------------------------------------------------------ rows

-- no condition is on types
NoTypes : List Condition → Type 0
NoTypes [] = Unit {0}
NoTypes (T b ∷ cs) = ⊥
NoTypes (F o ∷ cs) = NoTypes cs
NoTypes (A b p ∷ cs) = NoTypes cs

-- the conditions on types are in front
TypesFirst : List Condition → Type 0
TypesFirst [] = Unit {0}
TypesFirst (T b ∷ cs) = TypesFirst cs
TypesFirst (F o ∷ cs) = NoTypes cs
TypesFirst (A b p ∷ cs) = NoTypes cs

row_types_first : (S : Split) (Γ : Env) (pre : Map) (e : Expr) → TypesFirst (conditions_of S Γ pre e)
unfolding conditions_by conditions_of TypesFirst NoTypes
row_types_first S Γ pre (leaf Var k v) = tt
row_types_first S Γ pre (leaf Int k v) = tt
row_types_first S Γ pre (binary Let k v e₁ e₂) = tt
row_types_first S Γ pre (binary If k v e₁ e₂) = tt
row_types_first S Γ pre (unary While k v e₁) = tt
row_types_first S Γ pre (leaf Newtid k v) = tt
row_types_first S Γ pre (binary Spawn k v e₁ e₂) = tt
row_types_first S Γ pre (unary Join k v e₁) = tt
row_types_first S Γ pre (unary Ref k v e₁) = tt
row_types_first S Γ pre (binary Write k v e₁ e₂) = tt
row_types_first S Γ pre (unary Read k v e₁) = tt
row_types_first S Γ pre (leaf Newlock k v) = tt
row_types_first S Γ pre (unary Lock k v e₁) = tt
row_types_first S Γ pre (unary Unlock k v e₁) = tt
row_types_first S Γ pre (leaf Newsem k v) = tt
row_types_first S Γ pre (unary Post k v e₁) = tt
row_types_first S Γ pre (unary Wait k v e₁) = tt
row_types_first S Γ pre (leaf Newrwlock k v) = tt
row_types_first S Γ pre (unary Rdlock k v e₁) = tt
row_types_first S Γ pre (unary Rdunlock k v e₁) = tt
row_types_first S Γ pre (unary Wrlock k v e₁) = tt
row_types_first S Γ pre (unary Wrunlock k v e₁) = tt
row_types_first S Γ pre (unary Call k v e₁) = tt

-- ------------------------------------------------------------------ outcomes

module _ (line : ℕ) where
  -- of the types, a row without any says nothing
  no_types_asked : (i : ℕ) (cs : List Condition) → NoTypes cs → only is_type (numbered line i cs) ≡ []
  unfolding NoTypes numbered only is_type
  no_types_asked i [] h = refl
  no_types_asked i (T b ∷ cs) h = absurd h
  no_types_asked i (F o ∷ cs) h = no_types_asked (i + 1) cs h
  no_types_asked i (A b p ∷ cs) h = no_types_asked (i + 1) cs h

  no_types_counted : (i : ℕ) (cs : List Condition) → NoTypes cs → on_types (first_false_from line i cs) ≡ Ok tt
  unfolding NoTypes refuses_types on_types first_false_from numbered first_false judge ◌>>=◌ returned numbers4
  no_types_counted i [] h = refl
  no_types_counted i (T b ∷ cs) h = absurd h
  no_types_counted i (F None ∷ cs) h = no_types_counted (i + 1) cs h
  no_types_counted i (F (Some l) ∷ cs) h = refl
  no_types_counted i (A true p ∷ cs) h = no_types_counted (i + 1) cs h
  no_types_counted i (A false p ∷ cs) h = refl

  types_counted_lem : (i : ℕ) (cs : List Condition) → TypesFirst cs → on_types (first_false_from line i cs) ≡ first_false (only is_type (numbered line i cs))
  unfolding TypesFirst refuses_types on_types first_false_from numbered first_false judge only is_type ◌>>=◌ returned numbers4
  types_counted_lem i [] h = refl
  types_counted_lem i (T true ∷ cs) h = types_counted_lem (i + 1) cs h
  types_counted_lem i (T false ∷ cs) h = refl
  types_counted_lem i (F None ∷ cs) h = rw (no_types_asked (i + 1) cs h) (no_types_counted (i + 1) cs h)
  types_counted_lem i (F (Some l) ∷ cs) h = rw (no_types_asked (i + 1) cs h)
  types_counted_lem i (A true p ∷ cs) h = rw (no_types_asked (i + 1) cs h) (no_types_counted (i + 1) cs h)
  types_counted_lem i (A false p ∷ cs) h = rw (no_types_asked (i + 1) cs h)

  -- what counts of a row is its first false claim of those that are asked for
  first_counted : (purpose : Purpose) (cs : List Condition) → TypesFirst cs
      → counted purpose (first_false_from line 1 cs) ≡ first_false (asked purpose (numbered line 1 cs))
  unfolding counted asked first_false_from
  first_counted Check cs h = refl
  first_counted Fill cs h = types_counted_lem 1 cs h

  pub row_counted : (purpose : Purpose) (S : Split) (Γ : Env) (pre : Map) (e : Expr)
      → counted purpose (first_false_from line 1 (conditions_of S Γ pre e)) ≡ first_false (asked purpose (numbered line 1 (conditions_of S Γ pre e)))
  row_counted purpose S Γ pre e = first_counted purpose (conditions_of S Γ pre e) (row_types_first S Γ pre e)

  pub procedure_counted : (purpose : Purpose) (S : Split) (g : Signature) (p : Procedure)
      → counted purpose (first_false_from line 1 (procedure_conditions S g p)) ≡ first_false (asked purpose (numbered line 1 (procedure_conditions S g p)))
  unfolding procedure_conditions TypesFirst NoTypes
  procedure_counted purpose S g p = first_counted purpose (procedure_conditions S g p) tt
