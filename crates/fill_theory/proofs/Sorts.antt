-- The claims of one sort, of two lists of claims; and both sorts together.
use mathlib.Core.Path.{sym, subst}
use mathlib.Core.Bool.{Bool}
use mathlib.Core.List.{List, [], ◌∷◌, ◌++◌}
use mathlib.Core.Logic.{◌↔◌}
use Prim.Native.Nat.{ℕ}
use Rattle.spec.specs.Split.{Split}
use Rattle.spec.specs.Conditions.{Condition, T, F, A}
use Rattle.spec.specs.StepContexts.{StepContext, NumberedCondition, claims_at, claims, is_type, is_flow, only}
use Rattle.spec.specs.FirstFalse.{AllHold}
use Rattle.spec.proofs.Claims.{only_append, all_hold_parts, all_hold_append, OfEach}

module _ (sort : Condition → Bool) where
  -- all claims of the sort hold at each of the step contexts
  abbrev pub AllAt : Split → List StepContext → Type 0
  AllAt S ss = AllHold (only sort (claims S ss))

  abbrev pub OwnAt : Split → StepContext → Type 0
  OwnAt S s = AllHold (only sort (claims_at S s))

  -- the claims of two lists
  pub only_parts : (xs ys : List NumberedCondition) → AllHold (only sort (xs ++ ys)) → AllHold (only sort xs) × AllHold (only sort ys)
  only_parts xs ys h = all_hold_parts (only sort xs) (only sort ys) (subst AllHold (only_append sort xs ys) h)

  pub parts_only : (xs ys : List NumberedCondition) → AllHold (only sort xs) → AllHold (only sort ys) → AllHold (only sort (xs ++ ys))
  parts_only xs ys p q = subst AllHold (sym (only_append sort xs ys)) (all_hold_append (only sort xs) (only sort ys) p q)

  pub sort_each : OfEach (λ cs. AllHold (only sort cs))
  sort_each = record { parts = only_parts; whole = parts_only }

-- all claims hold exactly when those on types do and those on flow and access do
abbrev Sorts : List NumberedCondition → Type 0
Sorts cs = AllHold (only is_type cs) × AllHold (only is_flow cs)

pub all_hold_sorts : (cs : List NumberedCondition) → AllHold cs ↔ Sorts cs
unfolding AllHold only is_type is_flow
all_hold_sorts [] = (λ h. (tt, tt), λ h. tt)
all_hold_sorts (c ∷ cs) = go c.line c.number c.condition (all_hold_sorts cs)
  where
    go : (k i : ℕ) (d : Condition) → AllHold cs ↔ Sorts cs
        → AllHold (record { line = k; number = i; condition = d } ∷ cs) ↔ Sorts (record { line = k; number = i; condition = d } ∷ cs)
    go k i (T b) r = (λ h. let s = r.0 h.1 in ((h.0, s.0), s.1), λ s. (s.0.0, r.1 (s.0.1, s.1)))
    go k i (F o) r = (λ h. let s = r.0 h.1 in (s.0, (h.0, s.1)), λ s. (s.1.0, r.1 (s.0, s.1.1)))
    go k i (A b p) r = (λ h. let s = r.0 h.1 in (s.0, (h.0, s.1)), λ s. (s.1.0, r.1 (s.0, s.1.1)))
