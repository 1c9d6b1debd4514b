-- The first false claim of step contexts, of those that are asked for, one step context after the other.
use Rattle.std.proofs.Common.{Result, Ok}
use mathlib.Core.Path.{◌≡◌, refl, ap, sym, ◌∙◌}
use mathlib.Core.List.{List, [], ◌∷◌, ◌++◌}
use Rattle.spec.specs.declared.Refusal.{Refusal}
use Rattle.spec.specs.Reading.{◌>>=◌}
use Rattle.spec.specs.Split.{Split}
use Rattle.spec.specs.StepContexts.{StepContext, NumberedCondition, claims_at, claims, judge, first_false}
use Rattle.spec.specs.declared.Purpose.{Purpose}
use Rattle.spec.proofs.Claims.{claims_append as sites_append}
use Rattle.conditions.specs.Outcome.{both}
use Rattle.conditions.proofs.FirstFalse.{both_met, both_assoc}
use Rattle.step_walk.specs.Asked.{asked}
use Rattle.step_walk.proofs.Asked.{asked_append, asked_none}

first_append : (xs ys : List NumberedCondition) → first_false (xs ++ ys) ≡ both (first_false xs) (first_false ys)
unfolding first_false both ◌>>=◌
first_append [] ys = refl
first_append (c ∷ cs) ys =
    rw (first_append cs ys) (sym (both_assoc (judge c.line c.number c.condition) (first_false cs) (first_false ys)))

module _ (purpose : Purpose) where
  -- the first false claim of those that are asked for
  abbrev pub first_asked : List NumberedCondition → Result (Unit {0}) Refusal
  first_asked cs = first_false (asked purpose cs)

  pub asked_parts : (xs ys : List NumberedCondition) → first_asked (xs ++ ys) ≡ both (first_asked xs) (first_asked ys)
  asked_parts xs ys = ap first_false (asked_append purpose xs ys) ∙ first_append (asked purpose xs) (asked purpose ys)

  pub none_asked : first_asked [] ≡ Ok tt
  unfolding first_false
  none_asked = ap first_false (asked_none purpose)

  module _ (S : Split) where
    pub claims_first : (s : StepContext) (ss : List StepContext)
        → first_asked (claims S (s ∷ ss)) ≡ both (first_asked (claims_at S s)) (first_asked (claims S ss))
    unfolding claims
    claims_first s ss = asked_parts (claims_at S s) (claims S ss)

    pub claims_one : (s : StepContext) → first_asked (claims S (s ∷ [])) ≡ first_asked (claims_at S s)
    unfolding claims
    claims_one s = asked_parts (claims_at S s) [] ∙ rw none_asked (both_met (first_asked (claims_at S s)))

    pub claims_append : (ss rs : List StepContext)
        → first_asked (claims S (ss ++ rs)) ≡ both (first_asked (claims S ss)) (first_asked (claims S rs))
    claims_append ss rs = ap first_asked (sites_append S ss rs) ∙ asked_parts (claims S ss) (claims S rs)
