-- Claims have one order, by line and then by number; of those that are false the first is the earliest.
use mathlib.Core.Path.{◌≡◌, sym, ◌∙◌, subst}
use mathlib.Core.Logic.{◌⊎◌, inl, inr}
use mathlib.Core.List.{List, [], ◌∷◌, ◌++◌}
use Prim.Native.Nat.{◌<◌}
use native.Mathlib.Decide.{dec_lt}
use native.Mathlib.Omega.{arith}
use Rattle.spec.specs.StepContexts.{NumberedCondition}
use Rattle.spec.specs.FirstFalse.{Holds, Every, AllHold, FirstFalse, Earlier, by_line, by_number, InOrder}
use Rattle.spec.specs.declared.Refusal.{Refusal}

-- ------------------------------------------------------------------ the order

pub earlier_irreflexive : (c : NumberedCondition) → ¬ Earlier c c
earlier_irreflexive c (by_line h) = omega (arith, h)
earlier_irreflexive c (by_number e h) = omega (arith, h)

pub earlier_asymmetric : (c d : NumberedCondition) → Earlier c d → ¬ Earlier d c
earlier_asymmetric c d (by_line h) (by_line k) = omega (arith, h, k)
earlier_asymmetric c d (by_line h) (by_number e k) = omega (arith, h, e)
earlier_asymmetric c d (by_number e h) (by_line k) = omega (arith, e, k)
earlier_asymmetric c d (by_number e h) (by_number q k) = omega (arith, h, k)

pub earlier_transitive : (c d e : NumberedCondition) → Earlier c d → Earlier d e → Earlier c e
earlier_transitive c d e (by_line h) (by_line k) = by_line (omega (arith, h, k))
earlier_transitive c d e (by_line h) (by_number q k) = by_line (omega (arith, h, q))
earlier_transitive c d e (by_number p h) (by_line k) = by_line (omega (arith, p, k))
earlier_transitive c d e (by_number p h) (by_number q k) = by_number (p ∙ q) (omega (arith, h, k))

-- of two claims at different places one is earlier
pub earlier_total : (c d : NumberedCondition) → ¬ ((c.line ≡ d.line) × (c.number ≡ d.number)) → Earlier c d ⊎ Earlier d c
earlier_total c d apart = by_line_lem (dec_lt c.line d.line) (dec_lt d.line c.line)
  where
    by_number_lem : c.line ≡ d.line → Dec (c.number < d.number) → Dec (d.number < c.number) → Earlier c d ⊎ Earlier d c
    by_number_lem e (yes h) k = inl (by_number e h)
    by_number_lem e (no h) (yes k) = inr (by_number (sym e) k)
    by_number_lem e (no h) (no k) = absurd (apart (e, omega (arith, h, k)))

    by_line_lem : Dec (c.line < d.line) → Dec (d.line < c.line) → Earlier c d ⊎ Earlier d c
    by_line_lem (yes h) k = inl (by_line h)
    by_line_lem (no h) (yes k) = inr (by_line k)
    by_line_lem (no h) (no k) = by_number_lem (omega (arith, h, k)) (dec_lt c.number d.number) (dec_lt d.number c.number)

-- ------------------------------------------------------------------ the earliest

-- d is one of the claims
abbrev pub Among : NumberedCondition → List NumberedCondition → Type 0
Among d [] = ⊥
Among d (c ∷ cs) = (d ≡ c) ⊎ Among d cs

earlier_than_each : (c d : NumberedCondition) (cs : List NumberedCondition) → Every (Earlier c) cs → Among d cs → Earlier c d
earlier_than_each c d [] all among = absurd among
earlier_than_each c d (e ∷ cs) all (inl is) = subst (Earlier c) (sym is) all.0
earlier_than_each c d (e ∷ cs) all (inr among) = earlier_than_each c d cs all.1 among

module _ {all : List NumberedCondition} {r : Refusal} (f : FirstFalse all r) where
  pub others_later : (d : NumberedCondition) → InOrder all → Among d all → (Holds d.condition → ⊥) → (d ≡ f.here) ⊎ Earlier f.here d
  unfolding AllHold InOrder
  others_later d order among is_false = past f.before f.hold_before (subst InOrder f.parted order) (subst (Among d) f.parted among)
    where
      past : (before : List NumberedCondition) → AllHold before → InOrder (before ++ f.here ∷ f.after) → Among d (before ++ f.here ∷ f.after) →
          (d ≡ f.here) ⊎ Earlier f.here d
      past [] hold order (inl is) = inl is
      past [] hold order (inr among) = inr (earlier_than_each f.here d f.after order.0 among)
      past (c ∷ cs) hold order (inl is) = absurd (is_false (subst (λ (x : NumberedCondition). Holds x.condition) (sym is) hold.0))
      past (c ∷ cs) hold order (inr among) = past cs hold.1 order.1 among
