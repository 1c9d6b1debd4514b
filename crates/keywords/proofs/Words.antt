-- Words looked up one after the other.
use Rattle.std.specs.Bool.{then_some}
use Rattle.std.specs.Option.{option_or}
use Rattle.std.proofs.Common.{Option, None, Some}
use mathlib.Core.Path.{◌≡◌, refl, ◌∙◌}
use mathlib.Core.List.{List, [], ◌∷◌, ◌++◌}
use mathlib.Core.Bool.{Bool, true, false}
use Prim.Native.Nat.{ℕ}
use Rattle.spec.specs.Choice.{when◌then◌else◌}
use Rattle.spec.specs.Text.{same, Field, look_up}

-- a table of one word
pub one_word : {A : Type 0} (w : List ℕ) (a : A) (f : Field) → then_some (same w f) a ≡ look_up ((w, a) ∷ []) f
unfolding look_up
one_word w a f = go (same w f)
  where
    go : (x : Bool) → then_some x a ≡ (when x then Some a else None)
    go true = refl
    go false = refl

-- one table after the other
pub either : {A : Type 0} (vs ws : List (List ℕ × A)) (f : Field) {r s t : Option A} → t ≡ option_or r s → r ≡ look_up vs f → s ≡ look_up ws f → t ≡ look_up (vs ++ ws) f
unfolding look_up
either {A} vs ws f e p q = e ∙ rw (p, q) (go vs)
  where
    go : (vs : List (List ℕ × A)) → option_or (look_up vs f) (look_up ws f) ≡ look_up (vs ++ ws) f
    go [] = refl
    go (v ∷ vs) = by_test (same v.0 f) (go vs)
      where
        by_test : (x : Bool) → option_or (look_up vs f) (look_up ws f) ≡ look_up (vs ++ ws) f
            → option_or (when x then Some v.1 else look_up vs f) (look_up ws f) ≡ (when x then Some v.1 else look_up (vs ++ ws) f)
        by_test true h = refl
        by_test false h = h
