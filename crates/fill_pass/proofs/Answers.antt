-- What the code answers, told of the definition: posts found or not, and a step settled in front of its parts.
use Rattle.std.proofs.Common.{Option, None, Some}
use mathlib.Core.Path.{◌≡◌, refl, ap, ◌∙◌}
use mathlib.Core.List.{List, ◌∷◌}
use Prim.Native.Nat.{ℕ, ◌+◌, ◌<◌}
use native.Mathlib.Omega.{arith}
use lib.ListN.{length, set}
use Rattle.workspace.specs.Region.{Region, ChangedWithin}
use Rattle.workspace.proofs.Region.{region_front, changed_nothing, changed_store}
use Rattle.fill_theory.specs.Found.{◌>>=◌}
use Rattle.fill_theory.specs.Pass.{own_post}
use Rattle.fill_pass.specs.Passed.{settled, Answers}

pub found_some : {x : ℕ} (o : Option (List ℕ)) (k : ℕ) (q : List ℕ) → Answers o k q (Some x) → (ps : List ℕ) × (o ≡ Some ps) × (x ≡ own_post ps) × Region q k ps
found_some None k q a = let clash : ◌≡◌ {A = ℕ} 0 1 = cc in absurd (omega arith)
found_some (Some ps) k q a = (ps, refl, cc, a.1)

pub found_none : (o : Option (List ℕ)) (k : ℕ) (q : List ℕ) → Answers o k q None → o ≡ None
found_none None k q a = refl
found_none (Some ps) k q a = let clash : ◌≡◌ {A = ℕ} 0 1 = cc in absurd (omega arith)

-- a step is settled in front of the posts of its parts
pub settle_answers : (q q' : List ℕ) (k : ℕ) (inner : List ℕ) (o : Option ℕ) (t r : Option ℕ) → t ≡ o → r ≡ t → q' ≡ settled q k t
    → k < length q → Region q (k + 1) inner → Answers (o >>= λ p. Some (p ∷ inner)) k q' r
unfolding ◌>>=◌ own_post
settle_answers q q' k inner None t r e f s l R = f ∙ e
settle_answers q q' k inner (Some p) t r e f s l R =
    let stored : q' ≡ set q k p = s ∙ ap (settled q k) e in
    (f ∙ e, rw stored (region_front q inner k p l R))

pub settled_changed : (q q' : List ℕ) (k b : ℕ) (t : Option ℕ) → q' ≡ settled q k t → k < b → ChangedWithin k b q q'
settled_changed q q' k b (Some p) e l = rw e (changed_store k b q k p (omega arith) l)
settled_changed q q' k b None e l = rw e (changed_nothing k b q)
