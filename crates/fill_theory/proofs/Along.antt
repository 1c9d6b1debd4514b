-- Posts in step order, in relation to posts by step.
use mathlib.Core.Path.{◌≡◌}
use mathlib.Core.List.{List, [], ◌∷◌, ◌++◌}
use Prim.Native.Nat.{ℕ, zero, suc, ◌+◌, ◌≤◌, ◌<◌}
use native.Mathlib.Omega.{arith}
use lib.ListN.{length, get_or}
use Rattle.fill_theory.specs.Pass.{own_post}

-- the numbers ps stand in the relation R to those of a, from step i on
unfoldable pub Along : (R : ℕ → ℕ → Type 0) → (a : ℕ → ℕ) → (i : ℕ) → List ℕ → Type 0
Along R a i [] = Unit {0}
Along R a i (p ∷ ps) = R (a i) p × Along R a (i + 1) ps

module _ (R : ℕ → ℕ → Type 0) (a : ℕ → ℕ) where
  pub along_shift : {i j : ℕ} (ps : List ℕ) → i ≡ j → Along R a i ps → Along R a j ps
  along_shift ps e h = rw e at h

  pub along_append : (i : ℕ) (ps qs : List ℕ) → Along R a i ps → Along R a (i + length ps) qs → Along R a i (ps ++ qs)
  unfolding Along
  along_append i [] qs h k = along_shift qs (omega arith) k
  along_append i (p ∷ ps) qs h k = (h.0, along_append (i + 1) ps qs h.1 (along_shift qs (omega arith) k))

  pub along_parts : (i : ℕ) (ps qs : List ℕ) → Along R a i (ps ++ qs) → Along R a i ps × Along R a (i + length ps) qs
  unfolding Along
  along_parts i [] qs h = (tt, along_shift qs (omega arith) h)
  along_parts i (p ∷ ps) qs h =
      let r = along_parts (i + 1) ps qs h.1 in
      ((h.0, r.0), along_shift qs (omega arith) r.1)

  pub along_at : (i : ℕ) (ps : List ℕ) → Along R a i ps → (j : ℕ) → j < length ps → R (a (i + j)) (get_or ps j 0)
  unfolding Along
  along_at i [] h j l = absurd (omega arith)
  along_at i (p ∷ ps) h zero l = let e : i ≡ i + 0 = omega arith in rw (← e) h.0
  along_at i (p ∷ ps) h (suc j) l =
      let e : i + 1 + j ≡ i + suc j = omega arith in
      rw (← e) (along_at (i + 1) ps h.1 j (omega arith))

  pub at_along : (i : ℕ) (ps : List ℕ) → ((j : ℕ) → j < length ps → R (a (i + j)) (get_or ps j 0)) → Along R a i ps
  unfolding Along
  at_along i [] h = tt
  at_along i (p ∷ ps) h =
      let first : i + 0 ≡ i = omega arith in (
        rw first at (h 0 (omega arith)),
        at_along (i + 1) ps (λ j l.
            let e : i + suc j ≡ i + 1 + j = omega arith in
            rw e at (h (suc j) (omega arith))),
      )

-- the own post is the first
pub along_own : (R : ℕ → ℕ → Type 0) (a : ℕ → ℕ) (i : ℕ) (ps : List ℕ) → 1 ≤ length ps → Along R a i ps → R (a i) (own_post ps)
unfolding Along own_post
along_own R a i [] l h = absurd (omega arith)
along_own R a i (p ∷ ps) l h = h.0
