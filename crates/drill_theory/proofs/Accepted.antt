-- "For every seed the pair must be accepted."
use mathlib.Core.Path.{◌≡◌, refl}
use mathlib.Core.Bool.{Bool, true, false}
use Prim.Native.Nat.{ℕ, zero, suc, ◌%◌, ◌/◌, ◌+◌, ◌≤◌, ◌<◌}
use native.Mathlib.Nat.{mod-lt}
use native.Mathlib.Omega.{arith}
use lib.Dec.{eqb, ltb, lit<}
use borrow.Author.Tests.{eqb-true, eqb-false, ltb-true, ltb-false}
use Rattle.spec.specs.Workspace.{workspace_size}
use Rattle.spec.specs.Verdict.{verdict}
use Rattle.spec.specs.declared.Answer.TheVariants.{Accept}
use Rattle.drill_theory.specs.Draw.{readers, readers_of, Drawable}
use Rattle.drill_theory.specs.Pair.{program_text, split_text, program_of, split_of}
use Rattle.drill_theory.proofs.Table.{answers, Accepted, from_1, from_13, from_19, from_24, from_28}

-- ------------------------------------------------------------------ each pair

IsAccepted : (k : ℕ) → Type 0
IsAccepted k = verdict workspace_size (program_text k) (split_text k) ≡ Accept

-- a row of a part of the table
accepted_in : (k n j : ℕ) → Accepted k n → k ≤ j → j < k + n → IsAccepted j
unfolding answers Accepted IsAccepted
accepted_in k zero j e h l = absurd (omega arith)
accepted_in k (suc n) j e h l = either (eqb j k) refl (accepted_in (k + 1) n j (cc))
  where
    either : (b : Bool) → eqb j k ≡ b → (k + 1 ≤ j → j < k + 1 + n → IsAccepted j) → IsAccepted j
    either true t later = let p : j ≡ k = eqb-true j k t in cc
    either false t later = let p = eqb-false j k t in later (omega arith) (omega arith)

-- in one part of the table or in a later one
before_or_from : (m j : ℕ) (Q : Type 0) → (j < m → Q) → (m ≤ j → Q) → Q
before_or_from m j Q f g = either (ltb j m) refl
  where
    either : (b : Bool) → ltb j m ≡ b → Q
    either true t = f (ltb-true j m t)
    either false t = g (ltb-false j m t)

pub pair_accepted : {k : ℕ} → Drawable k → verdict workspace_size (program_text k) (split_text k) ≡ Accept
unfolding IsAccepted
pair_accepted {k} h =
    before_or_from 13 k (IsAccepted k) (λ l. accepted_in 1 12 k from_1 h.some (omega arith))
    (λ m. before_or_from 19 k (IsAccepted k) (λ l. accepted_in 13 6 k from_13 m (omega arith))
    (λ m. before_or_from 24 k (IsAccepted k) (λ l. accepted_in 19 5 k from_19 m (omega arith))
    (λ m. before_or_from 28 k (IsAccepted k) (λ l. accepted_in 24 4 k from_24 m (omega arith))
    (λ m. accepted_in 28 4 k from_28 m (omega (arith, h.few))))))

-- ------------------------------------------------------------------ every seed

pub readers_drawable : (x : ℕ) → Drawable (readers x)
unfolding readers
readers_drawable x = let small : x / 65536 % 31 < 31 = mod-lt (x / 65536) (lit< tt) in record { some = omega arith; few = omega arith }

pub seed_accepted : (seed : ℕ) → verdict workspace_size (program_of seed) (split_of seed) ≡ Accept
unfolding program_of split_of readers_of
seed_accepted seed = pair_accepted (readers_drawable _)
