-- The maps of a split as capabilities: comparing and adding maps number by number is comparing and adding at every location.
use mathlib.Core.Path.{◌≡◌, refl}
use mathlib.Core.List.{[], ◌∷◌}
use Prim.Native.Nat.{ℕ, zero, suc, ◌+◌, ◌≤◌}
use native.Mathlib.Omega.{arith}
use lib.ListN.{length, get_or}
use Rattle.spec.specs.Split.{Map}
use Rattle.spec.specs.Maps.{◌+ᵐ◌, ◌×ᵐ◌}
use Rattle.spec.specs.Figure5.{◌⊒◌, none, more}
use Rattle.spec.specs.Accepted.{AtMost, none as nothing_over, more as and_more}
use Rattle.spec.proofs.Maps.{times_at}
use Rattle.calculus.specs.Capability.{Cap, ◌×ᶜ◌, ◌≥ᶜ◌, ◌≈◌⊕◌}

-- a map gives a number to each location; past its end it has nothing
abbrev pub cap : Map → Cap
cap m ρ = get_or m ρ 0

covers_at : {m n : Map} → m ⊒ n → (ρ : ℕ) → get_or n ρ 0 ≤ get_or m ρ 0
covers_at none ρ = omega arith
covers_at (more h c) zero = h
covers_at (more h c) (suc ρ) = covers_at c ρ

pub covers_cap : {m n : Map} → m ⊒ n → cap m ≥ᶜ cap n
covers_cap c = record { at = covers_at c }

sum_at : (m n : Map) → length m ≡ length n → (ρ : ℕ) → get_or (m +ᵐ n) ρ 0 ≡ get_or m ρ 0 + get_or n ρ 0
unfolding ◌+ᵐ◌
sum_at [] [] l ρ = omega arith
sum_at [] (b ∷ n) l ρ = absurd (omega (arith, l))
sum_at (a ∷ m) [] l ρ = absurd (omega (arith, l))
sum_at (a ∷ m) (b ∷ n) l zero = refl
sum_at (a ∷ m) (b ∷ n) l (suc ρ) = sum_at m n (omega (arith, l)) ρ

-- a map that is the sum of two as long as each other
pub sum_cap : {s : Map} (m n : Map) → length m ≡ length n → m +ᵐ n ≡ s → cap s ≈ cap m ⊕ cap n
sum_cap m n l e = record { at = λ ρ. rw (← e) (sum_at m n l ρ) }

-- a map that is at least k times another
pub times_cap : {s : Map} (k : ℕ) (m : Map) → s ⊒ k ×ᵐ m → cap s ≥ᶜ k ×ᶜ cap m
times_cap k m c = record { at = λ ρ. omega (arith, covers_at c ρ, times_at k m ρ) }

pub at_most_cap : {d : ℕ} {m : Map} → AtMost d m → (ρ : ℕ) → cap m ρ ≤ d
at_most_cap nothing_over ρ = omega arith
at_most_cap (and_more h c) zero = h
at_most_cap (and_more h c) (suc ρ) = at_most_cap c ρ
