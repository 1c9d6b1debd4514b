-- Programs that Figure 5 derives, and that are therefore safe.
use Rattle.std.proofs.Common.{Some}
use Prim.Native.Nat.{ℕ, zero, suc, ◌+◌, ◌*◌, ◌≤◌}
use mathlib.Core.Path.{◌≡◌, refl}
use mathlib.Core.List.{[]}
use native.Mathlib.Decide.{ℕ_discrete}
use native.Mathlib.Omega.{arith}
use Rattle.calculus.specs.Expression.{Exp}
use Rattle.calculus.specs.Claim.{Safe}
use Rattle.calculus.specs.Capability.{Cap, nothing, ◌×ᶜ◌, ◌≥ᶜ◌, ◌≈◌⊕◌}
use Rattle.calculus.specs.Figure5.{Ty, int_type, ref_type, lock_type, tid_type, sem_type, rwlock_type, as_it_is, looser, Env, empty, ◌∣◌∣◌∣◌⊢◌∶◌∣◌, VAR, INT, LET, IF, WHILE, NEWT, SPAWN, JOIN, REF, WRITE, READ, NEWL, LCK, ULCK, NEWSEM, POST, WAIT, NEWRWLOCK, RDLOCK, RDUNLOCK, WRLOCK, WRUNLOCK, no_procedures, Derivation}
use Rattle.calculus.specs.Examples.{plain, holding, figure2b, figure2c, section221_thread, section221, handover, reads_the_book, colour_book, both_places, two_loads}
use Rattle.calculus.proofs.Laws.Order.{≥-refl}
use Rattle.calculus.proofs.Safety.{derived_is_safe}

-- A program with no procedures is derived with its root.
pub plain_derived : {D : ℕ} {Ψ Φ : Cap} {e : Exp} {τ : Ty} → D ∣ [] ∣ empty ∣ Ψ ⊢ e ∶ τ ∣ Φ → Derivation D [] Ψ (plain e)
plain_derived {Φ} {τ} derived = record { τ = τ; Ψ₁ = Φ; root = derived; bodies = no_procedures }

-- Sums at the two locations that the programs use, and at all others.
pub sum_at_each : {Ψ Ψ₁ Ψ₂ : Cap} → Ψ 0 ≡ Ψ₁ 0 + Ψ₂ 0 → Ψ 1 ≡ Ψ₁ 1 + Ψ₂ 1 → ((ρ : ℕ) → Ψ (suc (suc ρ)) ≡ Ψ₁ (suc (suc ρ)) + Ψ₂ (suc (suc ρ))) →
    Ψ ≈ Ψ₁ ⊕ Ψ₂
sum_at_each {Ψ} {Ψ₁} {Ψ₂} h k l = record { at = at_each }
  where
    at_each : (ρ : ℕ) → Ψ ρ ≡ Ψ₁ ρ + Ψ₂ ρ
    at_each zero = h
    at_each (suc zero) = k
    at_each (suc (suc ρ)) = l ρ

pub holding_sum : (a b c d : ℕ) → holding (a + c) (b + d) ≈ holding a b ⊕ holding c d
holding_sum a b c d = sum_at_each refl refl (λ ρ. refl)

pub holding_at_most : (D a b : ℕ) → a ≤ D → b ≤ D → (ρ : ℕ) → holding a b ρ ≤ D
holding_at_most D a b h k zero = h
holding_at_most D a b h k (suc zero) = k
holding_at_most D a b h k (suc (suc ρ)) = omega arith

pub holding_at_least : (a b c d : ℕ) → a ≤ c → b ≤ d → (ρ : ℕ) → holding a b ρ ≤ holding c d ρ
holding_at_least a b c d h k zero = h
holding_at_least a b c d h k (suc zero) = k
holding_at_least a b c d h k (suc (suc ρ)) = omega arith

-- A cell of location 0, and one of location 1.
abbrev pub x_type : Ty
x_type = ref_type 0 int_type

abbrev pub y_type : Ty
y_type = ref_type 1 int_type

-- ---- Figure 2 (b): the identifier carries half of x, which the spawned thread starts with

pub figure_2b_derived : 2 ∣ [] ∣ empty ∣ holding 2 0 ⊢ figure2b.root ∶ int_type ∣ holding 2 0
unfolding ℕ_discrete
figure_2b_derived =
    let half = holding_sum 1 0 1 0 in
    LET {τ₁ = x_type} (REF INT)
    (LET {τ₁ = tid_type (holding 1 0)} NEWT
    (LET {τ₁ = int_type} (SPAWN {Ψ₃ = holding 1 0} (VAR refl as_it_is) (READ {Ψ₁ = holding 1 0} {ρ = 0} (VAR refl as_it_is) (omega arith)) ≥-refl half)
    (LET {τ₁ = int_type} (JOIN (VAR refl as_it_is) half)
    (WRITE {Ψ₂ = holding 2 0} {τ = int_type} {ρ = 0} (VAR refl as_it_is) INT (omega arith)))))

pub figure_2b_is_safe : Safe figure2b
figure_2b_is_safe = derived_is_safe (omega arith) (plain_derived figure_2b_derived) (holding_at_most 2 2 0 (omega arith) (omega arith))

-- ---- Figure 2 (c): the lock lends the whole of x

pub figure_2c_derived : 1 ∣ [] ∣ empty ∣ holding 1 0 ⊢ figure2c.root ∶ int_type ∣ holding 0 0
unfolding ℕ_discrete
figure_2c_derived =
    let whole = holding_sum 0 0 1 0 in
    LET {τ₁ = x_type} (REF INT)
    (LET {τ₁ = lock_type (holding 1 0) (holding 1 0)} (NEWL ≥-refl whole)
    (LET {τ₁ = int_type}
    (SPAWN {Ψ₁ = holding 0 0} {Ψ₃ = holding 0 0} NEWT
    (LET {τ₁ = int_type} (LCK (VAR refl as_it_is) whole)
    (LET {τ₁ = int_type} (READ {Ψ₁ = holding 1 0} {ρ = 0} (VAR refl as_it_is) (omega arith)) (ULCK {Ψ₃ = holding 0 0} (VAR refl as_it_is) whole)))
    ≥-refl (holding_sum 0 0 0 0))
    (LET {τ₁ = int_type} (LCK (VAR refl as_it_is) whole)
    (LET {τ₁ = int_type} (WRITE {Ψ₂ = holding 1 0} {τ = int_type} {ρ = 0} (VAR refl as_it_is) INT (omega arith))
    (ULCK (VAR refl as_it_is) whole)))))

pub figure_2c_is_safe : Safe figure2c
figure_2c_is_safe = derived_is_safe (omega arith) (plain_derived figure_2c_derived) (holding_at_most 1 1 0 (omega arith) (omega arith))

-- ---- Section 2.2.1: t carries half of y, and l lends the whole of x

abbrev t_type : Ty
t_type = tid_type (holding 0 1)

abbrev l_type : Ty
l_type = lock_type (holding 2 0) (holding 2 0)

section_2_2_1_thread_derived : (Γ : Env) → Γ 0 ≡ Some x_type → Γ 1 ≡ Some y_type → Γ 3 ≡ Some l_type →
    2 ∣ [] ∣ Γ ∣ holding 0 1 ⊢ section221_thread ∶ int_type ∣ holding 0 1
unfolding ℕ_discrete
section_2_2_1_thread_derived Γ x y l =
    LET {τ₁ = int_type} (READ {Ψ₁ = holding 0 1} {ρ = 1} (VAR y as_it_is) (omega arith))
    (LET {τ₁ = int_type} (LCK (VAR l as_it_is) (holding_sum 0 1 2 0))
    (LET {τ₁ = int_type} (WRITE {Ψ₂ = holding 2 1} {τ = int_type} {ρ = 0} (VAR x as_it_is) (VAR refl as_it_is) (omega arith))
    (ULCK (VAR l as_it_is) (holding_sum 0 1 2 0))))

pub section_2_2_1_derived : 2 ∣ [] ∣ empty ∣ holding 2 2 ⊢ section221.root ∶ int_type ∣ holding 0 2
unfolding ℕ_discrete
section_2_2_1_derived =
    LET {τ₁ = x_type} (REF INT)
    (LET {τ₁ = y_type} (REF INT)
    (LET {τ₁ = t_type} NEWT
    (LET {τ₁ = l_type} (NEWL ≥-refl (holding_sum 0 2 2 0))
    (WHILE
    (LET {τ₁ = int_type} (SPAWN {Ψ₃ = holding 0 1} (VAR refl as_it_is) (section_2_2_1_thread_derived _ refl refl refl) ≥-refl (holding_sum 0 1 0 1))
    (LET {τ₁ = int_type} (SPAWN {Ψ₃ = holding 0 1} (VAR refl as_it_is) (section_2_2_1_thread_derived _ refl refl refl) ≥-refl (holding_sum 0 0 0 1))
    (LET {τ₁ = int_type} (JOIN (VAR refl as_it_is) (holding_sum 0 0 0 1))
    (LET {τ₁ = int_type} (JOIN (VAR refl as_it_is) (holding_sum 0 1 0 1))
    (WRITE {Ψ₂ = holding 0 2} {τ = int_type} {ρ = 1} (VAR refl as_it_is) INT (omega arith))))))
    ≥-refl ≥-refl))))

pub section_2_2_1_is_safe : Safe section221
section_2_2_1_is_safe = derived_is_safe (omega arith) (plain_derived section_2_2_1_derived) (holding_at_most 2 2 2 (omega arith) (omega arith))

-- ---- Section 3.1.4: a post hands over the whole of x

pub handover_derived : 1 ∣ [] ∣ empty ∣ holding 1 0 ⊢ handover.root ∶ int_type ∣ holding 0 0
unfolding ℕ_discrete
handover_derived =
    let whole = holding_sum 0 0 1 0 in
    LET {τ₁ = x_type} (REF INT)
    (LET {τ₁ = sem_type (holding 1 0)} NEWSEM
    (LET {τ₁ = int_type}
    (SPAWN {Ψ₁ = nothing} {Ψ₃ = holding 0 0} NEWT
    (LET {τ₁ = int_type} (WAIT (VAR refl as_it_is) whole) (WRITE {Ψ₂ = holding 1 0} {τ = int_type} {ρ = 0} (VAR refl as_it_is) INT (omega arith)))
    (record { at = λ ρ. omega arith }) (holding_sum 1 0 0 0))
    (LET {τ₁ = int_type} (WRITE {Ψ₂ = holding 1 0} {τ = int_type} {ρ = 0} (VAR refl as_it_is) INT (omega arith))
    (POST (VAR refl as_it_is) whole))))

pub handover_is_safe : Safe handover
handover_is_safe = derived_is_safe (omega arith) (plain_derived handover_derived) (holding_at_most 1 1 0 (omega arith) (omega arith))

-- ---- Figure 8: a writer takes the whole of x, and each of two readers half of it

abbrev book_type : Ty
book_type = rwlock_type (holding 1 0) (holding 2 0)

two_halves_fit : holding 2 0 ≥ᶜ 2 ×ᶜ holding 1 0
two_halves_fit = record { at = by_location }
  where
    by_location : (ρ : ℕ) → 2 * holding 1 0 ρ ≤ holding 2 0 ρ
    by_location zero = omega arith
    by_location (suc zero) = omega arith
    by_location (suc (suc ρ)) = omega arith

reads_the_book_derived : (Γ : Env) → Γ 0 ≡ Some x_type → Γ 1 ≡ Some book_type → 2 ∣ [] ∣ Γ ∣ holding 0 0 ⊢ reads_the_book ∶ int_type ∣ holding 0 0
unfolding ℕ_discrete
reads_the_book_derived Γ x book =
    let half = holding_sum 0 0 1 0 in
    LET {τ₁ = int_type} (RDLOCK (VAR book as_it_is) half)
    (LET {τ₁ = int_type} (READ {Ψ₁ = holding 1 0} {ρ = 0} (VAR x as_it_is) (omega arith)) (RDUNLOCK {Ψ₃ = holding 0 0} (VAR book as_it_is) half))

pub colour_book_derived : 2 ∣ [] ∣ empty ∣ holding 2 0 ⊢ colour_book.root ∶ int_type ∣ holding 0 0
unfolding ℕ_discrete
colour_book_derived =
    let whole = holding_sum 0 0 2 0 in
    let none_given = holding_sum 0 0 0 0 in
    LET {τ₁ = x_type} (REF INT)
    (LET {τ₁ = book_type} (NEWRWLOCK two_halves_fit whole)
    (LET {τ₁ = int_type} (SPAWN {Ψ₁ = holding 0 0} {Ψ₃ = holding 0 0} NEWT (reads_the_book_derived _ refl refl) ≥-refl none_given)
    (LET {τ₁ = int_type} (SPAWN {Ψ₁ = holding 0 0} {Ψ₃ = holding 0 0} NEWT (reads_the_book_derived _ refl refl) ≥-refl none_given)
    (LET {τ₁ = int_type} (WRLOCK (VAR refl as_it_is) whole)
    (LET {τ₁ = int_type} (WRITE {Ψ₂ = holding 2 0} {τ = int_type} {ρ = 0} (VAR refl as_it_is) INT (omega arith))
    (WRUNLOCK (VAR refl as_it_is) whole))))))

pub colour_book_is_safe : Safe colour_book
colour_book_is_safe = derived_is_safe (omega arith) (plain_derived colour_book_derived) (holding_at_most 2 2 0 (omega arith) (omega arith))

-- One thread that takes both places has the whole.
pub both_places_derived : 2 ∣ [] ∣ empty ∣ holding 2 0 ⊢ both_places.root ∶ int_type ∣ holding 2 0
unfolding ℕ_discrete
both_places_derived =
    let half = holding_sum 0 0 1 0 in
    LET {τ₁ = x_type} (REF INT)
    (LET {τ₁ = book_type} (NEWRWLOCK two_halves_fit (holding_sum 0 0 2 0))
    (LET {τ₁ = int_type}
    (SPAWN {Ψ₁ = nothing} {Ψ₃ = holding 0 0} NEWT
    (LET {τ₁ = int_type} (RDLOCK (VAR refl as_it_is) half) (READ {Ψ₁ = holding 1 0} {ρ = 0} (VAR refl as_it_is) (omega arith)))
    (record { at = λ ρ. omega arith }) (holding_sum 0 0 0 0))
    (LET {τ₁ = int_type} (RDLOCK (VAR refl as_it_is) half)
    (LET {τ₁ = int_type} (RDLOCK (VAR refl as_it_is) (holding_sum 1 0 1 0))
    (WRITE {Ψ₂ = holding 2 0} {τ = int_type} {ρ = 0} (VAR refl as_it_is) INT (omega arith))))))

pub both_places_is_safe : Safe both_places
both_places_is_safe = derived_is_safe (omega arith) (plain_derived both_places_derived) (holding_at_most 2 2 0 (omega arith) (omega arith))

-- ---- Section 3.1.6: a lock that lends the whole of location 0, and one that lends nothing; as either of them, a lock gives nothing and
-- takes the whole

pub two_loads_derived : 1 ∣ [] ∣ empty ∣ holding 1 0 ⊢ two_loads.root ∶ int_type ∣ holding 0 0
unfolding ℕ_discrete
two_loads_derived =
    let less : holding 1 0 ≥ᶜ holding 0 0 = record { at = holding_at_least 0 0 1 0 (omega arith) (omega arith) } in
    LET {τ₁ = lock_type (holding 1 0) (holding 1 0)} (NEWL ≥-refl (holding_sum 0 0 1 0))
    (LET {τ₁ = lock_type (holding 0 0) (holding 0 0)} (NEWL ≥-refl (holding_sum 0 0 0 0))
    (LET {τ₁ = lock_type (holding 0 0) (holding 1 0)} (IF (VAR refl (looser less ≥-refl)) ≥-refl (VAR refl (looser ≥-refl less)) ≥-refl)
    (LCK (VAR refl as_it_is) (holding_sum 0 0 0 0))))

pub two_loads_is_safe : Safe two_loads
two_loads_is_safe = derived_is_safe (omega arith) (plain_derived two_loads_derived) (holding_at_most 1 1 0 (omega arith) (omega arith))
