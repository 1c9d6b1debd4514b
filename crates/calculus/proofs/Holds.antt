-- Read-write locks: what a thread gains or pays with a hold, the lock keeps less or more.
use Rattle.std.proofs.Common.{None, Some}
use Prim.Native.Nat.{ℕ, zero, suc, ◌+◌, ◌≤◌, ◌<◌}
use mathlib.Core.Path.{◌≡◌, ap}
use native.Mathlib.Decide.{dec_lt}
use native.Mathlib.Nat.{zero-mul, suc-mul, mul-le-mul_right}
use native.Mathlib.Omega.{arith}
use Rattle.calculus.specs.Expression.{HoldWord, rdlock, choose}
use Rattle.calculus.specs.State.{Inside, readers, writer, rwlock}
use Rattle.calculus.specs.Reduction.{inside_after}
use Rattle.calculus.specs.Capability.{Cap, ◌≥ᶜ◌, ◌×ᶜ◌}
use Rattle.calculus.specs.Figure5.{rwlock_type}
use Rattle.calculus.proofs.Laws.Maps.{some_injective, none_is_not_some}
use Rattle.calculus.proofs.Typing.{HoldTyped, rdlock_typed, rdunlock_typed, wrlock_typed, wrunlock_typed}
use Rattle.calculus.proofs.Invariant.{load, keeps}

module _ (Ψr Ψw : Cap) (M : ℕ) (covers : Ψw ≥ᶜ M ×ᶜ Ψr) where
  -- What the lock keeps of location ρ.
  abbrev left : Inside → ℕ → ℕ
  left i = keeps (rwlock M i) (load (Some (rwlock_type Ψr Ψw)))

  -- With k < M holds out, the shares of k + 1 are at most what the lock takes: here N × r ≤ w counts.
  rdlock_balances : {Ψ Φ : Cap} {after : Inside} (k : ℕ) → HoldTyped Ψr Ψw rdlock Ψ Φ → (d : Dec (k < M)) →
      choose d (Some (readers (suc k))) None ≡ Some after → (ρ : ℕ) → Φ ρ + left after ρ ≤ Ψ ρ + left (readers k) ρ
  rdlock_balances k (rdlock_typed gains) (yes p) e ρ =
      let kept = ap (λ i. left i ρ) (some_injective e) in
      omega (arith, gains.at ρ, covers.at ρ, suc-mul k (Ψr ρ), mul-le-mul_right (Ψr ρ) p, kept)
  rdlock_balances k t (no p) e ρ = none_is_not_some e

  pub hold_balances : {Ψ Φ : Cap} {after : Inside} {w : HoldWord} (i : Inside) → HoldTyped Ψr Ψw w Ψ Φ → inside_after M w i ≡ Some after →
      (ρ : ℕ) → Φ ρ + left after ρ ≤ Ψ ρ + left i ρ
  hold_balances (readers k) (rdlock_typed gains) e ρ = rdlock_balances k (rdlock_typed gains) (dec_lt k M) e ρ
  hold_balances writer (rdlock_typed gains) e ρ = none_is_not_some e
  hold_balances (readers zero) (rdunlock_typed pays) e ρ = none_is_not_some e
  hold_balances (readers (suc k)) (rdunlock_typed pays) e ρ =
      let kept = ap (λ i. left i ρ) (some_injective e) in omega (arith, pays.at ρ, suc-mul k (Ψr ρ), kept)
  hold_balances writer (rdunlock_typed pays) e ρ = none_is_not_some e
  hold_balances (readers zero) (wrlock_typed gains) e ρ =
      let kept = ap (λ i. left i ρ) (some_injective e) in omega (arith, gains.at ρ, zero-mul (Ψr ρ), kept)
  hold_balances (readers (suc k)) (wrlock_typed gains) e ρ = none_is_not_some e
  hold_balances writer (wrlock_typed gains) e ρ = none_is_not_some e
  hold_balances (readers k) (wrunlock_typed pays) e ρ = none_is_not_some e
  hold_balances writer (wrunlock_typed pays) e ρ =
      let kept = ap (λ i. left i ρ) (some_injective e) in omega (arith, pays.at ρ, zero-mul (Ψr ρ), kept)
