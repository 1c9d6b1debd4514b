-- A well-typed state has no race (Lemma 2.5).
use Rattle.std.proofs.Common.{Option, Some}
use Prim.Native.Nat.{ℕ, ◌≤◌, ◌<◌}
use mathlib.Core.Path.{◌≡◌, ap}
use mathlib.Core.Logic.{◌⊎◌, inl, inr}
use native.Mathlib.Nat.{le_trans}
use native.Mathlib.Omega.{arith}
use Rattle.calculus.specs.Expression.{Value, name, read, write_redex, unary_redex}
use Rattle.calculus.specs.State.{Thread, State}
use Rattle.calculus.specs.Claim.{AboutToRead, about_to_read, AboutToWrite, about_to_write, race, RaceFree}
use Rattle.calculus.specs.Capability.{Cap}
use Rattle.calculus.specs.Figure5.{Ty, ref_type, as_it_is, Signatures, Env, empty}
use Rattle.calculus.proofs.Typing.{ValueTyped, name_typed, UnaryTyped, read_typed}
use Rattle.calculus.proofs.Focus.{RedexTyped, write_redex_typed, unary_redex_typed, focus}
use Rattle.calculus.proofs.Pool.{ThreadTyped, two_members}
use Rattle.calculus.proofs.Laws.Total.{total}
use Rattle.calculus.proofs.Invariant.{WellTyped}

-- n is a cell of some location ρ, and a number at least `least` is held of ρ.
record Access (N : Env) (Ψ : Cap) (n least : ℕ) : Type 0 where
  ρ : ℕ
  τ : Ty
  known : N n ≡ Some (ref_type ρ τ)
  enough : least ≤ Ψ ρ

write_needs : {D : ℕ} {S : Signatures} {N : Env} {Ψ Φ : Cap} {n : ℕ} {w : Value} {τ : Ty} → RedexTyped D S N empty Ψ Φ (write_redex (name n) w) τ →
    Access N Ψ n D
write_needs (write_redex_typed {ρ = ρ} {σ = σ} (name_typed k as_it_is) l g h) = record { ρ = ρ; τ = σ; known = k; enough = g }

read_shown : {D : ℕ} {S : Signatures} {N : Env} {Ψ Φ : Cap} {n : ℕ} {σ τ : Ty} → UnaryTyped D S read σ Ψ τ Φ → ValueTyped N (name n) σ → Access N Ψ n 1
read_shown (read_typed {τ = σ} {ρ = ρ} g h) (name_typed k as_it_is) = record { ρ = ρ; τ = σ; known = k; enough = g }

read_needs : {D : ℕ} {S : Signatures} {N : Env} {Ψ Φ : Cap} {n : ℕ} {τ : Ty} → RedexTyped D S N empty Ψ Φ (unary_redex read (name n)) τ →
    Access N Ψ n 1
read_needs (unary_redex_typed v_typed o_typed) = read_shown o_typed v_typed

access_needs : {D : ℕ} {S : Signatures} {N : Env} {s : State} {u : Thread} {Ψ : Cap} {n : ℕ} → 0 < D → ThreadTyped D S N u Ψ →
    AboutToRead s u n ⊎ AboutToWrite s u n → Access N Ψ n 1
access_needs d k (inl (about_to_read v c e)) = read_needs (focus k.typed e).word
access_needs d k (inr (about_to_write v w c e)) =
    let a = write_needs (focus k.typed e).word in
    record { ρ = a.ρ; τ = a.τ; known = a.known; enough = le_trans d a.enough }

location_unique : {ρ υ : ℕ} {σ τ : Ty} {o : Option Ty} → o ≡ Some (ref_type ρ σ) → o ≡ Some (ref_type υ τ) → ρ ≡ υ
location_unique h k = cc

-- One thread would hold the whole, D, of the cell's location, and another more than nothing of it: together more than the whole.
pub well_typed_is_race_free : {D : ℕ} {S : Signatures} {s : State} → 0 < D → WellTyped D S s → RaceFree s
unfolding total
well_typed_is_race_free d I (race i j n t u apart at_i at_j (about_to_write v w c e) access) =
    let two = two_members i j apart I.pool at_i at_j in
    let one = write_needs (focus two.left_ok.typed e).word in
    let other = access_needs d two.right_ok access in
    let same : one.ρ ≡ other.ρ = location_unique one.known other.known in
    omega (arith, two.both.at one.ρ, I.budget one.ρ 0, one.enough, other.enough, ap two.right same)
