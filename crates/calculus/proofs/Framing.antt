-- What is typed stays typed with more held before and as much more left: the body of a procedure runs beside what its caller keeps back.
use Prim.Native.Nat.{ℕ}
use native.Mathlib.Omega.{arith}
use Rattle.calculus.specs.Expression.{HoldWord, Unary, Nullary, Exp}
use Rattle.calculus.specs.Capability.{Cap}
use Rattle.calculus.specs.Figure5.{Ty, Signatures, Env}
use Rattle.calculus.proofs.Laws.Order.{◌+ᶜ◌, ≥-frames, gains_frames, pays_frames}
use Rattle.calculus.proofs.Typing.{HoldTyped, rdlock_typed, rdunlock_typed, wrlock_typed, wrunlock_typed, UnaryTyped, join_typed, ref_typed, read_typed, lock_typed, unlock_typed, post_typed, wait_typed, hold_typed, call_typed, NullaryTyped, newtid_typed, newlock_typed, newsem_typed, newrwlock_typed, Typed, value_typed, var_typed, let_typed, if_typed, while_typed, spawn_typed, write_typed, unary_typed, nullary_typed}

module _ (F : Cap) where
  hold_frames : {Ψr Ψw : Cap} {w : HoldWord} {Ψ Φ : Cap} → HoldTyped Ψr Ψw w Ψ Φ → HoldTyped Ψr Ψw w (Ψ +ᶜ F) (Φ +ᶜ F)
  hold_frames (rdlock_typed h) = rdlock_typed (gains_frames F h)
  hold_frames (rdunlock_typed h) = rdunlock_typed (pays_frames F h)
  hold_frames (wrlock_typed h) = wrlock_typed (gains_frames F h)
  hold_frames (wrunlock_typed h) = wrunlock_typed (pays_frames F h)

  unary_frames : {D : ℕ} {S : Signatures} {o : Unary} {σ τ : Ty} {Ψ Φ : Cap} → UnaryTyped D S o σ Ψ τ Φ →
      UnaryTyped D S o σ (Ψ +ᶜ F) τ (Φ +ᶜ F)
  unary_frames (join_typed h) = join_typed (gains_frames F h)
  unary_frames (ref_typed h) = ref_typed (≥-frames F h)
  unary_frames (read_typed {ρ = ρ} {Ψ = Ψ} g h) = read_typed {ρ = ρ} {Ψ = Ψ +ᶜ F} (omega (arith, g)) (≥-frames F h)
  unary_frames (lock_typed h) = lock_typed (gains_frames F h)
  unary_frames (unlock_typed h) = unlock_typed (pays_frames F h)
  unary_frames (post_typed h) = post_typed (pays_frames F h)
  unary_frames (wait_typed h) = wait_typed (gains_frames F h)
  unary_frames (hold_typed h) = hold_typed (hold_frames h)
  -- The inner caller keeps F back too.
  unary_frames (call_typed {Ψ = Ψ} {Ψkeep = Ψkeep} {Φ = Φ} s h k) =
      call_typed {Ψ = Ψ +ᶜ F} {Ψkeep = Ψkeep +ᶜ F} {Φ = Φ +ᶜ F} s (record { at = λ ρ. omega (arith, h.at ρ) })
      (record { at = λ ρ. omega (arith, k.at ρ) })

  nullary_frames : {o : Nullary} {τ : Ty} {Ψ Φ : Cap} → NullaryTyped o Ψ τ Φ → NullaryTyped o (Ψ +ᶜ F) τ (Φ +ᶜ F)
  nullary_frames (newtid_typed h) = newtid_typed (≥-frames F h)
  nullary_frames (newlock_typed g h) = newlock_typed g (pays_frames F h)
  nullary_frames (newsem_typed h) = newsem_typed (≥-frames F h)
  nullary_frames (newrwlock_typed g h) = newrwlock_typed g (pays_frames F h)

  pub typing_frames : {D : ℕ} {S : Signatures} {N Γ : Env} {Ψ Φ : Cap} {e : Exp} {τ : Ty} → Typed D S N Γ Ψ e τ Φ →
      Typed D S N Γ (Ψ +ᶜ F) e τ (Φ +ᶜ F)
  typing_frames (value_typed v h) = value_typed v (≥-frames F h)
  typing_frames (var_typed v f h) = var_typed v f (≥-frames F h)
  typing_frames (let_typed e₁ e₂) = let_typed (typing_frames e₁) (typing_frames e₂)
  typing_frames (if_typed e₁ e₂) = if_typed (typing_frames e₁) (typing_frames e₂)
  typing_frames (while_typed e g h) = while_typed (typing_frames e) (≥-frames F g) (≥-frames F h)
  typing_frames (spawn_typed e₁ e₂ h) = spawn_typed (typing_frames e₁) e₂ (pays_frames F h)
  typing_frames (write_typed e₁ e₂ g h) = write_typed (typing_frames e₁) (typing_frames e₂) (omega (arith, g)) (≥-frames F h)
  typing_frames (unary_typed e o) = unary_typed (typing_frames e) (unary_frames o)
  typing_frames (nullary_typed o) = nullary_typed (nullary_frames o)
