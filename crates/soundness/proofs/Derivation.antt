-- A split's own derivation is one of Figure 5: read each type number as the tree that it stands for, each map as the capability
-- that it gives, and every rule of the one is the rule of that name of the other.
use mathlib.Core.Path.{sym, ◌∙◌}
use mathlib.Core.List.{List, map}
use Prim.Native.Nat.{ℕ}
use native.Mathlib.Omega.{arith}
use lib.ListN.{length}
use Rattle.spec.specs.Words.{calls, role, binding}
use Rattle.spec.specs.Expression.{Expr, leaf, unary, binary}
use Rattle.spec.specs.Program.{Program}
use Rattle.spec.specs.Split.{Map, Split}
use Rattle.spec.specs.Conditions.{type, kind, post, body_start, kept_back, signature, map_at}
use Rattle.spec.specs.Conditions as conditions
use Rattle.spec.specs.WellFormed.{StepInside, UsedInside}
use Rattle.spec.specs.Ranges.{InRange}
use Rattle.spec.specs.Figure5 as own
use Rattle.spec.specs.Accepted.{LocksTakeEnough}
use Rattle.spec.specs.Maps.{share}
use Rattle.spec.specs.declared.LeafWord.TheVariants.{Newlock, Newrwlock}
use Rattle.spec.specs.declared.UnaryWord.TheVariants.{Read, Unlock, Post, Rdunlock, Wrunlock, Call}
use Rattle.spec.specs.declared.BinaryWord.TheVariants.{Spawn}
use Rattle.spec.proofs.Wide.{post_wide, start_wide, kept_wide, before_wide, after_wide}
use Rattle.calculus.specs.Figure5.{◌∣◌∣◌∣◌⊢◌∶◌∣◌, VAR, INT, LET, IF, WHILE, NEWT, SPAWN, JOIN, REF, WRITE, READ, NEWL, LCK, ULCK, NEWSEM, POST, WAIT, NEWRWLOCK, RDLOCK, RDUNLOCK, WRLOCK, WRUNLOCK, CALL}
use Rattle.soundness.specs.Erasure.{erase}
use Rattle.soundness.proofs.Capabilities.{cap, covers_cap, sum_cap, times_cap}
use Rattle.soundness.proofs.Types.{means, environment, agree_means, means_int, means_lock, means_tid, means_sem, means_rwlock, means_ref, shown_means, lock_wide, tid_wide, sem_wide, rwlock_wide, variable_typed}
use Rattle.soundness.proofs.Signatures.{signed, signatures, signature_found}

-- the variables in scope
abbrev pub variables : conditions.Env → List ℕ
variables Γ = map (λ b. b.0) Γ

module _ {P : Program} (S : Split) (R : InRange P S) (L : LocksTakeEnough S) where
  -- Γ, Ψ ⊢ e : τ, Ψ' with the trees and capabilities of the split
  abbrev pub Figure5 : conditions.Env → Map → Expr → Type 0
  Figure5 Γ Ψ e = S.header.denominator ∣ signatures S ∣ environment S Γ ∣ cap Ψ ⊢ erase e ∶ means S (type S e) ∣ cap (post S e)

  pub split_derivation_is_figure_5 : {Γ : conditions.Env} {Ψ : Map} {e : Expr} → own.Derives S Γ Ψ e →
      UsedInside (length P.procedures) (variables Γ) e → Figure5 Γ Ψ e
  unfolding erase kind share UsedInside StepInside calls role binding
  split_derivation_is_figure_5 {Γ} (own.VAR {v = v} t m) u = rw m (VAR (variable_typed S R Γ v u) (shown_means S R _ _ t))
  split_derivation_is_figure_5 (own.INT t m) u = rw (means_int S R _ t, m) INT
  split_derivation_is_figure_5 (own.LET d₁ d₂ t m) u =
      rw (agree_means S _ _ t, m) (LET (split_derivation_is_figure_5 d₁ u.1) (split_derivation_is_figure_5 d₂ u.2))
  split_derivation_is_figure_5 (own.IF d₁ t₁ c₁ d₂ t₂ c₂) u =
      IF (rw (← agree_means S _ _ t₁) at (split_derivation_is_figure_5 d₁ u.1)) (covers_cap c₁) (rw (← agree_means S _ _ t₂) at (split_derivation_is_figure_5 d₂ u.2)) (covers_cap c₂)
  split_derivation_is_figure_5 (own.WHILE d c₂ c₁ t) u =
      rw (means_int S R _ t) (WHILE (split_derivation_is_figure_5 d u.1) (covers_cap c₂) (covers_cap c₁))
  split_derivation_is_figure_5 (own.NEWT {K = K} t m) u = rw (means_tid S R _ K t, m) NEWT
  split_derivation_is_figure_5 (own.SPAWN {k = k} {v = v} {K = K} {e₁ = e₁} {e₂ = e₂} d₁ t d₂ c i m) u =
      let e = binary Spawn k v e₁ e₂ in
      rw (means_int S R _ i)
      (SPAWN (rw (means_tid S R _ K t) at (split_derivation_is_figure_5 d₁ u.1)) (split_derivation_is_figure_5 d₂ u.2) (covers_cap c)
      (sum_cap (post S e) (body_start S e) (post_wide R e ∙ sym (start_wide R e)) m))
  split_derivation_is_figure_5 (own.JOIN {K = K} {e₁ = e₁} d t i m) u =
      rw (means_int S R _ i)
      (JOIN (rw (means_tid S R _ K t) at (split_derivation_is_figure_5 d u.1))
      (sum_cap (post S e₁) (map_at S K) (post_wide R e₁ ∙ sym (tid_wide S R _ K t)) (sym m)))
  split_derivation_is_figure_5 (own.REF {ρ = ρ} {c = c} {e₁ = e₁} d t a m) u =
      rw (means_ref S R _ ρ c (type S e₁) t a, m) (REF (split_derivation_is_figure_5 d u.1))
  split_derivation_is_figure_5 (own.WRITE {ρ = ρ} {c = c} {e₂ = e₂} d₁ t d₂ a w i m) u =
      rw (means_int S R _ i, m)
      (WRITE (rw (means_ref S R _ ρ c (type S e₂) t a) at (split_derivation_is_figure_5 d₁ u.1)) (split_derivation_is_figure_5 d₂ u.2) (rw m at w))
  split_derivation_is_figure_5 (own.READ {k = k} {v = v} {ρ = ρ} {c = c} {e₁ = e₁} d t a w m) u =
      rw m
      (READ (rw (means_ref S R _ ρ c (type S (unary Read k v e₁)) t a) at (split_derivation_is_figure_5 d u.1)) (rw m at w))
  split_derivation_is_figure_5 (own.NEWL {k = k} {v = v} {Kᵢ = Kᵢ} {Kₒ = Kₒ} t m) u =
      let e = leaf Newlock k v in
      rw (means_lock S R _ Kᵢ Kₒ t)
      (NEWL (covers_cap (L _ Kᵢ Kₒ t)) (sum_cap (post S e) (map_at S Kₒ) (post_wide R e ∙ sym (lock_wide S R _ Kᵢ Kₒ t).1) m))
  split_derivation_is_figure_5 (own.LCK {Kᵢ = Kᵢ} {Kₒ = Kₒ} {e₁ = e₁} d t i m) u =
      rw (means_int S R _ i)
      (LCK (rw (means_lock S R _ Kᵢ Kₒ t) at (split_derivation_is_figure_5 d u.1))
      (sum_cap (post S e₁) (map_at S Kᵢ) (post_wide R e₁ ∙ sym (lock_wide S R _ Kᵢ Kₒ t).0) (sym m)))
  split_derivation_is_figure_5 (own.ULCK {k = k} {v = v} {Kᵢ = Kᵢ} {Kₒ = Kₒ} {e₁ = e₁} d t i m) u =
      let e = unary Unlock k v e₁ in
      rw (means_int S R _ i)
      (ULCK (rw (means_lock S R _ Kᵢ Kₒ t) at (split_derivation_is_figure_5 d u.1))
      (sum_cap (post S e) (map_at S Kₒ) (post_wide R e ∙ sym (lock_wide S R _ Kᵢ Kₒ t).1) m))
  split_derivation_is_figure_5 (own.NEWSEM {K = K} t m) u = rw (means_sem S R _ K t, m) NEWSEM
  split_derivation_is_figure_5 (own.POST {k = k} {v = v} {K = K} {e₁ = e₁} d t i m) u =
      let e = unary Post k v e₁ in
      rw (means_int S R _ i)
      (POST (rw (means_sem S R _ K t) at (split_derivation_is_figure_5 d u.1))
      (sum_cap (post S e) (map_at S K) (post_wide R e ∙ sym (sem_wide S R _ K t)) m))
  split_derivation_is_figure_5 (own.WAIT {K = K} {e₁ = e₁} d t i m) u =
      rw (means_int S R _ i)
      (WAIT (rw (means_sem S R _ K t) at (split_derivation_is_figure_5 d u.1))
      (sum_cap (post S e₁) (map_at S K) (post_wide R e₁ ∙ sym (sem_wide S R _ K t)) (sym m)))
  split_derivation_is_figure_5 (own.NEWRWLOCK {k = k} {N = N} {Kr = Kr} {Kw = Kw} t c m) u =
      let e = leaf Newrwlock k N in
      rw (means_rwlock S R _ Kr Kw t)
      (NEWRWLOCK (times_cap N (map_at S Kr) c) (sum_cap (post S e) (map_at S Kw) (post_wide R e ∙ sym (rwlock_wide S R _ Kr Kw t).1) m))
  split_derivation_is_figure_5 (own.RDLOCK {Kr = Kr} {Kw = Kw} {e₁ = e₁} d t i m) u =
      rw (means_int S R _ i)
      (RDLOCK (rw (means_rwlock S R _ Kr Kw t) at (split_derivation_is_figure_5 d u.1))
      (sum_cap (post S e₁) (map_at S Kr) (post_wide R e₁ ∙ sym (rwlock_wide S R _ Kr Kw t).0) (sym m)))
  split_derivation_is_figure_5 (own.RDUNLOCK {k = k} {v = v} {Kr = Kr} {Kw = Kw} {e₁ = e₁} d t i m) u =
      let e = unary Rdunlock k v e₁ in
      rw (means_int S R _ i)
      (RDUNLOCK (rw (means_rwlock S R _ Kr Kw t) at (split_derivation_is_figure_5 d u.1))
      (sum_cap (post S e) (map_at S Kr) (post_wide R e ∙ sym (rwlock_wide S R _ Kr Kw t).0) m))
  split_derivation_is_figure_5 (own.WRLOCK {Kr = Kr} {Kw = Kw} {e₁ = e₁} d t i m) u =
      rw (means_int S R _ i)
      (WRLOCK (rw (means_rwlock S R _ Kr Kw t) at (split_derivation_is_figure_5 d u.1))
      (sum_cap (post S e₁) (map_at S Kw) (post_wide R e₁ ∙ sym (rwlock_wide S R _ Kr Kw t).1) (sym m)))
  split_derivation_is_figure_5 (own.WRUNLOCK {k = k} {v = v} {Kr = Kr} {Kw = Kw} {e₁ = e₁} d t i m) u =
      let e = unary Wrunlock k v e₁ in
      rw (means_int S R _ i)
      (WRUNLOCK (rw (means_rwlock S R _ Kr Kw t) at (split_derivation_is_figure_5 d u.1))
      (sum_cap (post S e) (map_at S Kw) (post_wide R e ∙ sym (rwlock_wide S R _ Kr Kw t).1) m))
  split_derivation_is_figure_5 (own.CALL {k = k} {f = f} {e₁ = e₁} d a b t m) u =
      let e = unary Call k f e₁ in
      let g = signature S f in
      rw (agree_means S _ _ t)
      (CALL {Ψkeep = cap (kept_back S e)} {g = signed S g} (signature_found S f (omega (arith, u.0, R.signatures_counted)))
      (rw (agree_means S _ _ a) at (split_derivation_is_figure_5 d u.1))
      (sum_cap (map_at S g.before) (kept_back S e) (before_wide R f ∙ sym (kept_wide R e)) (sym b))
      (sum_cap (map_at S g.after) (kept_back S e) (after_wide R f ∙ sym (kept_wide R e)) (sym m)))
