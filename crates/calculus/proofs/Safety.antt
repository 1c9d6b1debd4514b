-- The main theorem: what Figure 5 derives, from a start of at most the whole, is safe (Theorem 2.6, with halts); so its cell steps may be taken
-- in either order.
use Rattle.std.proofs.Common.{Option, None, Some}
use Prim.Native.Nat.{ℕ, ◌≤◌, ◌<◌}
use mathlib.Core.Path.{◌≡◌, refl}
use mathlib.Core.List.{List, [], ◌∷◌}
use native.Mathlib.Decide.{ℕ_discrete}
use native.Mathlib.Omega.{arith}
use Rattle.calculus.specs.Expression.{choose, Procedure, Program}
use Rattle.calculus.specs.State.{unused, identifier, State, Move, update}
use Rattle.calculus.specs.Reduction.{reduce, or_else, attempt, states, start_state}
use Rattle.calculus.specs.Claim.{Every, RaceFree, HaltsWell, Safe, InEitherOrder}
use Rattle.calculus.specs.Capability.{Cap, nothing}
use Rattle.calculus.specs.Figure5.{Ty, tid_type, Signatures, Env, empty, bind, Derivation}
use Rattle.calculus.proofs.Laws.Maps.{update_same, update_other}
use Rattle.calculus.proofs.Laws.Order.{≥-refl}
use Rattle.calculus.proofs.Typing.{Typed, typing_weakens, derived_is_typed}
use Rattle.calculus.proofs.Bodies.{BodiesTyped, bodies_are_typed}
use Rattle.calculus.proofs.Pool.{ThreadTyped, pool_nil, pool_cons}
use Rattle.calculus.proofs.Laws.Total.{total_of_zeros}
use Rattle.calculus.proofs.Invariant.{SlotTyped, slot_unused, slot_identifier, load, keeps, kept, WellTyped}
use Rattle.calculus.proofs.Preservation.{step_preserves}
use Rattle.calculus.proofs.RaceFreedom.{well_typed_is_race_free}
use Rattle.calculus.proofs.Halting.{well_typed_halts_well}
use Rattle.calculus.proofs.EitherOrder.{safe_is_in_either_order}

-- ---- The start state

start_state_slots : (N : Env) (n : ℕ) → SlotTyped N (update (λ m. unused) 0 identifier n) (bind empty 0 (tid_type nothing) n)
start_state_slots N n = by_cases (ℕ_discrete n 0)
  where
    by_cases : (d : Dec (n ≡ 0)) → SlotTyped N (choose d identifier unused) (choose d (Some (tid_type nothing)) None)
    by_cases (yes e) = slot_identifier
    by_cases (no e) = slot_unused

start_state_keeps_nothing : (ρ n : ℕ) → kept (update (λ m. unused) 0 identifier) (bind empty 0 (tid_type nothing)) ρ n ≡ 0
start_state_keeps_nothing ρ n = by_cases (ℕ_discrete n 0)
  where
    by_cases : (d : Dec (n ≡ 0)) → keeps (choose d identifier unused) (load (choose d (Some (tid_type nothing)) None)) ρ ≡ 0
    by_cases (yes e) = refl
    by_cases (no e) = refl

-- The one thread holds the start; its identifier lends nothing.
pub start_state_is_well_typed : {D : ℕ} {S : Signatures} {Ψ Φ : Cap} {τ : Ty} (p : Program) → ((N : Env) → Typed D S N empty Ψ p.root τ Φ) →
    ((ρ : ℕ) → Ψ ρ ≤ D) → WellTyped D S (start_state p)
unfolding start_state
start_state_is_well_typed {Ψ} {τ} p typed at_most_whole =
    let N : Env = bind empty 0 (tid_type nothing) in
    let body = typing_weakens {Φ' = nothing} (typed N) ≥-refl (record { at = λ ρ. omega arith }) in
    let thread : ThreadTyped _ _ N (record { tid = 0; body = p.root }) Ψ =
    record { K = nothing; τ = τ; known = update_same empty 0 (Some (tid_type nothing)); typed = body } in
    record {
      N = N;
      held = Ψ;
      pool = pool_cons {Φ = nothing} {Ω = Ψ} thread pool_nil (record { at = λ ρ. omega arith });
      slots = start_state_slots N;
      budget = λ ρ b. omega (arith, at_most_whole ρ, total_of_zeros _ (start_state_keeps_nothing ρ) b);
      top = 1;
      above = λ n h. update_other (λ m. unused) 0 n identifier (omega arith);
    }

-- ---- All the way

module _ {D : ℕ} {S : Signatures} (P : List Procedure) (bodies : BodiesTyped D S P) where
  pub attempt_preserves : {s : State} (m : Move) → WellTyped D S s → WellTyped D S (attempt P s m)
  unfolding attempt
  attempt_preserves {s} m I = by_cases (reduce P s m) refl
    where
      by_cases : (o : Option State) → reduce P s m ≡ o → WellTyped D S (or_else o s)
      by_cases None e = I
      by_cases (Some s') e = step_preserves P bodies I m e

  -- What holds of every well-typed state holds of every state on the way.
  pub run_preserves : (Q : State → Type 0) → ((s : State) → WellTyped D S s → Q s) → (ms : List Move) (s : State) → WellTyped D S s →
      Every Q (states P ms s)
  unfolding states
  run_preserves Q f [] s I = (f s I, tt)
  run_preserves Q f (m ∷ ms) s I = (f s I, run_preserves Q f ms (attempt P s m) (attempt_preserves m I))

-- A program that is typed, whatever names there are, is safe.
pub typed_is_safe : {D : ℕ} {S : Signatures} {Ψ Φ : Cap} {τ : Ty} (p : Program) → 0 < D → BodiesTyped D S p.procedures →
    ((N : Env) → Typed D S N empty Ψ p.root τ Φ) → ((ρ : ℕ) → Ψ ρ ≤ D) → Safe p
typed_is_safe p positive bodies typed at_most_whole ms =
    run_preserves p.procedures bodies (λ s. RaceFree s × HaltsWell p.procedures s)
    (λ s I. (well_typed_is_race_free positive I, well_typed_halts_well p.procedures bodies I)) ms (start_state p)
    (start_state_is_well_typed p typed at_most_whole)

-- The main theorem. With D = 0 everything would be allowed to write; a sheet's D is 1 or more.
pub derived_is_safe : {D : ℕ} {S : Signatures} {Ψ : Cap} {p : Program} → 0 < D → Derivation D S Ψ p → ((ρ : ℕ) → Ψ ρ ≤ D) → Safe p
derived_is_safe {p} positive derived at_most_whole =
    typed_is_safe p positive (bodies_are_typed derived.bodies) (λ N. derived_is_typed N derived.root) at_most_whole

pub derived_is_in_either_order : {D : ℕ} {S : Signatures} {Ψ : Cap} {p : Program} → 0 < D → Derivation D S Ψ p → ((ρ : ℕ) → Ψ ρ ≤ D) →
    InEitherOrder p
derived_is_in_either_order {p} positive derived at_most_whole = safe_is_in_either_order p (derived_is_safe positive derived at_most_whole)
