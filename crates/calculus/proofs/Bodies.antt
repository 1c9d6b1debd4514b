-- The bodies of procedures at run time: each keeps its signature, so a call may become the body with the argument put for its parameter.
use Rattle.std.proofs.Common.{Some, slice_get}
use Prim.Native.Nat.{ℕ, zero, suc}
use mathlib.Core.Path.{◌≡◌, refl}
use mathlib.Core.List.{List}
use native.Mathlib.Omega.{arith}
use Rattle.calculus.specs.Expression.{Value, substitute, Procedure}
use Rattle.calculus.specs.Capability.{Cap}
use Rattle.calculus.specs.Figure5.{Signature, Signatures, Env, empty, bind, BodiesDerived, no_procedures, procedure}
use Rattle.calculus.proofs.Laws.Maps.{some_injective, none_is_not_some}
use Rattle.calculus.proofs.Laws.Order.{Gains, Pays, ≥-refl}
use Rattle.calculus.proofs.Typing.{ValueTyped, Typed, typing_weakens, derived_is_typed}
use Rattle.calculus.proofs.Substitution.{bind_extends_empty, substitution_keeps}
use Rattle.calculus.proofs.Framing.{typing_frames}

-- The body of p has the type and the capabilities of g, whatever names there are.
abbrev pub KeepsSignature : ℕ → Signatures → Procedure → Signature → Type 0
KeepsSignature D S p g =
    (N : Env) → Typed D S N (bind empty p.parameter g.argument) g.before p.body g.result g.after

-- Procedure f is there and keeps the signature g.
pub record BodyTyped (D : ℕ) (S : Signatures) (P : List Procedure) (f : ℕ) (g : Signature) : Type 0 where
  pub p : Procedure
  pub there : slice_get P f ≡ Some p
  pub keeps : KeepsSignature D S p g

-- Every procedure that has a signature is there and keeps it.
abbrev pub BodiesTyped : ℕ → Signatures → List Procedure → Type 0
BodiesTyped D S P = (f : ℕ) (g : Signature) → slice_get S f ≡ Some g → BodyTyped D S P f g

-- ---- Figure 5 gives it

pub bodies_are_typed : {D : ℕ} {S : Signatures} {ps : List Procedure} {gs : Signatures} → BodiesDerived D S ps gs → (f : ℕ) (g : Signature) →
    slice_get gs f ≡ Some g → BodyTyped D S ps f g
bodies_are_typed no_procedures f g e = none_is_not_some e
bodies_are_typed {D} {S} (procedure {p = p} {g = h} derived enough rest) zero g e =
    let keeps : KeepsSignature D S p h = λ N. typing_weakens (derived_is_typed N derived) ≥-refl enough in
    record { p = p; there = refl; keeps = rw (some_injective e) at keeps }
bodies_are_typed (procedure derived enough rest) (suc f) g e =
    let b = bodies_are_typed rest f g e in record { p = b.p; there = b.there; keeps = b.keeps }

-- ---- What a call becomes

-- The body with its argument, run beside what the caller keeps back.
pub body_in_place : {D : ℕ} {S : Signatures} {N : Env} {Ψ Ψkeep Φ : Cap} {v : Value} (p : Procedure) (g : Signature) → KeepsSignature D S p g →
    ValueTyped N v g.argument → Pays g.before Ψ Ψkeep → Gains Φ g.after Ψkeep →
    Typed D S N empty Ψ (substitute p.parameter v p.body) g.result Φ
body_in_place {N} {Ψkeep} p g keeps argument pays gains =
    let x = p.parameter in
    let alone = substitution_keeps empty x argument (bind_extends_empty x g.argument) (keeps N) in
    typing_weakens (typing_frames Ψkeep alone) (record { at = λ ρ. omega (arith, pays.at ρ) }) (record { at = λ ρ. omega (arith, gains.at ρ) })
