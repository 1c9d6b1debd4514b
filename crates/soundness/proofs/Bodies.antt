-- The derivation of a program: each body's and the root's, each of them one of Figure 5.
use mathlib.Core.Path.{◌≡◌}
use mathlib.Core.List.{List, [], ◌∷◌, map}
use Prim.Native.Nat.{ℕ, ◌+◌}
use native.Mathlib.Numerals.{add-one}
use native.Mathlib.Omega.{arith}
use lib.ListN.{length, drop, drop_of_length-le}
use lib.Seq.{drop-cons}
use Rattle.spec.specs.Expression.{Procedure}
use Rattle.spec.specs.Program.{Program}
use Rattle.spec.specs.Split.{Map, no_signature, Split}
use Rattle.spec.specs.Conditions.{signature}
use Rattle.spec.specs.WellFormed.{UsedInside, AllUsedInside}
use Rattle.spec.specs.Ranges.{InRange}
use Rattle.spec.specs.Figure5 as own
use Rattle.spec.specs.Accepted.{LocksTakeEnough}
use Rattle.calculus.specs.Figure5.{BodiesDerived, no_procedures, procedure, Derivation}
use Rattle.soundness.specs.Erasure.{erase_procedure, erase_program}
use Rattle.soundness.proofs.Capabilities.{cap, covers_cap}
use Rattle.soundness.proofs.Types.{agree_means}
use Rattle.soundness.proofs.Signatures.{signed, signatures}
use Rattle.soundness.proofs.Derivation.{split_derivation_is_figure_5}

module _ {P : Program} (S : Split) (R : InRange P S) (L : LocksTakeEnough S) where
  -- these bodies and the root use their own variables alone, and call procedures that are there
  abbrev Inside : List Procedure → Type 0
  Inside ps = AllUsedInside (length P.procedures) ps P.root

  root_inside : (ps : List Procedure) → Inside ps → UsedInside (length P.procedures) [] P.root
  unfolding AllUsedInside
  root_inside [] u = u
  root_inside (p ∷ ps) u = root_inside ps u.1

  -- the procedures from number f on, with the signatures from there on
  bodies_are_figure_5 : (f : ℕ) (ps : List Procedure) → f + length ps ≡ length S.signatures → own.BodiesDerive S f ps → Inside ps →
      BodiesDerived S.header.denominator (signatures S) (map erase_procedure ps) (map (signed S) (drop f S.signatures))
  unfolding AllUsedInside signature
  bodies_are_figure_5 f [] l own.no_procedures u = rw (drop_of_length-le S.signatures {i = f} (omega (arith, l))) no_procedures
  bodies_are_figure_5 f (p ∷ ps) l (own.procedure b bs) u =
      let body = split_derivation_is_figure_5 S R L b.derives u.0 in
      let others = bodies_are_figure_5 (f + 1) ps (omega (arith, l)) bs u.1 in
      rw (drop-cons S.signatures f no_signature (omega (arith, l)))
      (procedure (rw (agree_means S _ _ b.result) at body) (covers_cap b.after) (rw (add-one f) at others))

  pub program_derivation_is_figure_5 : {Ψ : Map} → own.BodiesDerive S 0 P.procedures → own.Derives S [] Ψ P.root →
      Inside P.procedures → Derivation S.header.denominator (signatures S) (cap Ψ) (erase_program P)
  program_derivation_is_figure_5 bodies root u = record {
    τ = _;
    Ψ₁ = _;
    root = split_derivation_is_figure_5 S R L root (root_inside P.procedures u);
    bodies = bodies_are_figure_5 0 P.procedures (omega (arith, R.signatures_counted)) bodies u;
  }
