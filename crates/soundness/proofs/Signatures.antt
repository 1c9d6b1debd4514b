-- The signatures of a split as signatures of the calculus: their types as trees, their maps as capabilities.
use Rattle.std.proofs.Common.{Some, slice_get}
use mathlib.Core.Path.{◌≡◌, refl}
use mathlib.Core.List.{List, [], ◌∷◌, map}
use Prim.Native.Nat.{ℕ, zero, suc, ◌<◌}
use native.Mathlib.Omega.{arith}
use lib.ListN.{length, get_or}
use Rattle.spec.specs.declared.Signature as sheet
use Rattle.spec.specs.Split.{no_signature, Split, map_at}
use Rattle.spec.specs.Conditions.{signature}
use Rattle.calculus.specs.Figure5.{Signature, Signatures}
use Rattle.soundness.proofs.Capabilities.{cap}
use Rattle.soundness.proofs.Types.{means}

module _ (S : Split) where
  abbrev pub signed : sheet.Signature → Signature
  signed g = record {
    before = cap (map_at S g.before);
    argument = means S g.argument;
    after = cap (map_at S g.after);
    result = means S g.result;
  }

  abbrev pub signatures : Signatures
  signatures = map signed S.signatures

  -- one keeps its place
  at_its_place : (f : ℕ) (gs : List sheet.Signature) → f < length gs → slice_get (map signed gs) f ≡ Some (signed (get_or gs f no_signature))
  at_its_place f [] l = absurd (omega (arith, l))
  at_its_place zero (g ∷ gs) l = refl
  at_its_place (suc f) (g ∷ gs) l = at_its_place f gs (omega (arith, l))

  -- that of a procedure that is there
  pub signature_found : (f : ℕ) → f < length S.signatures → slice_get signatures f ≡ Some (signed (signature S f))
  unfolding signature
  signature_found f l = at_its_place f S.signatures l
