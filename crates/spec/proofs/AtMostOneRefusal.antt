-- Of the false conditions of a pair a refusal names the earliest, so that one refusal alone fits.
use mathlib.Core.Path.{◌≡◌, sym, ap, ◌∙◌}
use mathlib.Core.Logic.{◌⊎◌}
use mathlib.Core.List.{List}
use Prim.Native.Nat.{ℕ}
use Rattle.spec.specs.Program.{Program}
use Rattle.spec.specs.Split.{Split}
use Rattle.spec.specs.StepContexts.{NumberedCondition, claims_of}
use Rattle.spec.specs.FirstFalse.{Holds, Earlier, Refuted}
use Rattle.spec.specs.declared.Refusal.{Refusal}
use Rattle.spec.specs.declared.Purpose.TheVariants.{Check}
use Rattle.spec.proofs.Outcomes.{on_injective}
use Rattle.spec.proofs.Sheets.{well_formed_sheets}
use Rattle.spec.proofs.Claims.{one_first}
use Rattle.spec.proofs.Earlier.{Among, others_later}

-- any other claim of the pair that is false is later than the one that a refusal names
pub named_is_earliest : {p s : List ℕ} {r : Refusal} (f : Refuted p s r) (d : NumberedCondition) → Among d (claims_of f.S f.P) → (Holds d.condition → ⊥) →
    (d ≡ f.first.here) ⊎ Earlier f.first.here d
named_is_earliest f d among is_false = others_later f.first d f.in_order among is_false

pub one_refusal : {p s : List ℕ} {r q : Refusal} → Refuted p s r → Refuted p s q → r ≡ q
one_refusal {p} {s} f g =
    let sheets = on_injective (sym (well_formed_sheets Check p s f.judgeable.sheets) ∙ well_formed_sheets Check p s g.judgeable.sheets) in
    one_first (ap (λ (z : Program × Split). claims_of z.1 z.0) sheets) f.first g.first
