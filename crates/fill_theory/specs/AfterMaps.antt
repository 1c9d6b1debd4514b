-- After-maps: those that pass all flow and access conditions, and the greatest of them. The conditions are those of `conditions_of`, the
-- table of document 01, of the split with the maps filled in.
use Rattle.std.specs.Prelude.{◌≡◌, List, [], map, ℕ, ◌≤◌, ◌<◌, length, get_or}
use Rattle.spec.specs.Program.{Program}
use Rattle.spec.specs.Split.{Map, Row, Split, map_at}
use Rattle.spec.specs.Maps.{share}
use Rattle.spec.specs.StepContexts.{NumberedCondition, claims_of, is_type, is_flow, only}
use Rattle.spec.specs.FirstFalse.{AllHold}
use Rattle.spec.specs.declared.Location.{Location}
use Rattle.fill_theory.specs.Filled.{filled}

-- ------------------------------------------------------------------ two sorts of claims

-- the (T) claims, and the (F) and (A) claims
unfoldable pub type_claims : Program → Split → List NumberedCondition
type_claims P S = only is_type (claims_of S P)

unfoldable pub flow_claims : Program → Split → List NumberedCondition
flow_claims P S = only is_flow (claims_of S P)

-- ------------------------------------------------------------------ after-maps

-- "some after-maps of whole numbers, however large, pass all flow and access conditions": a map for each step, with a number
-- for each location
pub record AfterMaps (P : Program) (S : Split) (σ : List Map) : Type 0 where
  pub counted : length σ ≡ length P.steps
  pub wide : (i : ℕ) → i < length σ → length (get_or σ i []) ≡ S.header.locations
  pub holding : AllHold (flow_claims P (filled S σ))

-- σ is nowhere above γ
unfoldable pub NowhereAbove : (σ γ : List Map) → Type 0
NowhereAbove σ γ = (i : ℕ) (p : Location) → share (get_or σ i []) p ≤ share (get_or γ i []) p

-- "each the greatest possible at every location"
pub record GreatestMaps (P : Program) (S : Split) (γ : List Map) : Type 0 where
  pub after_maps : AfterMaps P S γ
  pub greatest : (σ : List Map) → AfterMaps P S σ → NowhereAbove σ γ

-- the after-maps that the rows of a whole sheet show
unfoldable pub shown_maps : Split → List Map
shown_maps S = map (λ (r : Row). map_at S r.post) S.rows
