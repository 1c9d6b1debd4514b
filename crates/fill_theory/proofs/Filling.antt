-- Request (viii): after-maps exist exactly when the pass finds them; then those are the greatest, and the split with them filled in
-- meets all conditions.
use Rattle.std.proofs.Common.{Some, Ok}
use mathlib.Core.Path.{◌≡◌, refl, ap, sym, ◌∙◌}
use mathlib.Core.List.{List, []}
use mathlib.Core.Logic.{◌↔◌}
use Prim.Native.Nat.{ℕ, ◌+◌, ◌≤◌, ◌<◌}
use native.Mathlib.Omega.{arith}
use native.Mathlib.Decide.{dec_lt}
use lib.ListN.{length, get_or, length-map, get_or-eq_default}
use lib.Seq.{ext_get_or}
use Rattle.spec.specs.Expression.{line_of}
use Rattle.spec.specs.StepContexts.{claims_of}
use Rattle.spec.specs.Program.{Program}
use Rattle.spec.specs.Split.{Map, Split}
use Rattle.spec.specs.Maps.{share, over_whole}
use Rattle.spec.specs.Verdict.{locks_take_enough, refuse_over, conditions_hold, type_conditions_hold, start_at_most_one}
use Rattle.spec.specs.FirstFalse.{AllHold}
use Rattle.spec.specs.WellFormed.{WellFormedProgram}
use Rattle.spec.specs.Ranges.{InRange}
use Rattle.spec.specs.declared.Location.{Location}
use Rattle.spec.proofs.Claims.{none_false_all_hold, all_hold_none_false}
use Rattle.fill_theory.specs.Filled.{filled}
use Rattle.fill_theory.specs.AfterMaps.{type_claims, flow_claims, AfterMaps, NowhereAbove, GreatestMaps, shown_maps}
use Rattle.fill_theory.specs.Found.{for_each}
use Rattle.fill_theory.specs.Flow.{steps_of, RootsPass}
use Rattle.fill_theory.specs.Pass.{posts_of_roots}
use Rattle.fill_theory.specs.FlowOf.{roots_of}
use Rattle.fill_theory.specs.GreatestMaps.{posts_at, maps_of_steps, greatest_maps}
use Rattle.fill_theory.proofs.Found.{some_injective, bind_through, finds_bind}
use Rattle.fill_theory.proofs.Along.{at_along}
use Rattle.fill_theory.proofs.Roots.{roots_counted, roots_pass, roots_greatest, roots_solvable}
use Rattle.fill_theory.proofs.Kept.{start_map_kept, enough_kept}
use Rattle.fill_theory.proofs.Types.{types_kept}
use Rattle.fill_theory.proofs.Sorts.{all_hold_sorts}
use Rattle.fill_theory.proofs.Locations.{Everywhere}
use Rattle.fill_theory.proofs.Placed.{Showing, roots_steps, steps_sized, filled_shows, shown_map, split_shows}
use Rattle.fill_theory.proofs.EachLocation.{at, roots_at_each_location}
use Rattle.fill_theory.proofs.Columns.{each_found, find_each, maps_counted_lem, maps_wide, maps_share}

-- what stands among the columns is what the pass finds
found_at : (P : Program) (S : Split) (columns : List (List ℕ)) → for_each (posts_at P S) 0 S.header.locations ≡ Some columns
    → (p : Location) → p.0 < S.header.locations → posts_of_roots (roots_of S p P) ≡ Some (get_or columns p.0 [])
unfolding posts_at
found_at P S columns h p l =
    let z : 0 + p.0 ≡ p.0 = omega arith in
    rw z at ((each_found (posts_at P S) [] 0 S.header.locations columns h).1 p.0 l)

maps_shown : (S : Split) → length (shown_maps S) ≡ length S.rows
unfolding shown_maps
maps_shown S = simp length-map

module _ {text : List ℕ} (P : Program) (S : Split) (W : WellFormedProgram text P) (R : InRange P S) where
  abbrev L : ℕ
  L = S.header.locations

  -- posts by step that pass at a location
  abbrev PassesAt : Location → (ℕ → ℕ) → Type 0
  PassesAt p a = RootsPass a 0 (roots_of S p P)

  roots_counted_steps : (p : Location) → steps_of (roots_of S p P) ≡ length P.steps
  unfolding roots_of
  roots_counted_steps p = roots_steps S p 0 P.procedures P.root ∙ sym (steps_sized P W)

  -- ------------------------------------------------------------------ after-maps, location by location

  -- the conditions of a split that shows the maps σ
  flow_claims_at : {σ : List Map} {T : Split} → Showing P.steps S σ T → AllHold (flow_claims P T) ↔ Everywhere L (λ p. PassesAt p (at σ p))
  unfolding flow_claims claims_of roots_of
  flow_claims_at G = roots_at_each_location G 0 0 P.procedures P.root W.numbering (omega (arith, steps_sized P W))

  filled_claims_at : (σ : List Map) → length σ ≡ length P.steps → ((i : ℕ) → i < length σ → length (get_or σ i []) ≡ L)
      → AllHold (flow_claims P (filled S σ)) ↔ Everywhere L (λ p. PassesAt p (at σ p))
  filled_claims_at σ counted wide = flow_claims_at (filled_shows (record { in_range = R; counted = counted; wide = wide }))

  passing : (σ : List Map) → AfterMaps P S σ → (p : Location) → p.0 < L → PassesAt p (at σ p)
  passing σ A = ((filled_claims_at σ A.counted A.wide).0 A.holding).at

  -- ------------------------------------------------------------------ what the pass finds

  -- γ has the posts of the pass at each location
  record Found (γ : List Map) : Type 0 where
    counted : length γ ≡ length P.steps
    wide : (i : ℕ) → i < length γ → length (get_or γ i []) ≡ L
    passes : (p : Location) → p.0 < L → PassesAt p (at γ p)
    greatest : (p : Location) → p.0 < L → (a : ℕ → ℕ) → PassesAt p a → (i : ℕ) → i < length P.steps → a i ≤ at γ p i

  -- the maps made from the posts at each location
  made : (columns : List (List ℕ)) → for_each (posts_at P S) 0 L ≡ Some columns → Found (maps_of_steps columns 0 (length P.steps))
  made columns h = record {
    counted = maps_counted_lem columns 0 n;
    wide = λ i l. maps_wide columns n i (omega (arith, maps_counted_lem columns 0 n)) ∙ (each_found (posts_at P S) [] 0 L columns h).0;
    passes = λ p l. roots_pass (at γ p) 0 (roots_of S p P) (pass_at p l)
        (at_along ◌≡◌ (at γ p) 0 (posts p) (λ j q. let z : 0 + j ≡ j = omega arith in rw z (shown p j (omega (arith, counted_at p l)))));
    greatest = λ p l a q i k.
        rw (shown p i k)
        (roots_greatest (roots_of S p P) (posts p) (pass_at p l) a q i (omega (arith, roots_counted_steps p)));
  }
    where
      n : ℕ
      n = length P.steps

      γ : List Map
      γ = maps_of_steps columns 0 n

      posts : Location → List ℕ
      posts p = get_or columns p.0 []

      pass_at : (p : Location) → p.0 < L → posts_of_roots (roots_of S p P) ≡ Some (posts p)
      pass_at p l = found_at P S columns h p l

      counted_at : (p : Location) → p.0 < L → length (posts p) ≡ n
      counted_at p l = roots_counted (roots_of S p P) (pass_at p l) ∙ roots_counted_steps p

      shown : (p : Location) (j : ℕ) → j < n → at γ p j ≡ get_or (posts p) j 0
      shown p j k = maps_share columns n j k p

  found : (γ : List Map) → greatest_maps P S ≡ Some γ → Found γ
  unfolding greatest_maps
  found γ h =
      bind_through _ _ h λ columns h₁ e.
      rw (some_injective e) at (made columns h₁)

  -- ------------------------------------------------------------------ solvable and greatest

  -- outside the sheet's steps and locations a map has nothing
  nothing_past : (σ : List Map) → ((i : ℕ) → i < length σ → length (get_or σ i []) ≡ L) → (i : ℕ) (p : Location) → L ≤ p.0 → at σ p i ≡ 0
  unfolding share
  nothing_past σ wide i p out = go (dec_lt i (length σ))
    where
      go : Dec (i < length σ) → get_or (get_or σ i []) p.0 0 ≡ 0
      go (yes l) = get_or-eq_default (get_or σ i []) 0 (omega (arith, wide i l))
      go (no l) = rw (get_or-eq_default σ [] {n = i} (omega (arith, l)))

  nothing_behind : (σ : List Map) (i : ℕ) (p : Location) → length σ ≤ i → at σ p i ≡ 0
  unfolding share
  nothing_behind σ i p l = rw (get_or-eq_default σ [] {n = i} l)

  pub pass_is_greatest : (γ : List Map) → greatest_maps P S ≡ Some γ → GreatestMaps P S γ
  unfolding NowhereAbove
  pass_is_greatest γ h = record {
    after_maps = record {
      counted = F.counted;
      wide = F.wide;
      holding = (filled_claims_at γ F.counted F.wide).1 (record { at = F.passes });
    };
    greatest = λ σ A i p. above σ A i p (dec_lt p.0 L) (dec_lt i (length P.steps));
  }
    where
      F : Found γ
      F = found γ h

      above : (σ : List Map) → AfterMaps P S σ → (i : ℕ) (p : Location) → Dec (p.0 < L) → Dec (i < length P.steps) → at σ p i ≤ at γ p i
      above σ A i p (no l) d = omega (arith, nothing_past σ A.wide i p (omega (arith, l)))
      above σ A i p (yes l) (no k) = omega (arith, nothing_behind σ i p (omega (arith, k, A.counted)))
      above σ A i p (yes l) (yes k) = F.greatest p l (at σ p) (passing σ A p l) i k

  pub solved_is_found : (σ : List Map) → AfterMaps P S σ → (γ : List Map) × (greatest_maps P S ≡ Some γ)
  unfolding greatest_maps posts_at
  solved_is_found σ A =
      let (columns, h) = find_each (posts_at P S) 0 L (λ q l.
      let p : Location = record { 0 = 0 + q } in
      (roots_solvable (roots_of S p P)).1 (at σ p, passing σ A p (omega arith))) in
      (maps_of_steps columns 0 (length P.steps), finds_bind _ _ h refl)

  -- the pass finds maps exactly when some after-maps pass all flow and access conditions
  pub solvable : ((γ : List Map) × (greatest_maps P S ≡ Some γ)) ↔ ((σ : List Map) × AfterMaps P S σ)
  solvable = (λ h. (h.0, (pass_is_greatest h.0 h.1).after_maps), λ h. solved_is_found h.0 h.1)

  -- there is one greatest
  greatest_one : (γ δ : List Map) → GreatestMaps P S γ → GreatestMaps P S δ → γ ≡ δ
  unfolding NowhereAbove share
  greatest_one γ δ G D =
      let A = G.after_maps in
      let B = D.after_maps in
      ext_get_or [] γ δ (A.counted ∙ sym B.counted) (λ i l.
      ext_get_or 0 (get_or γ i []) (get_or δ i []) (A.wide i l ∙ sym (B.wide i (omega (arith, A.counted, B.counted))))
      (λ p k. let q : Location = record { 0 = p } in omega (arith, G.greatest δ B i q, D.greatest γ A i q)))

  -- the pass finds γ exactly when γ is the greatest of the after-maps
  pub found_exactly_greatest : (γ : List Map) → greatest_maps P S ≡ Some γ ↔ GreatestMaps P S γ
  found_exactly_greatest γ =
      (pass_is_greatest γ, λ G. let (δ, h) = solved_is_found γ G.after_maps in h ∙ ap Some (greatest_one δ γ (pass_is_greatest δ h) G))

  -- ------------------------------------------------------------------ the filled split

  -- the filled split meets all conditions exactly when every (T) condition is met and the new maps pass the others
  pub filled_ruled : (σ : List Map) → conditions_hold P (filled S σ) ≡ Ok tt ↔ ((type_conditions_hold P S ≡ Ok tt) × AllHold (flow_claims P (filled S σ)))
  unfolding conditions_hold type_conditions_hold type_claims flow_claims
  filled_ruled σ =
      let T = types_kept R σ in (
        (λ h.
            let s = (all_hold_sorts _).0 (none_false_all_hold _ h) in
            (all_hold_none_false _ (rw T at s.0), s.1)),
        (λ s. all_hold_none_false _ ((all_hold_sorts _).1 (rw T (none_false_all_hold _ s.0), s.1))),
      )

  -- 44 and 30 come out as before
  pub locks_kept : (σ : List Map) → locks_take_enough (filled S σ) ≡ locks_take_enough S
  locks_kept σ = enough_kept R σ

  pub start_kept : (σ : List Map) → start_at_most_one P (filled S σ) ≡ start_at_most_one P S
  unfolding start_at_most_one filled
  start_kept σ = ap (λ m. refuse_over (line_of P.root) (over_whole S.header.denominator 0 m)) (start_map_kept R σ)

  -- "The filled pair must be accepted"
  pub filled_accepted : (γ : List Map) → type_conditions_hold P S ≡ Ok tt → greatest_maps P S ≡ Some γ → conditions_hold P (filled S γ) ≡ Ok tt
  filled_accepted γ t h = (filled_ruled γ).1 (t, (pass_is_greatest γ h).after_maps.holding)

  -- ------------------------------------------------------------------ a whole sheet

  shown_after_maps : conditions_hold P S ≡ Ok tt → AfterMaps P S (shown_maps S)
  unfolding conditions_hold flow_claims
  shown_after_maps h = record {
    counted = counted;
    wide = wide;
    holding = (filled_claims_at (shown_maps S) counted wide).1 ((flow_claims_at (split_shows R)).0 ((all_hold_sorts _).0 (none_false_all_hold _ h)).1);
  }
    where
      as_many : length (shown_maps S) ≡ length S.rows
      as_many = maps_shown S

      counted : length (shown_maps S) ≡ length P.steps
      counted = as_many ∙ R.rows_counted

      wide : (i : ℕ) → i < length (shown_maps S) → length (get_or (shown_maps S) i []) ≡ L
      wide i l = (shown_map R i (omega (arith, as_many))).wide

  -- a sheet that is accepted can be filled once its after-maps are taken out, and nowhere with less than it showed
  pub accepted_is_filled : conditions_hold P S ≡ Ok tt → (γ : List Map) × (greatest_maps P S ≡ Some γ) × NowhereAbove (shown_maps S) γ
  accepted_is_filled h =
      let A = shown_after_maps h in
      let (γ, e) = solved_is_found (shown_maps S) A in
      (γ, e, (pass_is_greatest γ e).greatest (shown_maps S) A)
