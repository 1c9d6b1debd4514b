-- From what the stages of filling find to what they tell.
use Rattle.std.proofs.Common.{Option, None, Some, Result, Ok, Err}
use mathlib.Core.Path.{◌≡◌, refl, sym, ap, ◌∙◌}
use mathlib.Core.List.{List}
use mathlib.Core.Bool.{Bool, true, false}
use Prim.Native.Nat.{ℕ, ◌≤◌, ◌<◌}
use native.Mathlib.Omega.{arith}
use lib.Dec.{leb}
use lib.ListN.{length}
use borrow.Author.Tests.{le-leb, lt-leb}
use Rattle.spec.specs.Reading.{◌>>=◌, require}
use Rattle.spec.specs.Program.{Program}
use Rattle.spec.specs.Split.{Map, Split}
use Rattle.spec.specs.Workspace.{workspace_size}
use Rattle.spec.specs.Verdict.{locks_take_enough, start_at_most_one, type_conditions_hold, sheets}
use Rattle.spec.specs.declared.Purpose.TheVariants.{Fill}
use Rattle.spec.specs.declared.Refusal.{Refusal}
use Rattle.spec.specs.declared.Refusal.TheVariants.{ShortWorkspace, NoAfterMaps, TooLarge, TooManyMaps}
use Rattle.spec.proofs.Outcomes.{bind_bind, goes_on_bind}
use Rattle.workspace.specs.Layout.{work_size}
use Rattle.workspace.specs.Sheets.{HoldsSheets}
use Rattle.spec.specs.declared.Header.{Header}
use Rattle.split.proofs.Found.{types_decodes}
use Rattle.sheets.specs.Answers.{HoldsBoth, SheetsHeld}
use Rattle.walk.specs.Contract.{ruled_for, Ruled}
use Rattle.walk.proofs.Procedures.{sheets_stay}
use Rattle.text_theory.specs.Sheet.{sheet_text}
use Rattle.split_writer.specs.Contract.{HoldsSheet, HoldsSome as HoldsSheetOfSome}
use Rattle.fill_theory.specs.Filled.{filled}
use Rattle.fill_theory.specs.GreatestMaps.{greatest_maps}
use Rattle.fill_theory.specs.Answer.{given_limit, number_limit, all_at_most, found_or, filled_text, fill}
use Rattle.fill_theory.proofs.Filling.{found_exactly_greatest}
use Rattle.fill_theory.proofs.Limits.{procedures_few}
use Rattle.fill_theory.proofs.Reasons.{sheets_refused}
use Rattle.fill.specs.FilledMaps.{small_maps, FilledAs, FilledMaps}
use Rattle.fill.specs.Stages.{OutcomePost, grown_by, fitted, SheetPost, SheetsGiven, MapsGiven, TextPost, after_reading, SheetsPost}
use Rattle.fill.proofs.SoFar.{maps_sound}
use Rattle.fill.proofs.Sound.{refusal_sound, told_as}

-- ------------------------------------------------------------------ 41 and 42

-- a test that holds
passed : (a b : ℕ) (r : Refusal) → a ≤ b → require (leb a b) r ≡ Ok tt
unfolding require
passed a b r h = rw (le-leb _ _ h)

-- the split with its greatest after-maps, once the work space holds it
module _ {w w' : List ℕ} {header : Header} {steps procedures : ℕ} {P : Program} {S : Split} (B : HoldsBoth w header steps procedures P S)
    (γ : List Map) (found : greatest_maps P S ≡ Some γ)
    (H : HoldsSheets w' steps procedures header.denominator header.locations header.start.0 P (filled S γ)) where
  step_maps : length γ ≡ steps
  step_maps =
      let G = (found_exactly_greatest P S B.sheets.well_formed B.sheets.in_range γ).0 found in
      G.after_maps.counted ∙ sym B.sheets.steps_counted

  grown_header : (filled S γ).header ≡ (grown_by steps header)
  unfolding filled grown_by
  grown_header = rw (B.headed, step_maps)

  filled_held : HoldsSheet w' (grown_by steps header) procedures steps (filled S γ)
  filled_held = record {
    program = P;
    in_range = H.in_range;
    split = H.split;
    headed = grown_header;
    procedures_counted = sym H.procedures_counted;
    counted = sym H.steps_counted;
    few = omega (arith, H.procedures_counted, procedures_few P H.well_formed);
  }

-- maps that are small enough are the greatest
small_found : (P : Program) (S : Split) (γ : List Map) → small_maps P S ≡ Ok γ → greatest_maps P S ≡ Some γ
unfolding small_maps found_or require ◌>>=◌
small_found P S γ e = go (greatest_maps P S) e
  where
    by_size : (b : Bool) (γ' : List Map) → (require b TooLarge >>= λ small. Ok γ') ≡ Ok γ → Some γ' ≡ Some γ
    by_size true γ' e = cc
    by_size false γ' e = cc

    go : (o : Option (List Map)) → (found_or NoAfterMaps o >>= λ γ. require (all_at_most number_limit γ) TooLarge >>= λ small. Ok γ) ≡ Ok γ → o ≡ Some γ
    go None e = cc
    go (Some γ') e = by_size (all_at_most number_limit γ') γ' e

-- the text is that of the split with these
text_of_small : (buffer : ℕ) (P : Program) (S : Split) → filled_text buffer P S ≡ (small_maps P S >>= λ γ. fitted buffer (sheet_text (filled S γ)))
unfolding filled_text small_maps fitted found_or require ◌>>=◌
text_of_small buffer P S = go (greatest_maps P S)
  where
    by_size : (b : Bool) (γ : List Map) → (require b TooLarge >>= λ small. fitted buffer (sheet_text (filled S γ)))
        ≡ ((require b TooLarge >>= λ small. Ok γ) >>= λ γ. fitted buffer (sheet_text (filled S γ)))
    by_size true γ = refl
    by_size false γ = refl

    go : (o : Option (List Map)) → (found_or NoAfterMaps o >>= λ γ. require (all_at_most number_limit γ) TooLarge >>= λ small. fitted buffer (sheet_text (filled S γ)))
        ≡ ((found_or NoAfterMaps o >>= λ γ. require (all_at_most number_limit γ) TooLarge >>= λ small. Ok γ) >>= λ γ. fitted buffer (sheet_text (filled S γ)))
    go None = refl
    go (Some γ) = by_size (all_at_most number_limit γ) γ

module _ {w w' : List ℕ} {header : Header} {steps procedures : ℕ} where
  -- maps are refused
  pub maps_refused : {e : Refusal} (buffer : List ℕ) → FilledMaps w header steps procedures (Err e) w' → TextPost w header steps procedures buffer buffer (Err e)
  unfolding ◌>>=◌
  maps_refused {e} buffer F P S B = go (small_maps P S) (text_of_small _ P S) (F.answers P S B)
    where
      go : (o : Result (List Map) Refusal) → filled_text (length buffer) P S ≡ (o >>= λ γ. fitted (length buffer) (sheet_text (filled S γ)))
          → FilledAs header steps procedures P S w' o (Err e) → OutcomePost (filled_text (length buffer) P S) buffer buffer (Err e)
      go (Err e') t h = let same : e ≡ e' = cc in told_as (sym t) (rw same (refusal_sound e' buffer))
      go (Ok γ) t h = let clash : ◌≡◌ {A = ℕ} 0 1 = cc in absurd (omega arith)

  module _ (F : FilledMaps w header steps procedures (Ok tt) w') {whole : Header} (is : whole ≡ grown_by steps header) where
    -- the maps that are filled in
    record Found (P : Program) (S : Split) : Type 0 where
      γ : List Map
      small : small_maps P S ≡ Ok γ
      held : HoldsSheet w' whole procedures steps (filled S γ)

    maps_here : (P : Program) (S : Split) → HoldsBoth w header steps procedures P S → Found P S
    maps_here P S B = go (small_maps P S) refl (F.answers P S B)
      where
        go : (o : Result (List Map) Refusal) → small_maps P S ≡ o → FilledAs header steps procedures P S w' o (Ok tt) → Found P S
        go (Err e) m h = let clash : ◌≡◌ {A = ℕ} 0 1 = cc in absurd (omega arith)
        go (Ok γ) m h = record { γ = γ; small = m; held = rw is (filled_held B γ (small_found P S γ m) h.1) }

    pub some_filled : MapsGiven w header steps procedures → HoldsSheetOfSome w' whole procedures steps
    some_filled G =
        let X = G.sheets in
        let M = maps_here X.P X.S X.holds in
        record { S = filled X.S M.γ; holds = M.held }

    pub maps_filled : {before after : List ℕ} {f : Result ℕ Refusal} → SheetPost w' whole steps procedures before after f → TextPost w header steps procedures before after f
    unfolding ◌>>=◌
    maps_filled {before} told P S B =
        let M = maps_here P S B in
        told_as (sym (rw M.small at (text_of_small (length before) P S))) (told (filled S M.γ) M.held)

-- ------------------------------------------------------------------ 43, 44, 30 and 31

module _ (buffer : ℕ) (P : Program) (S : Split) where
  many : 256 < S.header.maps → after_reading buffer P S ≡ Err TooManyMaps
  unfolding after_reading require ◌>>=◌ given_limit
  many h = rw (lt-leb _ _ h)

  few_maps_lem : S.header.maps ≤ 256
      → after_reading buffer P S ≡ ((locks_take_enough S >>= λ enough. start_at_most_one P S >>= λ whole. ruled_for Fill P S) >>= λ holds. filled_text buffer P S)
  unfolding after_reading require given_limit ruled_for ◌>>=◌
  few_maps_lem h =
      rw (le-leb _ _ h)
      (sym (bind_bind (locks_take_enough S) (λ enough. start_at_most_one P S >>= λ whole. type_conditions_hold P S) (λ holds. filled_text buffer P S)
      ∙ ap (λ o. locks_take_enough S >>= λ enough. o) (bind_bind (start_at_most_one P S) (λ whole. type_conditions_hold P S) (λ holds. filled_text buffer P S))))

  after_rules : {r : Result (Unit {0}) Refusal} → S.header.maps ≤ 256
      → r ≡ (locks_take_enough S >>= λ enough. start_at_most_one P S >>= λ whole. ruled_for Fill P S)
      → after_reading buffer P S ≡ (r >>= λ holds. filled_text buffer P S)
  after_rules h e = few_maps_lem h ∙ ap (◌>>= λ holds. filled_text buffer P S) (sym e)

module _ (w : List ℕ) (header : Header) (steps procedures : ℕ) where
  pub many_sound : (buffer : List ℕ) → 256 < header.maps → SheetsPost w header steps procedures buffer buffer (Err TooManyMaps)
  many_sound buffer h P S B =
      told_as (sym (many _ P S (omega (arith, maps_sound S header B.headed, h)))) (refusal_sound TooManyMaps buffer)

  module _ {w' : List ℕ} {r : Result (Unit {0}) Refusal} (few : header.maps ≤ 256)
      (R : Ruled w Fill steps procedures header r w') where
    given_few : {P : Program} {S : Split} → HoldsBoth w header steps procedures P S → S.header.maps ≤ 256
    given_few {S = S} B = omega (arith, maps_sound S header B.headed, few)

    -- the rules leave the sheets as they stand
    both_kept : steps ≤ 256 → procedures ≤ 16 → {P : Program} {S : Split} → HoldsBoth w header steps procedures P S
        → HoldsBoth w' header steps procedures P S
    both_kept few procs B = record { sheets = sheets_stay R.changed few procs B.sheets; headed = B.headed }

    pub maps_kept : SheetsGiven w header steps procedures → MapsGiven w' header steps procedures
    maps_kept X = record {
      sheets = record { few = X.few; few_procedures = X.few_procedures; small = X.small; P = X.P; S = X.S; holds = both_kept X.few X.few_procedures X.holds };
      few_maps = few;
    }

    pub rule_refused : (buffer : List ℕ) (x : Refusal) → r ≡ Err x → SheetsPost w header steps procedures buffer buffer (Err x)
    unfolding ◌>>=◌
    rule_refused buffer x e P S B =
        told_as (sym (rw e at (after_rules (length buffer) P S (given_few B) (R.answers P S B.sheets (types_decodes S header B.headed))))) (refusal_sound x buffer)

    pub rules_met : {before after : List ℕ} {f : Result ℕ Refusal} → steps ≤ 256 → procedures ≤ 16 → r ≡ Ok tt → TextPost w' header steps procedures before after f
        → SheetsPost w header steps procedures before after f
    unfolding ◌>>=◌
    rules_met {before} few procs e told P S B =
        told_as (sym (rw e at (after_rules (length before) P S (given_few B) (R.answers P S B.sheets (types_decodes S header B.headed))))) (told P S (both_kept few procs B))

-- ------------------------------------------------------------------ the sheets

module _ (p s : List ℕ) where
  pub sheet_refused : (before : List ℕ) (r : Refusal) → sheets Fill p s ≡ Err r → OutcomePost (fill workspace_size (length before) p s) before before (Err r)
  unfolding workspace_size
  sheet_refused before r e = told_as (sym (sheets_refused work_size (length before) p s (omega arith) _ e)) (refusal_sound _ before)

  module _ {w : List ℕ} {steps procedures : ℕ} {header : Header} (H : SheetsHeld Fill p s w steps procedures header) where
    pub sheets_given : SheetsGiven w header steps procedures
    sheets_given = record { few = H.few; few_procedures = H.few_procedures; small = H.small; P = H.P; S = H.S; holds = H.holds }

    pub sheets_filled : {before after : List ℕ} {f : Result ℕ Refusal} → SheetsPost w header steps procedures before after f
        → OutcomePost (fill workspace_size (length before) p s) before after f
    unfolding fill after_reading workspace_size
    sheets_filled filled =
        told_as (sym (goes_on_bind _ _ (passed work_size work_size ShortWorkspace (omega arith)) (goes_on_bind _ _ H.read refl)))
        (filled H.P H.S H.holds)
