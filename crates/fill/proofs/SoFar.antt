-- The columns so far: the invariant of the loop over locations.
use Rattle.std.proofs.Common.{Option, None, Some, Ok}
use mathlib.Core.Path.{◌≡◌, refl, sym, ap, ◌∙◌}
use mathlib.Core.Logic.{⊎_elim}
use mathlib.Core.Bool.{Bool, true, false}
use mathlib.Core.List.{List}
use Prim.Native.Nat.{ℕ, ◌+◌, ◌*◌, ◌≤◌, ◌<◌}
use native.Mathlib.Omega.{arith}
use native.Mathlib.Nat.{eq-or-lt_of_le}
use Rattle.spec.specs.Program.{Program}
use Rattle.spec.specs.Split.{Split}
use Rattle.workspace.specs.Layout.{maps_at, stride, empty_map}
use Rattle.workspace.specs.Region.{ChangedWithin}
use Rattle.spec.specs.declared.Header.{Header}
use Rattle.workspace.proofs.Region.{changed_nothing, changed_then}
use Rattle.workspace.proofs.Sheets.{sheets_kept}
use Rattle.sheets.specs.Answers.{HoldsBoth}
use Rattle.fill_theory.specs.GreatestMaps.{posts_at}
use Rattle.fill_theory.specs.Answer.{number_limit, map_at_most}
use Rattle.fill_theory.proofs.Found.{some_injective}
use Rattle.fill_theory.proofs.Limits.{steps_few, procedures_few}
use Rattle.fill.specs.Stages.{MapsGiven}
use Rattle.fill.specs.Columns.{OneColumn, ColumnStored, ColumnFound, ColumnFilled}

-- the columns of the locations below l: all are found; if none has been too large, all are stored
pub record Columns (P : Program) (S : Split) (w : List ℕ) (maps l : ℕ) (large : Bool) : Type 0 where
  pub found : (j : ℕ) → j < l → (ps : List ℕ) × (posts_at P S j ≡ Some ps)
  pub stored : large ≡ false → (j : ℕ) → j < l → (ps : List ℕ) → posts_at P S j ≡ Some ps
      → (map_at_most number_limit ps ≡ true) × ColumnStored w maps j ps
  pub over : large ≡ true → (j : ℕ) × (j < l) × ((ps : List ℕ) × (posts_at P S j ≡ Some ps) × (map_at_most number_limit ps ≡ false))

-- from w₀ to w, for whichever sheets w₀ holds
pub record SoFar (w₀ w : List ℕ) (header : Header) (steps procedures l : ℕ) (large : Bool) : Type 0 where
  pub behind : ChangedWithin (maps_at + stride * header.maps) (maps_at + stride * empty_map) w₀ w
  pub columns : (P : Program) (S : Split) → HoldsBoth w₀ header steps procedures P S → Columns P S w header.maps l large

-- the posts that a column was told of
column_told : {b : Bool} (maps l : ℕ) (w : List ℕ) (o : Option (List ℕ)) → ColumnFound maps l w o (Ok b)
    → (ps : List ℕ) × (o ≡ Some ps) × (map_at_most number_limit ps ≡ b) × (map_at_most number_limit ps ≡ true → ColumnStored w maps l ps)
column_told maps l w None h = let clash : ◌≡◌ {A = ℕ} 0 1 = cc in absurd (omega arith)
column_told {b} maps l w (Some ps) h = let fits : map_at_most number_limit ps ≡ b = cc in (ps, refl, fits, h.1)

-- a column stays when another is stored
stored_still : {w w' ps : List ℕ} {maps l j : ℕ} → OneColumn maps l w w' → j < stride → (j ≡ l → ⊥) → ColumnStored w maps j ps → ColumnStored w' maps j ps
stored_still {maps = maps} O h n C = record { at = λ i k. O.others (maps + i) _ h n ∙ C.at i k }

-- the maps that a header counts
pub maps_sound : (S : Split) (h : Header) → S.header ≡ h → h.maps ≡ S.header.maps
maps_sound S h e = sym (ap (λ H. H.maps) e)

module _ {w₀ w : List ℕ} {header : Header} {steps procedures : ℕ} where
  pub holds_still : ChangedWithin (maps_at + stride * header.maps) (maps_at + stride * empty_map) w₀ w → {P : Program} {S : Split}
      → HoldsBoth w₀ header steps procedures P S → HoldsBoth w header steps procedures P S
  holds_still c {P} {S} H = record {
    sheets = sheets_kept c (omega (arith, maps_sound S header H.headed)) (omega (arith, steps_few P H.sheets.well_formed, H.sheets.steps_counted))
        (omega (arith, procedures_few P H.sheets.well_formed, H.sheets.procedures_counted)) H.sheets;
    headed = H.headed;
  }

  pub given_still : ChangedWithin (maps_at + stride * header.maps) (maps_at + stride * empty_map) w₀ w
      → MapsGiven w₀ header steps procedures → MapsGiven w header steps procedures
  given_still c G =
      let X = G.sheets in
      record {
        sheets = record { few = X.few; few_procedures = X.few_procedures; small = X.small; P = X.P; S = X.S; holds = holds_still c X.holds };
        few_maps = G.few_maps;
      }

pub none_so_far : (w : List ℕ) (header : Header) (steps procedures : ℕ) → SoFar w w header steps procedures 0 false
none_so_far w header steps procedures = record {
  behind = changed_nothing _ _ w;
  columns = λ P S H. record {
    found = λ j h. absurd (omega arith);
    stored = λ e j h. absurd (omega arith);
    over = λ e. let clash : ◌≡◌ {A = ℕ} 0 1 = cc in absurd (omega arith);
  };
}

module _ (w₀ w w' : List ℕ) (header : Header) (steps procedures l : ℕ) (large : Bool)
    (Z : SoFar w₀ w header steps procedures l large) (within : l < header.locations) where
  -- the posts of one more location are found
  found_more : {P : Program} {S : Split} → Columns P S w header.maps l large → (ps : List ℕ) × (posts_at P S l ≡ Some ps)
      → (j : ℕ) → j < l + 1 → (qs : List ℕ) × (posts_at P S j ≡ Some qs)
  found_more {P} {S} C (ps, found) j h =
      ⊎_elim
      (λ (e : j ≡ l). (ps, rw e found))
      (λ (k : j < l). C.found j k)
      (eq-or-lt_of_le (omega arith))

  -- and have a number that is too large
  pub large_again : ColumnFilled w header steps procedures l (Ok false) w' → SoFar w₀ w' header steps procedures (l + 1) true
  large_again F = record {
    behind = changed_then _ _ Z.behind F.one.behind;
    columns = λ P S H.
        let (ps, found, over, _) = column_told _ _ _ (posts_at P S l) (F.answers P S (holds_still Z.behind H) within) in
        record {
          found = found_more (Z.columns P S H) (ps, found);
          stored = λ e. let clash : ◌≡◌ {A = ℕ} 0 1 = cc in absurd (omega arith);
          over = λ e. (l, omega arith, (ps, found, over));
        };
  }

  -- or are stored
  pub maps_again : ColumnFilled w header steps procedures l (Ok true) w' → SoFar w₀ w' header steps procedures (l + 1) large
  maps_again F = record {
    behind = changed_then _ _ Z.behind F.one.behind;
    columns = columns;
  }
    where
      columns : (P : Program) (S : Split) → HoldsBoth w₀ header steps procedures P S → Columns P S w' header.maps (l + 1) large
      columns P S H =
          let C = Z.columns P S H in
          let few : header.locations ≤ stride = omega (arith, H.sheets.locations_given, H.sheets.in_range.locations) in
          let (ps, found, small, stored) = column_told _ _ _ (posts_at P S l) (F.answers P S (holds_still Z.behind H) within) in
          record {
            found = found_more C (ps, found);
            stored = λ e j h qs f.
                ⊎_elim
                (λ (s : j ≡ l).
                let same : ps ≡ qs = some_injective (sym found ∙ rw s at f) in
                rw (s, ← same) (small, stored small))
                (λ (k : j < l).
                let (small, stored) = C.stored e j k qs f in
                (small, stored_still F.one (omega arith) (λ s. absurd (omega arith)) stored))
                (eq-or-lt_of_le (omega arith));
            over = λ e. let (j, k, over) = C.over e in (j, omega arith, over);
          }
