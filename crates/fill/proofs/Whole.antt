-- All columns: the greatest after-maps that they make, and that the work space holds the split with these filled in.
use Rattle.std.proofs.Common.{Option, None, Some, Ok, Err}
use mathlib.Core.Path.{◌≡◌, refl, sym, ap, ◌∙◌}
use mathlib.Core.Logic.{inl, inr}
use mathlib.Core.Bool.{Bool, true, false}
use mathlib.Core.List.{List, [], ◌∷◌, ◌++◌, map}
use Prim.Native.Nat.{ℕ, ◌+◌, ◌-◌, ◌*◌, ◌≤◌, ◌<◌}
use native.Mathlib.Omega.{arith}
use native.Mathlib.Decide.{dec_lt}
use lib.ListN.{length, get_or, length-map, length-append, get_or-append, get_or-map}
use lib.Seq.{get_or-append-add}
use Rattle.spec.specs.Program.{Program}
use Rattle.spec.specs.Split.{Map, Row, no_row, Split}
use Rattle.workspace.specs.Layout.{posts_at as posts_column, maps_at, stride, map_cell, row_types_at, work_size}
use Rattle.workspace.specs.Region.{Region}
use Rattle.workspace.specs.Holds.{start_number, HoldsSplit}
use Rattle.workspace.specs.Sheets.{HoldsSheets}
use Rattle.spec.specs.declared.Header.{Header}
use Rattle.workspace.proofs.Region.{region_kept, changed_wider}
use Rattle.workspace.proofs.Held.{program_kept}
use Rattle.sheets.specs.Answers.{HoldsBoth}
use Rattle.fill_theory.specs.Filled.{with_posts, filled}
use Rattle.fill_theory.specs.Found.{◌>>=◌, for_each}
use Rattle.fill_theory.specs.GreatestMaps.{posts_at, greatest_maps}
use Rattle.fill_theory.specs.Answer.{number_limit, map_at_most, all_at_most, found_or}
use Rattle.fill_theory.proofs.Found.{some_injective, finds_bind}
use Rattle.fill_theory.proofs.Kept.{rows_post}
use Rattle.fill_theory.proofs.InRange.{rows_counted_lem, filled_in_range}
use Rattle.fill_theory.proofs.Limits.{steps_few, procedures_few}
use Rattle.fill_theory.proofs.Columns.{each_found, find_each, miss_one, maps_counted_lem, maps_wide}
use Rattle.spec.specs.declared.Refusal.{Refusal}
use Rattle.spec.specs.declared.Refusal.TheVariants.{NoAfterMaps, TooLarge}
use Rattle.spec.specs.Reading as reading
use Rattle.fill.specs.FilledMaps.{small_maps, FilledMaps}
use Rattle.fill.specs.Columns.{ColumnStored, ColumnFound, ColumnFilled, PostsShown}
use Rattle.fill.proofs.Column.{posts_counted}
use Rattle.fill.proofs.Made.{made, made_number, columns_small, column_over}
use Rattle.fill.proofs.SoFar.{SoFar, maps_sound, holds_still}

-- ------------------------------------------------------------------ rows

types_same : (m : ℕ) (rs : List Row) → map (λ (r : Row). r.type.0) (with_posts m rs) ≡ map (λ (r : Row). r.type.0) rs
unfolding with_posts
types_same m [] = refl
types_same m (r ∷ rs) = ap (r.type.0 ∷◌) (types_same (m + 1) rs)

starts_same : (m : ℕ) (rs : List Row)
    → map (λ (r : Row). start_number r.start) (with_posts m rs) ≡ map (λ (r : Row). start_number r.start) rs
unfolding with_posts
starts_same m [] = refl
starts_same m (r ∷ rs) = ap (start_number r.start ∷◌) (starts_same (m + 1) rs)

-- ------------------------------------------------------------------ the filled sheets

-- the maps γ stand behind the given ones in w, and from w to w' the steps are made to show them
module _ (w w' : List ℕ) (header : Header) (steps procedures : ℕ) (P : Program) (S : Split) (γ : List Map)
    (H : HoldsBoth w header steps procedures P S) (T : PostsShown steps header.maps w w') (few : header.maps ≤ 256) (long : length w ≡ work_size)
    (counted : length γ ≡ length P.steps) (wide : (i : ℕ) → i < length γ → length (get_or γ i []) ≡ S.header.locations)
    (stands : (i : ℕ) → i < length γ → (j : ℕ) → j < S.header.locations → map_cell w (record { 0 = header.maps + i }) j ≡ get_or (get_or γ i []) j 0) where
  maps_given : header.maps ≡ S.header.maps
  maps_given = maps_sound S header H.headed

  steps_within : length P.steps ≤ 256
  steps_within = steps_few P H.sheets.well_formed

  new_stands : (i : ℕ) → i < length γ → Region w (maps_at + stride * (header.maps + i)) (get_or γ i [])
  unfolding map_cell
  new_stands i h = record {
    fits = omega (arith, wide i h, H.sheets.in_range.locations, steps_within);
    at = λ j k. stands i h j (omega (arith, wide i h));
  }

  new_held : (i : ℕ) → i < length γ → Region w' (maps_at + stride * (length S.maps + i)) (get_or (S.maps ++ γ) (length S.maps + i) [])
  new_held i h =
      let number : length S.maps ≡ header.maps = omega (arith, H.sheets.in_range.maps_counted, maps_given) in
      rw (get_or-append-add S.maps γ i [], number) (region_kept T.changed (inr (omega arith)) (new_stands i h))

  map_held : (m : ℕ) → m < length (S.maps ++ γ) → Region w' (maps_at + stride * m) (get_or (S.maps ++ γ) m [])
  map_held m h = go (dec_lt m (length S.maps))
    where
      go : Dec (m < length S.maps) → Region w' (maps_at + stride * m) (get_or (S.maps ++ γ) m [])
      go (yes q) =
          rw (get_or-append S.maps γ [] m q) (region_kept T.changed (inr (omega arith)) (H.sheets.split.maps m q))
      go (no q) =
          let index : m ≡ length S.maps + (m - length S.maps) = omega (arith, q) in
          rw index (new_held (m - length S.maps) (omega (arith, q, length-append S.maps γ)))

  posts_held : Region w' posts_column (map (λ (r : Row). r.post.0) (with_posts S.header.maps S.rows))
  posts_held = record {
    fits = omega (arith, rows, steps_within, T.changed.long);
    at = λ i h.
        let l : i < length S.rows = omega (arith, rows) in
        T.shown i (omega (arith, H.sheets.in_range.rows_counted, H.sheets.steps_counted))
        ∙ ap (◌+ i) maps_given
        ∙ sym (get_or-map (λ (r : Row). r.post.0) (with_posts S.header.maps S.rows) i no_row
        ∙ rows_post S.header.maps S.rows i no_row l);
  }
    where
      rows : length (map (λ (r : Row). r.post.0) (with_posts S.header.maps S.rows)) ≡ length S.rows
      rows = length-map (with_posts S.header.maps S.rows) (λ (r : Row). r.post.0) ∙ rows_counted_lem S.header.maps S.rows

  split_held : HoldsSplit w' (filled S γ)
  unfolding filled
  split_held = record {
    kinds = region_kept T.changed (inr (omega arith)) H.sheets.split.kinds;
    firsts = region_kept T.changed (inr (omega arith)) H.sheets.split.firsts;
    seconds = region_kept T.changed (inr (omega arith)) H.sheets.split.seconds;
    maps = map_held;
    empty = region_kept T.changed (inr (omega arith)) H.sheets.split.empty;
    befores = region_kept T.changed (inr (omega arith)) H.sheets.split.befores;
    arguments = region_kept T.changed (inr (omega arith)) H.sheets.split.arguments;
    afters = region_kept T.changed (inr (omega arith)) H.sheets.split.afters;
    results = region_kept T.changed (inr (omega arith)) H.sheets.split.results;
    row_types =
        rw (types_same S.header.maps S.rows)
        (region_kept T.changed (inl (omega (arith, rows, length-map S.rows (λ (r : Row). r.type.0)))) H.sheets.split.row_types);
    posts = posts_held;
    starts = rw (starts_same S.header.maps S.rows) (region_kept T.changed (inr (omega arith)) H.sheets.split.starts);
  }
    where
      rows : length S.rows ≤ 256
      rows = omega (arith, H.sheets.in_range.rows_counted, steps_within)

  pub sheets_held : HoldsSheets w' steps procedures header.denominator header.locations header.start.0 P (filled S γ)
  unfolding filled
  sheets_held = record {
    program_text = H.sheets.program_text;
    well_formed = H.sheets.well_formed;
    in_range = filled_in_range (record { in_range = H.sheets.in_range; counted = counted; wide = wide })
        (omega (arith, maps_given, steps_within));
    program = program_kept (changed_wider row_types_at work_size (omega arith) (omega arith) T.changed) H.sheets.well_formed.stepped steps_within
        (procedures_few P H.sheets.well_formed) H.sheets.program;
    split = split_held;
    steps_counted = H.sheets.steps_counted;
    procedures_counted = H.sheets.procedures_counted;
    denominator_given = H.sheets.denominator_given;
    locations_given = H.sheets.locations_given;
    start_given = H.sheets.start_given;
  }

-- ------------------------------------------------------------------ the answers

-- a column is refused where there are no posts
column_refused : {r : Refusal} (maps l : ℕ) (w : List ℕ) (o : Option (List ℕ)) → ColumnFound maps l w o (Err r) → (o ≡ None) × (r ≡ NoAfterMaps)
column_refused maps l w None h = (refl, cc)
column_refused maps l w (Some ps) h = let clash : ◌≡◌ {A = ℕ} 0 1 = cc in absurd (omega arith)

module _ (w₀ w : List ℕ) (header : Header) (steps procedures l : ℕ) where
  -- a location without posts
  pub filled_nothing : (w' : List ℕ) {large : Bool} → SoFar w₀ w header steps procedures l large → l < header.locations
      → {r : Refusal} → ColumnFilled w header steps procedures l (Err r) w' → FilledMaps w₀ header steps procedures (Err r) w'
  unfolding greatest_maps ◌>>=◌ small_maps found_or reading.◌>>=◌
  filled_nothing w' Z within {r} F = record {
    answers = λ P S H.
        let z : 0 + l ≡ l = omega arith in
        let (none, is) = column_refused _ _ _ (posts_at P S l) (F.answers P S (holds_still Z.behind H) within) in
        let missed = miss_one (posts_at P S) 0 S.header.locations l (omega (arith, H.sheets.locations_given)) (rw z none) in
        rw missed (ap Err is);
  }

  module _ (large : Bool) (Z : SoFar w₀ w header steps procedures l large) (end : l ≡ header.locations) where
    module _ (P : Program) (S : Split) (H : HoldsBoth w₀ header steps procedures P S) where
      abbrev n : ℕ
      n = length P.steps

      all_found : (columns : List (List ℕ)) × (for_each (posts_at P S) 0 S.header.locations ≡ Some columns)
      all_found = find_each (posts_at P S) 0 S.header.locations (λ q k. (Z.columns P S H).found (0 + q) (omega (arith, H.sheets.locations_given)))

      abbrev columns : List (List ℕ)
      columns = all_found.0

      greatest_found : greatest_maps P S ≡ Some (made columns n)
      unfolding greatest_maps
      greatest_found = finds_bind _ _ all_found.1 refl

      columns_counted : length columns ≡ S.header.locations
      columns_counted = (each_found (posts_at P S) [] 0 S.header.locations columns all_found.1).0

      column_found : (j : ℕ) → j < S.header.locations → posts_at P S j ≡ Some (get_or columns j [])
      column_found j k =
          let z : 0 + j ≡ j = omega arith in
          rw z at ((each_found (posts_at P S) [] 0 S.header.locations columns all_found.1).1 j k)

      column_stored : large ≡ false → (j : ℕ) → j < S.header.locations
          → (map_at_most number_limit (get_or columns j []) ≡ true) × ColumnStored w header.maps j (get_or columns j [])
      column_stored e j k = (Z.columns P S H).stored e j (omega (arith, H.sheets.locations_given)) (get_or columns j []) (column_found j k)

      column_long : (j : ℕ) → j < S.header.locations → length (get_or columns j []) ≡ n
      column_long j k = posts_counted P S j H.sheets (column_found j k) ∙ H.sheets.steps_counted

      too_large : large ≡ true → all_at_most number_limit (made columns n) ≡ false
      too_large e =
          let (j, k, (ps, found, over)) = (Z.columns P S H).over e in
          let h : j < S.header.locations = omega (arith, H.sheets.locations_given) in
          let same : ps ≡ get_or columns j [] = some_injective (sym found ∙ column_found j h) in
          column_over columns n j (column_long j h) (rw same at over)

      small : large ≡ false → all_at_most number_limit (made columns n) ≡ true
      small e = columns_small columns n (λ j k. (column_stored e j (omega (arith, columns_counted))).0)

      maps_stand : large ≡ false → (i : ℕ) → i < length (made columns n) → (j : ℕ) → j < S.header.locations
          → map_cell w (record { 0 = header.maps + i }) j ≡ get_or (get_or (made columns n) i []) j 0
      maps_stand e i h j k =
          let h' : i < n = omega (arith, maps_counted_lem columns 0 n) in
          (column_stored e j k).1.at i (omega (arith, column_long j k)) ∙ sym (made_number columns n i h' j)

    pub filled_large : large ≡ true → FilledMaps w₀ header steps procedures (Err TooLarge) w
    unfolding small_maps found_or reading.◌>>=◌ reading.require
    filled_large e = record { answers = λ P S H. rw (greatest_found P S H, too_large P S H e) refl }

    pub filled_maps : large ≡ false → header.maps ≤ 256 → length w₀ ≡ work_size → (w' : List ℕ) → PostsShown steps header.maps w w'
        → FilledMaps w₀ header steps procedures (Ok tt) w'
    unfolding small_maps found_or reading.◌>>=◌ reading.require
    filled_maps e few long w' T = record {
      answers = λ P S H. rw (greatest_found P S H, small P S H e) (
        refl,
        sheets_held w w' header steps procedures P S (made (columns P S H) (n P S H)) (holds_still Z.behind H) T few (Z.behind.long ∙ long)
            (maps_counted_lem (columns P S H) 0 (n P S H))
            (λ i h. maps_wide (columns P S H) (n P S H) i (omega (arith, maps_counted_lem (columns P S H) 0 (n P S H))) ∙ columns_counted P S H)
            (maps_stand P S H e),
      );
    }
