-- A filled split is in range: M counts the new maps, each row shows a map of its own, and nothing else is changed.
use mathlib.Core.Path.{◌≡◌, refl, ap, sym, ◌∙◌}
use mathlib.Core.List.{List, [], ◌∷◌, ◌++◌}
use Prim.Native.Nat.{ℕ, suc, ◌+◌, ◌-◌, ◌≤◌, ◌<◌}
use native.Mathlib.Omega.{arith}
use native.Mathlib.Decide.{dec_lt}
use lib.ListN.{length, get_or, length-append, get_or-append}
use lib.Seq.{get_or-append-add}
use Rattle.spec.specs.Program.{Program}
use Rattle.spec.specs.Split.{Map, Row, Split}
use Rattle.spec.specs.Kinds.{maps}
use Rattle.spec.specs.Ranges.{AllBelow, InRange}
use Rattle.spec.specs.declared.MapNumber.{MapNumber}
use Rattle.spec.specs.declared.TypeLine.TheVariants.{Int}
use Rattle.fill_theory.specs.Filled.{with_posts, filled}
use Rattle.fill_theory.proofs.Kept.{rows_kept, rows_post}
use Rattle.fill_theory.proofs.Placed.{Given}

pub rows_counted_lem : (m : ℕ) (rs : List Row) → length (with_posts m rs) ≡ length rs
unfolding with_posts
rows_counted_lem m [] = refl
rows_counted_lem m (r ∷ rs) = ap suc (rows_counted_lem (m + 1) rs)

module _ {P : Program} {S : Split} {σ : List Map} (G : Given P S σ) where
  abbrev R : InRange P S
  R = G.in_range

  maps_counted_lem : length (S.maps ++ σ) ≡ S.header.maps + length σ
  maps_counted_lem = length-append S.maps σ ∙ ap (◌+ length σ) R.maps_counted

  map_wide_lem : (m : ℕ) → m < length (S.maps ++ σ) → length (get_or (S.maps ++ σ) m []) ≡ S.header.locations
  map_wide_lem m l = go (dec_lt m (length S.maps))
    where
      go : Dec (m < length S.maps) → length (get_or (S.maps ++ σ) m []) ≡ S.header.locations
      go (yes q) = ap length (get_or-append S.maps σ [] m q) ∙ R.map_wide m q
      go (no q) =
          let index : length S.maps + (m - length S.maps) ≡ m = omega (arith, q) in
          rw (← index) (ap length (get_or-append-add S.maps σ (m - length S.maps) []) ∙ G.wide _ (omega (arith, q, length-append S.maps σ)))

  -- a given map is one of all the maps
  more : {m : ℕ} → m < length S.maps → m < length (S.maps ++ σ)
  more l = omega (arith, length-append S.maps σ)

  all_more : (ms : List MapNumber) → AllBelow (length S.maps) ms → AllBelow (length (S.maps ++ σ)) ms
  all_more [] l = tt
  all_more (m ∷ ms) l = (more l.0, all_more ms l.1)

  pub filled_in_range : S.header.maps + length σ ≤ 512 → InRange P (filled S σ)
  unfolding filled
  filled_in_range few = record {
    denominator = R.denominator;
    locations = R.locations;
    types_counted = R.types_counted;
    types_few = R.types_few;
    maps_counted = maps_counted_lem;
    maps_few = (omega (arith, R.maps_few), few);
    start = more R.start;
    signatures_counted = R.signatures_counted;
    rows_counted = rows_counted_lem _ S.rows ∙ R.rows_counted;
    map_wide = map_wide_lem;
    ref_place = R.ref_place;
    type_maps = λ t l. all_more (maps (get_or S.types t Int)) (R.type_maps t l);
    before_map = λ f d l. more (R.before_map f d l);
    argument_type = R.argument_type;
    after_map = λ f d l. more (R.after_map f d l);
    result_type = R.result_type;
    row_type = λ i d l. rw (rows_kept S.header.maps S.rows i d).0 (R.row_type i d (here i l));
    row_post = λ i d l.
        rw (rows_post S.header.maps S.rows i d (here i l))
        (omega (arith, maps_counted_lem, here i l, R.rows_counted, G.counted));
    row_start = λ i d m l e. more (R.row_start i d m (here i l) (sym (rows_kept S.header.maps S.rows i d).1 ∙ e));
  }
    where
      here : (i : ℕ) → i < length (with_posts S.header.maps S.rows) → i < length S.rows
      here i l = omega (arith, rows_counted_lem S.header.maps S.rows)
