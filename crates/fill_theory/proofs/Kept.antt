-- What filling keeps of a split, and what it changes: the posts alone. Types, loads and starts show given maps, so the maps behind
-- them are not looked at.
use Rattle.std.proofs.Common.{Option, None, Some}
use mathlib.Core.Path.{◌≡◌, refl, ap, ◌∙◌}
use mathlib.Core.Bool.{Bool, ◌&&◌}
use mathlib.Core.List.{List, [], ◌∷◌, ◌++◌, map}
use Prim.Native.Nat.{ℕ, zero, suc, ◌+◌, ◌<◌}
use native.Mathlib.Omega.{arith}
use lib.ListN.{length, get_or, get_or-append}
use lib.Seq.{get_or-append-add}
use Rattle.spec.specs.Choice.{when◌then◌else◌}
use Rattle.spec.specs.Expression.{Expr, index_of}
use Rattle.spec.specs.Program.{Program}
use Rattle.spec.specs.Split.{Map, Row, no_row, Split, type_at, map_at}
use Rattle.spec.specs.Kinds.{int, lock, is, ref_location, content, maps, first_map, second_map}
use Rattle.spec.specs.Agreement.{Tree, plain, tree_of, trees, tree, same_tree, agree}
use Rattle.spec.specs.Conditions.{row, type, kind, post, start_or, body_start, signature, start_map, contains, looser_lock, may_show}
use Rattle.spec.specs.Verdict.{takes_enough, all_take_enough, locks_take_enough}
use Rattle.spec.specs.Ranges.{AllBelow, InRange}
use Rattle.spec.specs.declared.TypeNumber.{TypeNumber}
use Rattle.spec.specs.declared.MapNumber.{MapNumber}
use Rattle.spec.specs.declared.TypeLine.{TypeLine}
use Rattle.spec.specs.declared.TypeLine.TheVariants.{Int}
use Rattle.spec.proofs.Fits.{maps_fit, first_below, second_below, first_fits, second_fits, place_fits}
use Rattle.spec.proofs.Wide.{map_wide_lem, start_fits, before_fits, after_fits}
use Rattle.fill_theory.specs.Filled.{with_posts, filled}

-- ------------------------------------------------------------------ rows

-- type and start are kept
pub rows_kept : (m : ℕ) (rs : List Row) (i : ℕ) (d : Row)
    → ((get_or (with_posts m rs) i d).type ≡ (get_or rs i d).type) × ((get_or (with_posts m rs) i d).start ≡ (get_or rs i d).start)
unfolding with_posts
rows_kept m [] i d = (refl, refl)
rows_kept m (r ∷ rs) zero d = (refl, refl)
rows_kept m (r ∷ rs) (suc i) d = rows_kept (m + 1) rs i d

pub rows_post : (m : ℕ) (rs : List Row) (i : ℕ) (d : Row) → i < length rs → (get_or (with_posts m rs) i d).post.0 ≡ m + i
unfolding with_posts
rows_post m [] i d l = absurd (omega arith)
rows_post m (r ∷ rs) zero d l = omega arith
rows_post m (r ∷ rs) (suc i) d l = rows_post (m + 1) rs i d (omega arith) ∙ omega arith

module _ (S : Split) (σ : List Map) where
  pub type_kept : (e : Expr) → type (filled S σ) e ≡ type S e
  unfolding type row filled
  type_kept e = (rows_kept _ S.rows (index_of e) _).0

  pub kind_kept : (e : Expr) → kind (filled S σ) e ≡ kind S e
  unfolding kind type_at filled
  kind_kept e = rw (type_kept e)

module _ {P : Program} {S : Split} (R : InRange P S) where
  pub place_within : (e : Expr) → (ref_location (kind S e)).0 < S.header.locations
  unfolding kind
  place_within e = place_fits R (type S e)

  -- ------------------------------------------------------------------ each map has a number for each location

  pub first_wide : (e : Expr) → length (map_at S (first_map (kind S e))) ≡ S.header.locations
  unfolding kind
  first_wide e = map_wide_lem R _ (first_fits R (type S e))

  pub second_wide : (e : Expr) → length (map_at S (second_map (kind S e))) ≡ S.header.locations
  unfolding kind
  second_wide e = map_wide_lem R _ (second_fits R (type S e))

  pub start_map_wide : length (start_map S) ≡ S.header.locations
  unfolding start_map
  start_map_wide = map_wide_lem R _ R.start

  -- ------------------------------------------------------------------ given maps are kept

  module _ (σ : List Map) where
    map_kept : (m : MapNumber) → m.0 < length S.maps → map_at (filled S σ) m ≡ map_at S m
    unfolding map_at filled
    map_kept m l = get_or-append S.maps σ [] m.0 l

    pub start_map_kept : start_map (filled S σ) ≡ start_map S
    unfolding start_map filled
    start_map_kept = map_kept _ R.start

    start_in_kept : (o : Option MapNumber) → ((m : MapNumber) → o ≡ Some m → m.0 < length S.maps) → start_or (filled S σ) o ≡ start_or S o
    unfolding start_or filled
    start_in_kept None h = refl
    start_in_kept (Some m) h = map_kept m (h m refl)

    pub start_kept : (e : Expr) → body_start (filled S σ) e ≡ body_start S e
    unfolding body_start row filled
    start_kept e =
        ap (start_or (filled S σ)) (rows_kept _ S.rows (index_of e) _).1 ∙ start_in_kept (row S e).start (start_fits R e)

    pub first_kept : (e : Expr) → map_at (filled S σ) (first_map (kind (filled S σ) e)) ≡ map_at S (first_map (kind S e))
    unfolding kind
    first_kept e = ap (λ t. map_at (filled S σ) (first_map t)) (kind_kept S σ e) ∙ map_kept _ (first_fits R (type S e))

    pub second_kept : (e : Expr) → map_at (filled S σ) (second_map (kind (filled S σ) e)) ≡ map_at S (second_map (kind S e))
    unfolding kind
    second_kept e = ap (λ t. map_at (filled S σ) (second_map t)) (kind_kept S σ e) ∙ map_kept _ (second_fits R (type S e))

    pub before_kept : (f : ℕ) → map_at (filled S σ) (signature (filled S σ) f).before ≡ map_at S (signature S f).before
    unfolding signature filled
    before_kept f = map_kept _ (before_fits R f)

    pub after_kept : (f : ℕ) → map_at (filled S σ) (signature (filled S σ) f).after ≡ map_at S (signature S f).after
    unfolding signature filled
    after_kept f = map_kept _ (after_fits R f)

    -- the step with index i shows the new map i
    pub post_new : (e : Expr) (i : ℕ) → index_of e ≡ i → i < length S.rows → post (filled S σ) e ≡ get_or σ i []
    unfolding post map_at row filled
    post_new e i index l =
        let shown : (get_or (with_posts S.header.maps S.rows) (index_of e) no_row).post.0 ≡ length S.maps + i =
        rw index (rows_post S.header.maps S.rows i no_row l ∙ omega (arith, R.maps_counted)) in
        rw shown (get_or-append-add S.maps σ i [])

    -- ------------------------------------------------------------------ agreement

    abbrev MapsFit : TypeLine → Type 0
    MapsFit τ = AllBelow (length S.maps) (maps τ)

    maps_kept : (ms : List MapNumber) → AllBelow (length S.maps) ms → map (map_at (filled S σ)) ms ≡ map (map_at S) ms
    maps_kept [] l = refl
    maps_kept (m ∷ ms) l = rw (map_kept m l.0, maps_kept ms l.1)

    tree_kept : (before : List Tree) (τ : TypeLine) → MapsFit τ → tree_of (filled S σ) before τ ≡ tree_of S before τ
    unfolding tree_of
    tree_kept before τ l = rw (maps_kept (maps τ) l)

    trees_kept : (before : List Tree) (τs : List TypeLine) → ((t : ℕ) → MapsFit (get_or τs t Int))
        → trees (filled S σ) before τs ≡ trees S before τs
    unfolding trees
    trees_kept before [] h = refl
    trees_kept before (τ ∷ τs) h =
        rw (tree_kept before τ (h 0)) (trees_kept (before ++ tree_of S before τ ∷ []) τs (λ t. h (suc t)))

    pub agree_kept : (t u : TypeNumber) → agree (filled S σ) t u ≡ agree S t u
    unfolding agree tree filled type_at
    agree_kept t u =
        ap (λ ts. same_tree (get_or ts t.0 (plain int [])) (get_or ts u.0 (plain int [])))
        (trees_kept [] S.types (λ n. maps_fit R (record { 0 = n })))

    pub contains_kept : (τ : TypeLine) (u : TypeNumber) → contains (agree (filled S σ)) τ u ≡ contains (agree S) τ u
    unfolding contains
    contains_kept τ u = rw (agree_kept (content τ) u)

    looser_kept : (τ υ : TypeLine) → MapsFit τ → MapsFit υ → looser_lock (filled S σ) τ υ ≡ looser_lock S τ υ
    unfolding looser_lock
    looser_kept τ υ h k =
        rw (
          map_kept (first_map τ) (first_below R τ h),
          map_kept (first_map υ) (first_below R υ k),
          map_kept (second_map τ) (second_below R τ h),
          map_kept (second_map υ) (second_below R υ k),
        )

    pub may_show_kept : (t u : TypeNumber) → may_show (filled S σ) t u ≡ may_show S t u
    unfolding may_show type_at filled
    may_show_kept t u =
        ap (λ (x : Bool). when is lock (type_at S t) && is lock (type_at S u) then x else agree (filled S σ) t u)
        (looser_kept (type_at S t) (type_at S u) (maps_fit R t) (maps_fit R u))
        ∙ ap (λ (x : Bool). when is lock (type_at S t) && is lock (type_at S u) then looser_lock S (type_at S t) (type_at S u) else x) (agree_kept t u)

    -- ------------------------------------------------------------------ 44

    line_enough_kept : (τ : TypeLine) → MapsFit τ → takes_enough (filled S σ) τ ≡ takes_enough S τ
    unfolding takes_enough
    line_enough_kept τ h = rw (map_kept (first_map τ) (first_below R τ h), map_kept (second_map τ) (second_below R τ h))

    lines_enough_kept : (k : ℕ) (τs : List TypeLine) → ((t : ℕ) → MapsFit (get_or τs t Int)) → all_take_enough (filled S σ) k τs ≡ all_take_enough S k τs
    unfolding all_take_enough
    lines_enough_kept k [] h = refl
    lines_enough_kept k (τ ∷ τs) h = rw (line_enough_kept τ (h 0), lines_enough_kept (k + 1) τs (λ t. h (suc t)))

    pub enough_kept : locks_take_enough (filled S σ) ≡ locks_take_enough S
    unfolding locks_take_enough type_at filled
    enough_kept = lines_enough_kept 2 S.types (λ n. maps_fit R (record { 0 = n }))
