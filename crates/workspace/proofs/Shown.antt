-- What the work space shows of the split that it holds: types, maps, signatures and rows by number.
use Rattle.std.proofs.Common.{Option, None, Some}
use mathlib.Core.Path.{◌≡◌, refl, sym, ap, ◌∙◌}
use mathlib.Core.Logic.{inr}
use mathlib.Core.List.{List, [], ◌∷◌}
use Prim.Native.Nat.{ℕ, zero, suc, ◌+◌, ◌*◌, ◌<◌, ◌≤◌}
use native.Mathlib.Omega.{arith}
use lib.ListN.{length, get_or, replicate, length-replicate, get_or-replicate}
use Rattle.spec.specs.Expression.{Expr, index_of}
use Rattle.spec.specs.Program.{Program}
use Rattle.spec.specs.Split.{Map, no_signature, Row, no_row, Split}
use Rattle.spec.specs.declared.Signature.{Signature}
use Rattle.spec.specs.Maps.{share}
use Rattle.spec.specs.Kinds.{first_map, second_map}
use Rattle.spec.specs.Conditions.{type_at, map_at, row, post, body_start, start_or, signature}
use Rattle.spec.specs.Ranges.{InRange}
use Rattle.spec.specs.declared.Location.{Location}
use Rattle.spec.specs.declared.MapNumber.{MapNumber}
use Rattle.spec.specs.declared.TypeNumber.{TypeNumber}
use Rattle.spec.specs.declared.TypeLine.TheVariants.{Int}
use Rattle.spec.proofs.Fits.{first_fits, second_fits}
use Rattle.workspace.specs.Layout as layout
use Rattle.workspace.specs.Region.{ChangedWithin}
use Rattle.workspace.specs.Layout.{pres_at, row_types_at, posts_at, starts_at, kinds_at, firsts_at, seconds_at, sig_befores_at, sig_arguments_at, sig_afters_at, sig_results_at, maps_at, stride, empty_map, map_cell, map_from, map_in, kind_code, first_of, second_of}
use Rattle.workspace.specs.Holds.{HoldsSplit, start_number}
use Rattle.workspace.proofs.Region.{column}
use Rattle.workspace.proofs.Codes.{type_of_numbers}

pub map_number : {x : ℕ} {m : MapNumber} → x ≡ m.0 → ◌≡◌ {A = MapNumber} (record { 0 = x }) m
map_number e = rw e

pub type_number : {x : ℕ} {t : TypeNumber} → x ≡ t.0 → ◌≡◌ {A = TypeNumber} (record { 0 = x }) t
type_number e = rw e

-- the numbers of a map, one after the other
cells : (w : List ℕ) (m : MapNumber) (l : ℕ) (xs : List ℕ)
    → ((i : ℕ) → i < length xs → map_cell w m (l + i) ≡ get_or xs i 0) → map_from w m l (length xs) ≡ xs
unfolding map_from
cells w m l [] e = refl
cells w m l (x ∷ xs) e =
    let head : map_cell w m l ≡ x = ap (map_cell w m) (omega arith) ∙ e 0 (omega arith) in
    rw (head, cells w m (l + 1) xs (λ i h. ap (map_cell w m) (omega arith) ∙ e (suc i) (omega arith)))

-- a number of a map that the work space holds
cell_of : (w : List ℕ) (m : MapNumber) (l n i : ℕ) → i < n → get_or (map_from w m l n) i 0 ≡ map_cell w m (l + i)
unfolding map_from
cell_of w m l zero i h = absurd (omega arith)
cell_of w m l (suc n) zero h = ap (map_cell w m) (omega arith)
cell_of w m l (suc n) (suc i) h = cell_of w m (l + 1) n i (omega arith) ∙ ap (map_cell w m) (omega arith)

-- maps stay where only maps before steps are changed
from_kept : {w w' : List ℕ} → ChangedWithin pres_at (pres_at + 256) w w' → (m : MapNumber) (l n : ℕ) → map_from w' m l n ≡ map_from w m l n
unfolding map_from map_cell
from_kept x m l zero = refl
from_kept {w} {w'} x m l (suc n) =
    let e : map_cell w' m l ≡ map_cell w m l = x.kept (maps_at + stride * m.0 + l) (inr (omega arith)) in
    rw (e, from_kept x m (l + 1) n)

-- the map x stands at the place of the number m
pub record Stands (w : List ℕ) (S : Split) (m : MapNumber) (x : Map) : Type 0 where
  pub fits : maps_at + stride * m.0 + S.header.locations ≤ length w
  pub is : map_in w S.header.locations m ≡ x

pub stands_kept : {w w' : List ℕ} {S : Split} {m : MapNumber} {x : Map} → ChangedWithin pres_at (pres_at + 256) w w'
    → Stands w S m x → Stands w' S m x
unfolding map_in
stands_kept {m = m} c p = record { fits = omega (arith, p.fits, c.long); is = from_kept c m 0 _ ∙ p.is }

module _ (w : List ℕ) (S : Split) (P : Program) (H : HoldsSplit w S) (R : InRange P S) where
  -- ---------------------------------------------------------------- types

  pub type_shown : (t : TypeNumber) → t.0 < length S.types → layout.type_at w t ≡ type_at S t
  unfolding layout.type_at type_at
  type_shown t h =
      rw (
        column w kinds_at kind_code S.types Int t.0 H.kinds h,
        column w firsts_at first_of S.types Int t.0 H.firsts h,
        column w seconds_at second_of S.types Int t.0 H.seconds h,
      )
      (type_of_numbers _)

  -- ---------------------------------------------------------------- maps

  pub map_stands : (m : MapNumber) → m.0 < length S.maps → Stands w S m (map_at S m)
  unfolding map_in map_cell map_at
  map_stands m h =
      let e : length (map_at S m) ≡ S.header.locations = R.map_wide m.0 h in
      record {
        fits = rw (← e) (H.maps m.0 h).fits;
        is = rw (← e) (cells w m 0 (map_at S m) (λ i l. ap (map_cell w m) (omega arith) ∙ (H.maps m.0 h).at i l));
      }

  -- the maps that a type line shows
  pub first_stands : (t : TypeNumber) → t.0 < length S.types → Stands w S (first_map (layout.type_at w t)) (map_at S (first_map (type_at S t)))
  first_stands t h = rw (type_shown t h) (map_stands (first_map (type_at S t)) (first_fits R t))

  pub second_stands : (t : TypeNumber) → t.0 < length S.types → Stands w S (second_map (layout.type_at w t)) (map_at S (second_map (type_at S t)))
  second_stands t h = rw (type_shown t h) (map_stands (second_map (type_at S t)) (second_fits R t))

  -- the empty map
  empty_stands : Stands w S (record { 0 = empty_map }) (replicate S.header.locations 0)
  unfolding map_in map_cell
  empty_stands =
      let n = S.header.locations in
      let e : length {A = ℕ} (replicate n 0) ≡ n = length-replicate n 0 in
      let zero_at : (i : ℕ) → i < n → map_cell w (record { 0 = empty_map }) i ≡ get_or (replicate n 0) i 0 = λ i l.
      H.empty.at i (omega (arith, R.locations.1))
      ∙ get_or-replicate {A = ℕ} stride i 0 0 (omega (arith, R.locations.1))
      ∙ sym (get_or-replicate n i 0 0 l) in
      record {
        fits = omega (arith, H.empty.fits, length-replicate {A = ℕ} stride 0, R.locations.1);
        is =
            ap (map_from w (record { 0 = empty_map }) 0) (sym e)
            ∙ cells w (record { 0 = empty_map }) 0 (replicate n 0)
            (λ i l. ap (map_cell w (record { 0 = empty_map })) (omega arith) ∙ zero_at i (omega arith));
      }

  pub start_stands : (o : Option MapNumber) → ((m : MapNumber) → o ≡ Some m → m.0 < length S.maps)
      → Stands w S (record { 0 = start_number o }) (start_or S o)
  unfolding start_number start_or
  start_stands None h = empty_stands
  start_stands (Some m) h = map_stands m (h m refl)

  -- what a map has of a location
  pub has_shown : {m : MapNumber} {x : Map} (p : Location) → Stands w S m x → p.0 < S.header.locations
      → map_cell w m p.0 ≡ share x p
  unfolding map_in share
  has_shown {m} p s l = rw (← s.is) (sym (cell_of w m 0 S.header.locations p.0 l ∙ ap (map_cell w m) (omega arith)))

  -- ---------------------------------------------------------------- signatures

  -- the signature of procedure f: its types, and its maps by the numbers stored for them
  module _ (f : ℕ) (h : f < length S.signatures) where
    pub argument_shown : get_or w (sig_arguments_at + f) 0 ≡ (signature S f).argument.0
    unfolding signature
    argument_shown = column w sig_arguments_at (λ (g : Signature). g.argument.0) S.signatures no_signature f H.arguments h

    pub argument_in : (signature S f).argument.0 < length S.types
    unfolding signature
    argument_in = R.argument_type f no_signature h

    pub result_shown : get_or w (sig_results_at + f) 0 ≡ (signature S f).result.0
    unfolding signature
    result_shown = column w sig_results_at (λ (g : Signature). g.result.0) S.signatures no_signature f H.results h

    pub result_in : (signature S f).result.0 < length S.types
    unfolding signature
    result_in = R.result_type f no_signature h

    before_shown : get_or w (sig_befores_at + f) 0 ≡ (signature S f).before.0
    unfolding signature
    before_shown = column w sig_befores_at (λ (g : Signature). g.before.0) S.signatures no_signature f H.befores h

    pub before_at : {m : ℕ} → m ≡ get_or w (sig_befores_at + f) 0 → Stands w S (record { 0 = m }) (map_at S (signature S f).before)
    unfolding signature
    before_at q = rw (map_number (q ∙ before_shown)) (map_stands _ (R.before_map f no_signature h))

    after_shown : get_or w (sig_afters_at + f) 0 ≡ (signature S f).after.0
    unfolding signature
    after_shown = column w sig_afters_at (λ (g : Signature). g.after.0) S.signatures no_signature f H.afters h

    pub after_at : {m : ℕ} → m ≡ get_or w (sig_afters_at + f) 0 → Stands w S (record { 0 = m }) (map_at S (signature S f).after)
    unfolding signature
    after_at q = rw (map_number (q ∙ after_shown)) (map_stands _ (R.after_map f no_signature h))

  -- ---------------------------------------------------------------- rows

  -- the row of a step that stands at index i
  module _ (e : Expr) (i : ℕ) (index : index_of e ≡ i) (h : i < length S.rows) where
    pub row_at : get_or S.rows i no_row ≡ row S e
    unfolding row
    row_at = rw index

    pub row_type_lem : get_or w (row_types_at + i) 0 ≡ (row S e).type.0
    row_type_lem = column w row_types_at (λ (r : Row). r.type.0) S.rows no_row i H.row_types h
        ∙ ap (λ (r : Row). r.type.0) row_at

    row_post_lem : get_or w (posts_at + i) 0 ≡ (row S e).post.0
    row_post_lem = column w posts_at (λ (r : Row). r.post.0) S.rows no_row i H.posts h ∙ ap (λ (r : Row). r.post.0) row_at

    -- the maps of its row, by the numbers stored for them
    pub post_at : {m : ℕ} → m ≡ get_or w (posts_at + i) 0 → Stands w S (record { 0 = m }) (post S e)
    unfolding post
    post_at q = rw (map_number (q ∙ row_post_lem)) (map_stands _ (rw row_at at (R.row_post i no_row h)))

    row_start_lem : get_or w (starts_at + i) 0 ≡ start_number (row S e).start
    row_start_lem = column w starts_at (λ (r : Row). start_number r.start) S.rows no_row i H.starts h
        ∙ ap (λ (r : Row). start_number r.start) row_at

    pub start_at : Stands w S (record { 0 = get_or w (starts_at + i) 0 }) (body_start S e)
    unfolding body_start
    start_at = rw (map_number row_start_lem) (start_stands _ (λ m q. R.row_start i no_row m h (ap (λ (r : Row). r.start) row_at ∙ q)))
