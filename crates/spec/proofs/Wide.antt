-- In a split whose numbers are in range every map has a number for each location, and so have the post and the start that an
-- expression's row shows, and the maps of a procedure's line.
use Rattle.std.proofs.Common.{Option, None, Some}
use mathlib.Core.Path.{◌≡◌, refl}
use Prim.Native.Nat.{ℕ, ◌<◌}
use native.Mathlib.Omega.{arith}
use native.Mathlib.Decide.{dec_lt}
use lib.ListN.{length, length-replicate, get_or-eq_default}
use Rattle.spec.specs.Expression.{Expr, index_of}
use Rattle.spec.specs.Program.{Program}
use Rattle.spec.specs.Split.{Row, no_row, no_signature, Split, map_at}
use Rattle.spec.specs.declared.Signature.{Signature}
use Rattle.spec.specs.Conditions.{row, post, start_or, body_start, kept_back, signature}
use Rattle.spec.specs.Ranges.{InRange}
use Rattle.spec.specs.declared.MapNumber.{MapNumber}
use Rattle.spec.proofs.Clashes.{none_is_not_some}
use Rattle.spec.proofs.Fits.{some_map}

module _ {P : Program} {S : Split} (R : InRange P S) where
  pub map_wide_lem : (m : MapNumber) → m.0 < length S.maps → length (map_at S m) ≡ S.header.locations
  unfolding map_at
  map_wide_lem m l = R.map_wide m.0 l

  -- what holds of each row of the sheet, and of none, holds of the row of an expression
  of_row : (Q : Row → Type 0) → Q no_row → (e : Expr) → (index_of e < length S.rows → Q (row S e)) → Q (row S e)
  unfolding row
  of_row Q absent e each = by_cases (dec_lt (index_of e) (length S.rows))
    where
      by_cases : Dec (index_of e < length S.rows) → Q (row S e)
      by_cases (yes l) = each l
      by_cases (no l) = rw (get_or-eq_default S.rows no_row {n = index_of e} (omega (arith, l))) absent

  pub post_wide : (e : Expr) → length (post S e) ≡ S.header.locations
  unfolding post row
  post_wide e =
      map_wide_lem (row S e).post (of_row (λ r. r.post.0 < length S.maps) (some_map R) e (R.row_post (index_of e) no_row))

  -- a start that is given is the number of a map
  pub start_fits : (e : Expr) (m : MapNumber) → (row S e).start ≡ Some m → m.0 < length S.maps
  unfolding row
  start_fits e m =
      of_row (λ r. r.start ≡ Some m → m.0 < length S.maps) (λ h. none_is_not_some h) e (λ l. R.row_start (index_of e) no_row m l)

  -- one that is not given has each location too
  pub start_wide : (e : Expr) → length (body_start S e) ≡ S.header.locations
  unfolding body_start start_or
  start_wide e = by_cases (row S e).start refl
    where
      by_cases : (o : Option MapNumber) → (row S e).start ≡ o → length (start_or S o) ≡ S.header.locations
      by_cases None given = length-replicate S.header.locations 0
      by_cases (Some m) given = map_wide_lem m (start_fits e m given)

  -- and so has what a call keeps back
  pub kept_wide : (e : Expr) → length (kept_back S e) ≡ S.header.locations
  unfolding kept_back
  kept_wide e = start_wide e

  -- what holds of each signature of the sheet, and of none, holds of that of procedure f
  of_signature : (Q : Signature → Type 0) → Q no_signature → (f : ℕ) → (f < length S.signatures → Q (signature S f)) → Q (signature S f)
  unfolding signature
  of_signature Q absent f each = by_cases (dec_lt f (length S.signatures))
    where
      by_cases : Dec (f < length S.signatures) → Q (signature S f)
      by_cases (yes l) = each l
      by_cases (no l) = rw (get_or-eq_default S.signatures no_signature {n = f} (omega (arith, l))) absent

  pub before_fits : (f : ℕ) → (signature S f).before.0 < length S.maps
  unfolding signature
  before_fits f = of_signature (λ g. g.before.0 < length S.maps) (some_map R) f (R.before_map f no_signature)

  pub after_fits : (f : ℕ) → (signature S f).after.0 < length S.maps
  unfolding signature
  after_fits f = of_signature (λ g. g.after.0 < length S.maps) (some_map R) f (R.after_map f no_signature)

  pub before_wide : (f : ℕ) → length (map_at S (signature S f).before) ≡ S.header.locations
  before_wide f = map_wide_lem (signature S f).before (before_fits f)

  pub after_wide : (f : ℕ) → length (map_at S (signature S f).after) ≡ S.header.locations
  after_wide f = map_wide_lem (signature S f).after (after_fits f)
