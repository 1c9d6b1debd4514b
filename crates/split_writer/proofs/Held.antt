-- The split that the work space holds is the one that stands there, entry by entry; and the bounds that the writers ask for.
use Rattle.std.proofs.Common.{Option, None, Some}
use mathlib.Core.Path.{◌≡◌, refl, sym, ap, ◌∙◌}
use mathlib.Core.List.{List, [], ◌∷◌}
use Prim.Native.Nat.{ℕ, zero, suc, ◌+◌, ◌*◌, ◌≤◌, ◌<◌}
use native.Mathlib.Omega.{arith}
use lib.ListN.{length, get_or, take, drop, length-map}
use borrow.Author.Tests.{ne_eqb}
use Rattle.spec.specs.Split.{no_signature, Row, Split, no_row}
use Rattle.spec.specs.declared.Signature.{Signature}
use Rattle.spec.specs.declared.Header.{Header}
use Rattle.spec.specs.Conditions.{type_at}
use Rattle.spec.specs.declared.MapNumber.{MapNumber}
use Rattle.spec.specs.declared.TypeLine.TheVariants.{Int}
use Rattle.workspace.specs.Layout.{row_types_at, posts_at, starts_at, sig_befores_at, sig_arguments_at, sig_afters_at, sig_results_at, maps_at, stride, empty_map}
use Rattle.workspace.specs.Holds.{start_number}
use Rattle.workspace.proofs.Region.{column, region_part}
use Rattle.workspace.proofs.Shown.{type_shown}
use Rattle.split_writer.specs.Stored.{in_order, type_stored, map_in, signature_in, start_stored, row_in, split_in}
use Rattle.split_writer.specs.Contract.{HoldsSheet}

-- things in order are the entries of a list
in_order_entries : {A : Type 0} (f : ℕ → A) (xs : List A) (d : A) (i n : ℕ) → length xs ≡ n
    → ((j : ℕ) → j < length xs → f (i + j) ≡ get_or xs j d) → in_order f i n ≡ xs
unfolding in_order
in_order_entries f [] d i zero l e = refl
in_order_entries f [] d i (suc n) l e = absurd (omega (arith, l))
in_order_entries f (x ∷ xs) d i zero l e = absurd (omega (arith, l))
in_order_entries f (x ∷ xs) d i (suc n) l e =
    let here : f i ≡ x = ap f (omega arith) ∙ e 0 (omega arith) in
    let behind = in_order_entries f xs d (i + 1) n (omega (arith, l)) (λ j h. ap f (omega arith) ∙ e (suc j) (omega arith)) in
    λ k. here k ∷ behind k

-- the number of a start that is a map, or of the empty map
start_decodes : (o : Option MapNumber) → ((m : MapNumber) → o ≡ Some m → m.0 < empty_map) → start_stored (start_number o) ≡ o
unfolding start_stored start_number
start_decodes None few = refl
start_decodes (Some m) few = rw (ne_eqb m.0 empty_map (λ e. omega (arith, few m refl)))

module _ {w : List ℕ} {header : Header} {procedures steps : ℕ} {S : Split} (K : HoldsSheet w header procedures steps S) where
  type_held : (t : ℕ) → t < length S.types → type_stored w t ≡ get_or S.types t Int
  unfolding type_stored type_at
  type_held t h = type_shown w S K.program K.split K.in_range (record { 0 = t }) h

  map_held : (m : ℕ) → m < length S.maps → map_in S.header.locations w m ≡ get_or S.maps m []
  unfolding map_in
  map_held m h =
      let xs = get_or S.maps m [] in
      ap (λ (n : ℕ). take n (drop (maps_at + stride * m) w)) (sym (K.in_range.map_wide m h)) ∙ region_part w (maps_at + stride * m) xs (K.split.maps m h)

  signature_held : (f : ℕ) → f < length S.signatures → signature_in w f ≡ get_or S.signatures f no_signature
  unfolding signature_in
  signature_held f h =
      let before = column w sig_befores_at (λ (g : Signature). g.before.0) S.signatures no_signature f K.split.befores h in
      let argument = column w sig_arguments_at (λ (g : Signature). g.argument.0) S.signatures no_signature f K.split.arguments h in
      let after = column w sig_afters_at (λ (g : Signature). g.after.0) S.signatures no_signature f K.split.afters h in
      let result = column w sig_results_at (λ (g : Signature). g.result.0) S.signatures no_signature f K.split.results h in
      λ k. record {
        before = record { 0 = before k };
        argument = record { 0 = argument k };
        after = record { 0 = after k };
        result = record { 0 = result k };
      }

  row_held : (i : ℕ) → i < length S.rows → row_in w i ≡ get_or S.rows i no_row
  unfolding row_in
  row_held i h =
      let r = get_or S.rows i no_row in
      let typed = column w row_types_at (λ (q : Row). q.type.0) S.rows no_row i K.split.row_types h in
      let left = column w posts_at (λ (q : Row). q.post.0) S.rows no_row i K.split.posts h in
      let number = column w starts_at (λ (q : Row). start_number q.start) S.rows no_row i K.split.starts h in
      let few : (m : MapNumber) → r.start ≡ Some m → m.0 < empty_map =
      λ m e. omega (arith, K.in_range.row_start i no_row m h e, K.in_range.maps_counted, K.in_range.maps_few) in
      let start = ap start_stored number ∙ start_decodes r.start few in
      λ k. record { type = record { 0 = typed k }; post = record { 0 = left k }; start = start k }

  pub split_held : split_in header procedures steps w ≡ S
  unfolding split_in
  split_held =
      let R = K.in_range in
      let behind : (j : ℕ) → 0 + j ≡ j = λ j. omega arith in
      let types = in_order_entries (type_stored w) S.types Int 0 S.header.types R.types_counted (λ t h. ap (type_stored w) (behind t) ∙ type_held t h) in
      let maps = in_order_entries (map_in S.header.locations w) S.maps [] 0 S.header.maps R.maps_counted (λ m h. ap (map_in S.header.locations w) (behind m) ∙ map_held m h) in
      let signatures = in_order_entries (signature_in w) S.signatures no_signature 0 procedures (R.signatures_counted ∙ K.procedures_counted) (λ f h. ap (signature_in w) (behind f) ∙ signature_held f h) in
      let rows = in_order_entries (row_in w) S.rows no_row 0 steps (R.rows_counted ∙ K.counted) (λ i h. ap (row_in w) (behind i) ∙ row_held i h) in
      ap (λ (H : Header). split_in H procedures steps w) (sym K.headed)
      ∙ (λ k. record { header = S.header; types = types k; maps = maps k; signatures = signatures k; rows = rows k })

  -- ---------------------------------------------------------------- numbers that the work space has room for

  head : (f : Header → ℕ) → f S.header ≡ f header
  head f = ap f K.headed

  pub header_small : (header.locations < 4294967296) × (header.types < 4294967296) × (header.maps < 4294967296)
  header_small = (
    omega (arith, head (λ H. H.locations), K.in_range.locations),
    omega (arith, head (λ H. H.types), K.in_range.types_few),
    omega (arith, head (λ H. H.maps), K.in_range.maps_few),
  )

  pub maps_stand : (header.locations ≤ 16) × (maps_at + stride * header.maps ≤ length w)
  maps_stand = (
    omega (arith, head (λ H. H.locations), K.in_range.locations),
    omega (arith, head (λ H. H.maps), K.in_range.maps_few, K.split.empty.fits),
  )

  pub rows_stand : starts_at + steps ≤ length w
  rows_stand = omega (arith, K.split.starts.fits, length-map S.rows (λ (r : Row). start_number r.start), K.in_range.rows_counted, K.counted)

  pub procedures_small : procedures < 4294967296
  procedures_small = omega (arith, K.few)
