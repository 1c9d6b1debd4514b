-- A well-formed split sheet has every number in its range: `InRange`, line by line.
use Rattle.std.proofs.Common.{Option, None, Some}
use mathlib.Core.Path.{◌≡◌, refl, sym, ap, ◌∙◌}
use mathlib.Core.Path.{subst as along}
use mathlib.Core.List.{List, [], ◌∷◌, map}
use mathlib.Core.Bool.{Bool, true, false}
use Prim.Native.Nat.{ℕ, zero, suc, ◌+◌, ◌≤◌, ◌<◌}
use native.Mathlib.Omega.{arith}
use lib.ListN.{length, get_or, replicate, length-replicate}
use Rattle.spec.specs.Choice.{when◌then◌else◌}
use Rattle.spec.specs.Text.{Line, bytes, same, Field}
use Rattle.spec.specs.Reading.{good, seen, ◌to◌, below, in_range, numerals, numbers}
use Rattle.spec.specs.Words.{takes_start}
use Rattle.spec.specs.Expression.{Step}
use Rattle.spec.specs.Program.{Program}
use Rattle.spec.specs.Split.{Map, header_ranges, maps_of, maps_in, nth_location, nth_type, nth_map, start_of, header_of, header_line, lock_of, out_range, type_line, type_lines, map_line, signature_of, signature_line, Row, row_of, start_range, post_range, post_field, empty_fault, row_line, Split}
use Rattle.spec.specs.declared.Signature.{Signature}
use Rattle.spec.specs.declared.Header.{Header}
use Rattle.spec.specs.Kinds.{ref, same_kind, is, ref_location, content, maps}
use Rattle.spec.specs.WellFormed.{Parses, nothing, line, WellFormedSplit}
use Rattle.spec.specs.declared.Purpose.{Purpose}
use Rattle.spec.specs.declared.Purpose.TheVariants.{Check, Fill}
use Rattle.spec.specs.Ranges.{AllBelow, InRange}
use Rattle.spec.specs.declared.Heading.{Heading}
use Rattle.spec.specs.declared.Heading.TheVariants.{C, C2, C3}
use Rattle.spec.specs.declared.Location.{Location}
use Rattle.spec.specs.declared.MapNumber.{MapNumber}
use Rattle.spec.specs.declared.TypeNumber.{TypeNumber}
use Rattle.spec.specs.declared.Word.{Word}
use Rattle.spec.specs.declared.TypeLine.{TypeLine}
use Rattle.spec.specs.declared.TypeLine.TheVariants as declared_type
use Rattle.spec.proofs.Clashes.{true_is_not_false}
use Rattle.spec.proofs.Seen.{wrong_is_not_right, seen_right, formed_right, insist_right, either_right, numbers_right, numbers_spelled, in_to, in_below, in_range_at}

-- ------------------------------------------------------------------ headers

record HeaderFits (H : Header) : Type 0 where
  denominator : (1 ≤ H.denominator) × (H.denominator ≤ 1000000000)
  locations : (1 ≤ H.locations) × (H.locations ≤ 16)
  types : (1 ≤ H.types) × (H.types ≤ 64)
  maps : (1 ≤ H.maps) × (H.maps ≤ 512)
  start : H.start.0 < H.maps

-- the numbers of a header that names its start
named_fits : (h : Heading) (fs : List Field) (ns : List ℕ) → numbers (header_ranges C2 (maps_in (numerals fs))) fs ≡ good ns
    → HeaderFits (record {
      heading = h;
      denominator = get_or ns 0 0;
      locations = get_or ns 1 0;
      types = get_or ns 2 0;
      maps = maps_of ns;
      start = record { 0 = get_or ns 4 0 };
    })
unfolding header_ranges maps_in maps_of
named_fits h fs ns n =
    let at = in_range_at (header_ranges C2 (maps_in (numerals fs))) fs ns n in
    let named : maps_in (numerals fs) ≡ maps_of ns = ap maps_in (numbers_spelled (header_ranges C2 (maps_in (numerals fs))) fs ns n) in
    record {
      denominator = in_to _ _ _ (at 0 (omega arith));
      locations = in_to _ _ _ (at 1 (omega arith));
      types = in_to _ _ _ (at 2 (omega arith));
      maps = in_to _ _ _ (at 3 (omega arith));
      start = omega (arith, in_below _ _ (at 4 (omega arith)), named);
    }

-- the ranges of a `C` header, and of the same numbers of the others
headed_fits : (h : Heading) (fs : List Field) (H : Header) → seen (header_of h) (numbers (header_ranges h (maps_in (numerals fs))) fs) ≡ good H → HeaderFits H
unfolding header_ranges header_of start_of maps_in maps_of
headed_fits C fs H h =
    let (ns, n, e) = seen_right _ h in
    let at = in_range_at (header_ranges C (maps_in (numerals fs))) fs ns n in
    let maps = in_to _ _ _ (at 3 (omega arith)) in
    along HeaderFits e (record {
      denominator = in_to _ _ _ (at 0 (omega arith));
      locations = in_to _ _ _ (at 1 (omega arith));
      types = in_to _ _ _ (at 2 (omega arith));
      maps = maps;
      start = maps.0;
    })
headed_fits C2 fs H h = let (ns, n, e) = seen_right _ h in along HeaderFits e (named_fits C2 fs ns n)
headed_fits C3 fs H h = let (ns, n, e) = seen_right _ h in along HeaderFits e (named_fits C3 fs ns n)

header_fits_lem : (purpose : Purpose) (fs : List Field) (H : Header) → header_line purpose fs ≡ good H → HeaderFits H
unfolding header_line
header_fits_lem purpose [] H h = wrong_is_not_right h
header_fits_lem purpose (f ∷ fs) H h = let (heading, _, shown) = formed_right _ _ h in headed_fits heading fs H shown

-- ------------------------------------------------------------------ type lines

-- the numbers of type `own` are of their kinds
record TypeFits (H : Header) (own : ℕ) (t : TypeLine) : Type 0 where
  place : is ref t ≡ true → ((ref_location t).0 < H.locations) × ((content t).0 < own)
  loads : AllBelow H.maps (maps t)

module _ (H : Header) (own : ℕ) (fs : List Field) where
  -- a type that is no ref
  plain_fits : (t : TypeLine) → is ref t ≡ false → AllBelow H.maps (maps t) → TypeFits H own t
  plain_fits t e h = record { place = λ r. true_is_not_false (sym r ∙ e); loads = h }

  int_fits : (t : TypeLine) → seen (λ ns. declared_type.Int) (numbers ((0 to 0) ∷ (0 to 0) ∷ []) fs) ≡ good t → TypeFits H own t
  unfolding is same_kind
  int_fits t h = let (ns, n, e) = seen_right _ h in along (TypeFits H own) e (plain_fits declared_type.Int refl tt)

  ref_fits : (t : TypeLine) → seen (λ ns. declared_type.Ref (nth_location 0 ns) (nth_type 1 ns)) (numbers (below H.locations ∷ below own ∷ []) fs) ≡ good t → TypeFits H own t
  unfolding ref_location content
  ref_fits t h =
      let (ns, n, e) = seen_right _ h in
      let at = in_range_at (below H.locations ∷ below own ∷ []) fs ns n in
      along (TypeFits H own) e (record { place = λ r. (in_below _ _ (at 0 (omega arith)), in_below _ _ (at 1 (omega arith))); loads = tt })

  lock_fits : (h : Heading) (t : TypeLine) → seen (lock_of h) (numbers (below H.maps ∷ out_range h H.maps ∷ []) fs) ≡ good t → TypeFits H own t
  unfolding lock_of out_range is same_kind
  lock_fits h t r =
      let (ns, n, e) = seen_right _ r in
      let at = in_range_at (below H.maps ∷ out_range h H.maps ∷ []) fs ns n in
      along (TypeFits H own) e (by_heading h ns (in_below _ _ (at 0 (omega arith))) (at 1 (omega arith)))
    where
      by_heading : (h : Heading) (ns : List ℕ) → get_or ns 0 0 < H.maps → in_range (out_range h H.maps) (get_or ns 1 0) ≡ true
          → TypeFits H own (lock_of h ns)
      by_heading C ns first second = plain_fits _ refl (first, (first, tt))
      by_heading C2 ns first second = plain_fits _ refl (first, (first, tt))
      by_heading C3 ns first second = plain_fits _ refl (first, (in_below _ _ second, tt))

  tid_fits : (t : TypeLine) → seen (λ ns. declared_type.Tid (nth_map 0 ns)) (numbers (below H.maps ∷ (0 to 0) ∷ []) fs) ≡ good t → TypeFits H own t
  unfolding is same_kind
  tid_fits t h =
      let (ns, n, e) = seen_right _ h in
      along (TypeFits H own) e (plain_fits _ refl (in_below _ _ (in_range_at (below H.maps ∷ (0 to 0) ∷ []) fs ns n 0 (omega arith)), tt))

  sem_fits : (t : TypeLine) → seen (λ ns. declared_type.Sem (nth_map 0 ns)) (numbers (below H.maps ∷ (0 to 0) ∷ []) fs) ≡ good t → TypeFits H own t
  unfolding is same_kind
  sem_fits t h =
      let (ns, n, e) = seen_right _ h in
      along (TypeFits H own) e (plain_fits _ refl (in_below _ _ (in_range_at (below H.maps ∷ (0 to 0) ∷ []) fs ns n 0 (omega arith)), tt))

  rwlock_fits : (t : TypeLine) → seen (λ ns. declared_type.Rwlock (nth_map 0 ns) (nth_map 1 ns)) (numbers (below H.maps ∷ below H.maps ∷ []) fs) ≡ good t → TypeFits H own t
  unfolding is same_kind
  rwlock_fits t h =
      let (ns, n, e) = seen_right _ h in
      let at = in_range_at (below H.maps ∷ below H.maps ∷ []) fs ns n in
      along (TypeFits H own) e (plain_fits _ refl (in_below _ _ (at 0 (omega arith)), (in_below _ _ (at 1 (omega arith)), tt)))

type_fits : (H : Header) (own : ℕ) (fs : List Field) (t : TypeLine) → type_line H own fs ≡ good t → TypeFits H own t
unfolding type_line
type_fits H own [] t h = wrong_is_not_right h
type_fits H own (f ∷ fs) t h =
    let fits = TypeFits H own in
    either_right fits (same f (bytes "int")) _ _ (int_fits H own fs)
    (either_right fits (same f (bytes "ref")) _ _ (ref_fits H own fs)
    (either_right fits (same f (bytes "lock")) _ _ (lock_fits H own fs H.heading)
    (either_right fits (same f (bytes "tid")) _ _ (tid_fits H own fs)
    (either_right fits (same f (bytes "sem")) _ _ (sem_fits H own fs)
    (either_right fits (same f (bytes "rwlock")) _ _ (rwlock_fits H own fs) (λ t h. wrong_is_not_right h)))))) t h

-- a type that is known to be a ref
ref_place_lem : {H : Header} {own : ℕ} {t : TypeLine} {p : Location} {c : TypeNumber} → TypeFits H own t → t ≡ declared_type.Ref p c
    → (p.0 < H.locations) × (c.0 < own)
unfolding is same_kind ref_location content
ref_place_lem {H} {own} fits e = (along (TypeFits H own) e fits).place refl

types_fit : (H : Header) (own n : ℕ) {ls rest : List Line} {ts : List TypeLine} → Parses (type_lines H own n) ls ts rest
    → (length ts ≡ n) × ((t : ℕ) → t < length ts → TypeFits H (own + t) (get_or ts t declared_type.Int))
unfolding type_lines
types_fit H own zero nothing = (refl, λ t h. absurd (omega arith))
types_fit H own (suc n) (line {a = a} {as' = ts} h more) =
    let (l, fits) = types_fit H (own + 1) n more in
    (ap suc l, go fits)
  where
    go : ((t : ℕ) → t < length ts → TypeFits H (own + 1 + t) (get_or ts t declared_type.Int))
        → (t : ℕ) → t < length (a ∷ ts) → TypeFits H (own + t) (get_or (a ∷ ts) t declared_type.Int)
    go fits zero q = along (λ o. TypeFits H o a) (omega arith) (type_fits H own _ a h)
    go fits (suc t) q = along (λ o. TypeFits H o (get_or ts t declared_type.Int)) (omega arith) (fits t (omega arith))

-- ------------------------------------------------------------------ map lines

map_wide_lem : (H : Header) (fs : List Field) (m : Map) → map_line H fs ≡ good m → length m ≡ H.locations
unfolding map_line
map_wide_lem H fs m h = (numbers_right _ fs m h).0 ∙ length-replicate H.locations (0 to 1000000000)

maps_wide : (H : Header) (n : ℕ) {ls rest : List Line} {ms : List Map} → Parses (replicate n (map_line H)) ls ms rest
    → (length ms ≡ n) × ((m : ℕ) → m < length ms → length (get_or ms m []) ≡ H.locations)
maps_wide H zero nothing = (refl, λ m h. absurd (omega arith))
maps_wide H (suc n) (line {a = a} {as' = ms} h more) =
    let (l, wide) = maps_wide H n more in
    (ap suc l, go wide)
  where
    go : ((m : ℕ) → m < length ms → length (get_or ms m []) ≡ H.locations)
        → (m : ℕ) → m < length (a ∷ ms) → length (get_or (a ∷ ms) m []) ≡ H.locations
    go wide zero q = map_wide_lem H _ a h
    go wide (suc m) q = wide m (omega arith)

-- ------------------------------------------------------------------ lines of procedures

SignatureFits : Header → Signature → Type 0
SignatureFits H g = (g.before.0 < H.maps) × (g.argument.0 < H.types) × (g.after.0 < H.maps) × (g.result.0 < H.types)

signature_fits : (H : Header) (fs : List Field) (g : Signature) → signature_line H fs ≡ good g → SignatureFits H g
unfolding signature_line signature_of SignatureFits
signature_fits H fs g h =
    let (ns, n, e) = seen_right _ h in
    let at = in_range_at (below H.maps ∷ below H.types ∷ below H.maps ∷ below H.types ∷ []) fs ns n in
    along (SignatureFits H) e (in_below _ _ (at 0 (omega arith)), in_below _ _ (at 1 (omega arith)), in_below _ _ (at 2 (omega arith)), in_below _ _ (at 3 (omega arith)))

signatures_fit : (H : Header) (n : ℕ) {ls rest : List Line} {gs : List Signature} → Parses (replicate n (signature_line H)) ls gs rest
    → (length gs ≡ n) × ((f : ℕ) (d : Signature) → f < length gs → SignatureFits H (get_or gs f d))
signatures_fit H zero nothing = (refl, λ f d h. absurd (omega arith))
signatures_fit H (suc n) (line {a = a} {as' = gs} h more) =
    let (l, fits) = signatures_fit H n more in
    (ap suc l, go fits)
  where
    go : ((f : ℕ) (d : Signature) → f < length gs → SignatureFits H (get_or gs f d))
        → (f : ℕ) (d : Signature) → f < length (a ∷ gs) → SignatureFits H (get_or (a ∷ gs) f d)
    go fits zero d q = signature_fits H _ a h
    go fits (suc f) d q = fits f d (omega arith)

-- ------------------------------------------------------------------ step lines

-- a start that is given is a map
StartFits : Header → Option MapNumber → Type 0
StartFits H None = Unit {0}
StartFits H (Some m) = m.0 < H.maps

RowFits : Header → Row → Type 0
RowFits H r = (r.type.0 < H.types) × (r.post.0 < H.maps) × StartFits H r.start

-- on every word, a number s is a map
start_below : (w : Word) (H : Header) (n : ℕ) → in_range (start_range w H) n ≡ true → n < H.maps
unfolding start_range
start_below w H n h = by_cases (takes_start w) (in_below _ n h)
  where
    by_cases : (b : Bool) → n < (when b then H.maps else 0) → n < H.maps
    by_cases true q = q
    by_cases false q = absurd (omega arith)

-- for every purpose, a number m is a map
post_below : (purpose : Purpose) (H : Header) (m : Field) (n : ℕ) → in_range (post_range purpose H m) n ≡ true → n < H.maps
unfolding post_range
post_below Check H m n h = in_below _ n h
post_below Fill H [] n h = in_below _ n h
post_below Fill H (b ∷ m) n h = absurd (omega (arith, in_below _ n h))

module _ (purpose : Purpose) (H : Header) where
  row_fits : (s : Step) (fs : List Field) (r : Row) → row_line purpose H s fs ≡ good r → RowFits H r
  unfolding row_line row_of RowFits StartFits
  row_fits s [] r h = wrong_is_not_right h
  row_fits s (t ∷ []) r h = wrong_is_not_right h
  row_fits s (t ∷ m ∷ []) r h = wrong_is_not_right h
  row_fits s (t ∷ m ∷ [] ∷ []) r h =
      let (ns, n, e) = seen_right _ (insist_right _ (empty_fault s.word) _ h).1 in
      let at = in_range_at (below H.types ∷ post_range purpose H m ∷ []) (t ∷ post_field purpose m ∷ []) ns n in
      along (RowFits H) e (in_below _ _ (at 0 (omega arith)), post_below purpose H m _ (at 1 (omega arith)), tt)
  row_fits s (t ∷ m ∷ (b ∷ f) ∷ []) r h =
      let (ns, n, e) = seen_right _ h in
      let at = in_range_at (below H.types ∷ post_range purpose H m ∷ start_range s.word H ∷ []) (t ∷ post_field purpose m ∷ (b ∷ f) ∷ []) ns n in
      along (RowFits H) e (in_below _ _ (at 0 (omega arith)), post_below purpose H m _ (at 1 (omega arith)), start_below s.word H _ (at 2 (omega arith)))
  row_fits s (t ∷ m ∷ f ∷ g ∷ fs) r h = wrong_is_not_right h

  rows_fit : (steps : List Step) {ls rest : List Line} {rs : List Row} → Parses (map (row_line purpose H) steps) ls rs rest
      → (length rs ≡ length steps) × ((i : ℕ) (d : Row) → i < length rs → RowFits H (get_or rs i d))
  rows_fit [] nothing = (refl, λ i d h. absurd (omega arith))
  rows_fit (s ∷ steps) (line {a = a} {as' = rs} h more) =
      let (l, fits) = rows_fit steps more in
      (ap suc l, go fits)
    where
      go : ((i : ℕ) (d : Row) → i < length rs → RowFits H (get_or rs i d)) → (i : ℕ) (d : Row) → i < length (a ∷ rs) → RowFits H (get_or (a ∷ rs) i d)
      go fits zero d q = row_fits s _ a h
      go fits (suc i) d q = fits i d (omega arith)

-- ------------------------------------------------------------------ the sheet

pub well_formed_in_range : {purpose : Purpose} {P : Program} {text : List ℕ} {S : Split} → WellFormedSplit purpose P text S → InRange P S
unfolding SignatureFits RowFits StartFits
well_formed_in_range {purpose} {P} {text} {S} F =
    let H = S.header in
    let head = header_fits_lem purpose _ H F.headed in
    let (types_counted, types) = types_fit H 0 H.types F.typed in
    let (maps_counted, wide) = maps_wide H H.maps F.mapped in
    let (signatures_counted, signatures) = signatures_fit H (length P.procedures) F.signed in
    let (rows_counted, rows) = rows_fit purpose H P.steps F.rowed in
    let fits : (t : ℕ) → t < length S.types → TypeFits H t (get_or S.types t declared_type.Int) =
    λ t h. let z : 0 + t ≡ t = omega arith in along (λ o. TypeFits H o (get_or S.types t declared_type.Int)) z (types t h) in
    record {
      denominator = head.denominator;
      locations = head.locations;
      types_counted = types_counted;
      types_few = head.types;
      maps_counted = maps_counted;
      maps_few = head.maps;
      start = omega (arith, maps_counted, head.start);
      signatures_counted = signatures_counted;
      rows_counted = rows_counted;
      map_wide = wide;
      ref_place = λ t p c h e. ref_place_lem (fits t h) e;
      type_maps = λ t h. along (λ n. AllBelow n (maps (get_or S.types t declared_type.Int))) (sym maps_counted) (fits t h).loads;
      before_map = λ f d h. omega (arith, maps_counted, (signatures f d h).0);
      argument_type = λ f d h. omega (arith, types_counted, (signatures f d h).1);
      after_map = λ f d h. omega (arith, maps_counted, (signatures f d h).2);
      result_type = λ f d h. omega (arith, types_counted, (signatures f d h).3);
      row_type = λ i d h. omega (arith, types_counted, (rows i d h).0);
      row_post = λ i d h. omega (arith, maps_counted, (rows i d h).1);
      row_start = λ i d m h e. omega (arith, maps_counted, along (StartFits H) e (rows i d h).2);
    }
