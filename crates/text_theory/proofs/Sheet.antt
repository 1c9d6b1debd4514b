-- A split that is written reads back as that split. Line by line: the numbers of a line are in their ranges, so the line's own way
-- of reading finds them again; then the lines of the text are those that were written.
use Rattle.std.proofs.Common.{Option, None, Some, Ok}
use mathlib.Core.Path.{◌≡◌, refl, sym, ap, ◌∙◌}
use mathlib.Core.List.{List, [], ◌∷◌, ◌++◌, map}
use mathlib.Core.Bool.{false}
use Prim.Native.Nat.{ℕ, zero, suc, ◌+◌, ◌≤◌, ◌<◌}
use native.Mathlib.Omega.{arith}
use lib.Dec.{eqb}
use lib.ListN.{length, replicate, get_or, length-map, length-replicate, get_or-replicate, get_or-map}
use Rattle.spec.specs.Text.{bytes, same, look_up, lines, Field}
use Rattle.spec.specs.Reading.{split_sheet, LineResult, good, seen, ensure, Range, ◌to◌, below, numbers, begin, end, or_bad_form, require}
use Rattle.spec.specs.Expression.{Step}
use Rattle.spec.specs.Program.{Program}
use Rattle.spec.specs.Split.{Map, headings, header_ranges, maps_in, maps_of, start_of, header_of, header_line, lock_of, out_range, type_line, type_lines, map_line, no_signature, signature_of, signature_line, Row, no_row, row_of, start_range, post_range, post_field, row_line, Split, split, nth_map}
use Rattle.spec.specs.declared.Signature.{Signature}
use Rattle.spec.specs.declared.Header.{Header}
use Rattle.spec.specs.Kinds.{maps}
use Rattle.spec.specs.Ranges.{AllBelow, InRange}
use Rattle.spec.specs.Accepted.{AtMost}
use Rattle.spec.specs.Accepted as accepted
use Rattle.spec.specs.declared.Heading.{Heading}
use Rattle.spec.specs.declared.Heading.TheVariants.{C, C2, C3}
use Rattle.spec.specs.declared.Purpose.TheVariants.{Check}
use Rattle.spec.specs.declared.MapNumber.{MapNumber}
use Rattle.spec.specs.declared.Word.TheVariants.{Leaf}
use Rattle.spec.specs.declared.LeafWord.TheVariants.{Var}
use Rattle.spec.specs.declared.TypeLine.{TypeLine}
use Rattle.spec.specs.declared.TypeLine.TheVariants.{Int, Ref, Lock, Tid, Sem, Rwlock}
use Rattle.spec.proofs.Outcomes.{goes_on_bind}
use Rattle.spec.proofs.Reading.{read_next, read_all}
use Rattle.text_theory.specs.Text.{decimal, text}
use Rattle.text_theory.specs.Plain.{Plain, PlainLine, last, next}
use Rattle.text_theory.specs.Plain as plain
use Rattle.text_theory.specs.Sheet.{heading_name, header_numbers, header_fields, out_number, type_fields, map_fields, signature_fields, post_shown, start_shown, row_fields, split_lines, sheet_text}
use Rattle.text_theory.specs.Writable.{RootStarts, LockShows, RowStarts, Writable}
use Rattle.text_theory.proofs.Decimal.{decimal_long}
use Rattle.text_theory.proofs.Numerals.{decimal_plain}
use Rattle.text_theory.proofs.Fields.{joined, fields_joined, line_closed}
use Rattle.text_theory.proofs.Numbers.{Within, within_to, within_below, empty, numerals_back, numbers_back, plain_numbers, plain_word}
use Rattle.text_theory.proofs.Shown.{Spells, text_shows, all_shown, each_spelled}

-- ------------------------------------------------------------------ plain lines

header_plain : (H : Header) → PlainLine (header_fields H)
unfolding header_fields heading_name header_numbers bytes
header_plain H = by_heading H.heading
  where
    by_heading : (h : Heading) → PlainLine (heading_name h ∷ map decimal (header_numbers h H))
    by_heading C = plain_word H.denominator (H.locations ∷ H.types ∷ H.maps ∷ []) (plain.more refl refl plain.none)
    by_heading C2 = plain_word H.denominator (H.locations ∷ H.types ∷ H.maps ∷ H.start.0 ∷ []) (plain.more refl refl (plain.more refl refl plain.none))
    by_heading C3 = plain_word H.denominator (H.locations ∷ H.types ∷ H.maps ∷ H.start.0 ∷ []) (plain.more refl refl (plain.more refl refl plain.none))

word_3 : {a b c : ℕ} → eqb a 44 ≡ false → eqb a 10 ≡ false → eqb b 44 ≡ false → eqb b 10 ≡ false → eqb c 44 ≡ false → eqb c 10 ≡ false
    → Plain (a ∷ b ∷ c ∷ [])
word_3 p q r s t u = plain.more p q (plain.more r s (plain.more t u plain.none))

type_plain : (h : Heading) (τ : TypeLine) → PlainLine (type_fields h τ)
unfolding type_fields bytes
type_plain h Int = plain_word 0 (0 ∷ []) (word_3 refl refl refl refl refl refl)
type_plain h (Ref p t) = plain_word p.0 (t.0 ∷ []) (word_3 refl refl refl refl refl refl)
type_plain h (Lock i o) = plain_word i.0 (out_number h o ∷ []) (plain.more refl refl (word_3 refl refl refl refl refl refl))
type_plain h (Tid k) = plain_word k.0 (0 ∷ []) (word_3 refl refl refl refl refl refl)
type_plain h (Sem k) = plain_word k.0 (0 ∷ []) (word_3 refl refl refl refl refl refl)
type_plain h (Rwlock r w) =
    plain_word r.0 (w.0 ∷ []) (plain.more refl refl (plain.more refl refl (plain.more refl refl (word_3 refl refl refl refl refl refl))))

map_plain : (m : Map) → 1 ≤ length m → PlainLine (map_fields m)
unfolding map_fields
map_plain [] h = absurd (omega arith)
map_plain (a ∷ m) h = plain_numbers a m

signature_plain : (g : Signature) → PlainLine (signature_fields g)
unfolding signature_fields
signature_plain g = plain_numbers g.before.0 (g.argument.0 ∷ g.after.0 ∷ g.result.0 ∷ [])

start_plain : (s : Option MapNumber) → Plain (start_shown s)
unfolding start_shown
start_plain None = plain.none
start_plain (Some m) = decimal_plain m.0

row_plain : (r : Row) → PlainLine (row_fields Check r)
unfolding row_fields post_shown
row_plain r = next (decimal_plain r.type.0) (next (decimal_plain r.post.0) (last (start_plain r.start)))

-- ------------------------------------------------------------------ each line reads back

-- the lines of types by their numbers
type_lines_length : (H : Header) (own n : ℕ) → length (type_lines H own n) ≡ n
unfolding type_lines
type_lines_length H own zero = refl
type_lines_length H own (suc n) = ap suc (type_lines_length H (own + 1) n)

type_lines_at : (H : Header) (own n i : ℕ) (d : List Field → LineResult TypeLine) → i < n → get_or (type_lines H own n) i d ≡ type_line H (own + i)
unfolding type_lines
type_lines_at H own zero i d h = absurd (omega arith)
type_lines_at H own (suc n) zero d h = ap (type_line H) (omega arith)
type_lines_at H own (suc n) (suc i) d h = type_lines_at H (own + 1) n i d (omega arith) ∙ ap (type_line H) (omega arith)

zero_in : {rs : List Range} {ns : List ℕ} → Within rs ns → Within ((0 to 0) ∷ rs) (0 ∷ ns)
zero_in w = within_to (omega arith, omega arith) (omega arith) w

-- numbers that are at most the largest, one for each location
map_within : (n : ℕ) {m : Map} → length m ≡ n → AtMost 1000000000 m → Within (replicate n (0 to 1000000000)) m
map_within zero e accepted.none = empty
map_within zero e (accepted.more a small) = absurd (omega (arith, e))
map_within (suc n) e accepted.none = absurd (omega (arith, e))
map_within (suc n) e (accepted.more a small) = within_to (omega arith, a) (omega arith) (map_within n (omega (arith, e)) small)

-- a start that is not empty is a third numeral
third_numeral : (H : Header) (s : Step) (t m f : Field) → 1 ≤ length f
    → row_line Check H s (t ∷ m ∷ f ∷ [])
    ≡ seen (λ ns. row_of (Some (nth_map 2 ns)) ns) (numbers (below H.types ∷ below H.maps ∷ start_range s.word H ∷ []) (t ∷ m ∷ f ∷ []))
unfolding row_line post_range post_field
third_numeral H s t m [] h = absurd (omega arith)
third_numeral H s t m (b ∷ f) h = refl

-- the default of a list of steps
abbrev a_step : Step
a_step = record { word = Leaf Var; value = 0; line = 0 }

module _ {P : Program} {S : Split} (W : Writable P S) where
  abbrev H : Header
  H = S.header

  abbrev R : InRange P S
  R = W.in_range

  a_map : {n : ℕ} → n < length S.maps → n < H.maps
  a_map h = omega (arith, R.maps_counted)

  few_maps_lem : H.maps ≤ 1000000000
  few_maps_lem = omega (arith, R.maps_few)

  header_back : header_line Check (header_fields H) ≡ good H
  unfolding header_line headings look_up or_bad_form header_of start_of maps_in maps_of header_fields heading_name header_numbers same bytes seen header_ranges RootStarts
  header_back = by_heading H.heading refl W.start
    where
      -- the numbers of a header that names its start
      named : Within (header_ranges C2 H.maps) (header_numbers C2 H)
      named =
          within_to R.denominator (omega arith) (within_to R.locations (omega arith)
          (within_to R.types_few (omega arith) (within_to R.maps_few (omega arith)
          (within_below (a_map R.start) (omega (arith, R.maps_few)) empty))))

      headed_by : Heading → Header
      headed_by h = record {
        heading = h;
        denominator = H.denominator;
        locations = H.locations;
        types = H.types;
        maps = H.maps;
        start = H.start;
      }

      by_heading : (h : Heading) → H.heading ≡ h → RootStarts h H.start → header_line Check (heading_name h ∷ map decimal (header_numbers h H)) ≡ good H
      by_heading C e z =
          rw (numbers_back (within_to R.denominator (omega arith) (within_to R.locations (omega arith)
          (within_to R.types_few (omega arith) (within_to R.maps_few (omega arith) empty)))))
          (λ i. good (record {
            heading = sym e i;
            denominator = H.denominator;
            locations = H.locations;
            types = H.types;
            maps = H.maps;
            start = record { 0 = sym z i };
          }))
      by_heading C2 e z = rw (numerals_back named, numbers_back named) (λ i. good (headed_by (sym e i)))
      by_heading C3 e z = rw (numerals_back named, numbers_back named) (λ i. good (headed_by (sym e i)))

  -- the numbers of a lock line, by heading
  lock_back : (h : Heading) (i o : MapNumber) → i.0 < H.maps → o.0 < H.maps → LockShows h i o
      → seen (lock_of h) (numbers (below H.maps ∷ out_range h H.maps ∷ []) (map decimal (i.0 ∷ out_number h o ∷ []))) ≡ good (Lock i o)
  unfolding seen lock_of out_range out_number LockShows
  lock_back C i o first second same =
      rw (numbers_back (within_below first few_maps_lem (zero_in empty))) (λ j. good (Lock i (record { 0 = sym same j })))
  lock_back C2 i o first second same =
      rw (numbers_back (within_below first few_maps_lem (zero_in empty))) (λ j. good (Lock i (record { 0 = sym same j })))
  lock_back C3 i o first second any = rw (numbers_back (within_below first few_maps_lem (within_below second few_maps_lem empty)))

  type_back : (t : ℕ) (τ : TypeLine) → t < length S.types → get_or S.types t Int ≡ τ → AllBelow (length S.maps) (maps τ)
      → type_line H t (type_fields H.heading τ) ≡ good τ
  unfolding type_line type_fields same bytes seen lock_of
  type_back t Int h e l = rw (numbers_back (zero_in (zero_in empty)))
  type_back t (Ref p c) h e l =
      let (place, content) = R.ref_place t p c h e in
      rw (numbers_back (within_below place (omega (arith, R.locations)) (within_below content (omega (arith, R.types_few, R.types_counted)) empty)))
  type_back t (Lock i o) h e l = lock_back H.heading i o (a_map l.0) (a_map l.1.0) (W.lock_shows t i o h e)
  type_back t (Tid k) h e l = rw (numbers_back (within_below (a_map l.0) few_maps_lem (zero_in empty)))
  type_back t (Sem k) h e l = rw (numbers_back (within_below (a_map l.0) few_maps_lem (zero_in empty)))
  type_back t (Rwlock r w) h e l = rw (numbers_back (within_below (a_map l.0) few_maps_lem (within_below (a_map l.1.0) few_maps_lem empty)))

  map_back : (m : Map) → length m ≡ H.locations → AtMost 1000000000 m → map_line H (map_fields m) ≡ good m
  unfolding map_line map_fields
  map_back m wide small = numbers_back (map_within H.locations wide small)

  few_types : H.types ≤ 1000000000
  few_types = omega (arith, R.types_few)

  a_type : {n : ℕ} → n < length S.types → n < H.types
  a_type h = omega (arith, R.types_counted)

  signature_back : (f : ℕ) → f < length S.signatures → let g = get_or S.signatures f no_signature in signature_line H (signature_fields g) ≡ good g
  unfolding signature_line signature_of signature_fields seen
  signature_back f h =
      rw (numbers_back (within_below (a_map (R.before_map f no_signature h)) few_maps_lem (within_below (a_type (R.argument_type f no_signature h)) few_types
      (within_below (a_map (R.after_map f no_signature h)) few_maps_lem (within_below (a_type (R.result_type f no_signature h)) few_types empty)))))

  row_back : (s : Step) (r : Row) → r.type.0 < length S.types → r.post.0 < length S.maps
      → ((m : MapNumber) → r.start ≡ Some m → m.0 < length S.maps) → RowStarts H.heading s.word r.start
      → row_line Check H s (row_fields Check r) ≡ good r
  unfolding row_line row_of start_range post_range post_field seen ensure row_fields post_shown start_shown RowStarts
  row_back s r t p in_maps starts = by_start r.start refl starts
    where
      by_start : (o : Option MapNumber) → r.start ≡ o → RowStarts H.heading s.word o
          → row_line Check H s (decimal r.type.0 ∷ decimal r.post.0 ∷ start_shown o ∷ []) ≡ good r
      by_start None e empty_allowed =
          rw (numbers_back (within_below (a_type t) few_types (within_below (a_map p) few_maps_lem empty)), empty_allowed)
          (λ i. good (record { type = r.type; post = r.post; start = sym e i }))
      by_start (Some m) e spawns =
          third_numeral H s _ _ (decimal m.0) (decimal_long m.0)
          ∙ rw (spawns, numbers_back (within_below (a_type t) few_types (within_below (a_map p) few_maps_lem (within_below (a_map (in_maps m e)) few_maps_lem empty))))
          (λ i. good (record { type = r.type; post = r.post; start = sym e i }))

  -- ---------------------------------------------------------------- all lines of a sort

  types_back : Spells (type_lines H 0 H.types) (map (type_fields H.heading) S.types) S.types
  types_back = each_spelled (type_fields H.heading) (type_lines H 0 H.types) S.types (type_line H 0) Int (R.types_counted ∙ sym (type_lines_length H 0 H.types)) (λ t h.
      let τ = get_or S.types t Int in
      let own : 0 + t ≡ t = omega arith in
      let read = type_lines_at H 0 H.types t (type_line H 0) (omega (arith, R.types_counted)) ∙ ap (type_line H) own in
      (type_plain H.heading τ, ap (λ (f : List Field → LineResult TypeLine). f (type_fields H.heading τ)) read ∙ type_back t τ h refl (R.type_maps t h)))

  maps_back : Spells (replicate H.maps (map_line H)) (map map_fields S.maps) S.maps
  maps_back = each_spelled map_fields (replicate H.maps (map_line H)) S.maps (map_line H) [] (R.maps_counted ∙ sym (length-replicate H.maps (map_line H))) (λ n h.
      let m = get_or S.maps n [] in
      let read = get_or-replicate H.maps n (map_line H) (map_line H) (a_map h) in
      let wide = R.map_wide n h in
      (map_plain m (omega (arith, wide, R.locations)), ap (λ (f : List Field → LineResult Map). f (map_fields m)) read ∙ map_back m wide (W.numbers_small n)))

  signatures_back : Spells (replicate (length P.procedures) (signature_line H)) (map signature_fields S.signatures) S.signatures
  signatures_back = each_spelled signature_fields (replicate (length P.procedures) (signature_line H)) S.signatures (signature_line H) no_signature (R.signatures_counted ∙ sym (length-replicate (length P.procedures) (signature_line H))) (λ f h.
      let g = get_or S.signatures f no_signature in
      let read = get_or-replicate (length P.procedures) f (signature_line H) (signature_line H) (omega (arith, R.signatures_counted)) in
      (signature_plain g, ap (λ (r : List Field → LineResult Signature). r (signature_fields g)) read ∙ signature_back f h))

  rows_back : Spells (map (row_line Check H) P.steps) (map (row_fields Check) S.rows) S.rows
  rows_back = each_spelled (row_fields Check) (map (row_line Check H) P.steps) S.rows (row_line Check H a_step) no_row (R.rows_counted ∙ sym (length-map P.steps (row_line Check H))) (λ i h.
      let row = get_or S.rows i no_row in
      let read = get_or-map (row_line Check H) P.steps i a_step in
      let starts = W.row_starts i a_step no_row (omega (arith, R.rows_counted)) in
      (row_plain row, ap (λ (f : List Field → LineResult Row). f (row_fields Check row)) read ∙ row_back (get_or P.steps i a_step) row (R.row_type i no_row h) (R.row_post i no_row h) (λ m. R.row_start i no_row m h) starts))

  -- ---------------------------------------------------------------- the sheet

  pub written_reads_back : split Check P (sheet_text S) ≡ Ok S
  unfolding split begin end require sheet_text split_lines text lines
  written_reads_back =
      let rowed = map (row_fields Check) S.rows in
      let signed = map signature_fields S.signatures ++ rowed in
      let mapped = map map_fields S.maps ++ signed in
      let typed = map (type_fields H.heading) S.types ++ mapped in
      let (l₁, types) = read_all split_sheet (text_shows mapped types_back) 1 in
      let (l₂, maps) = read_all split_sheet (text_shows signed maps_back) l₁ in
      let (l₃, signatures) = read_all split_sheet (text_shows rowed signatures_back) l₂ in
      let (l₄, rows) = read_all split_sheet (all_shown rows_back) l₃ in
      goes_on_bind _ _ (ap (begin split_sheet) (line_closed (text typed) (header_plain H)))
      (goes_on_bind _ _ (read_next split_sheet (header_line Check) 0 (joined (header_fields H)) (lines (text typed)) (ap (header_line Check) (fields_joined (header_plain H)) ∙ header_back))
      (goes_on_bind _ _ types
      (goes_on_bind _ _ maps
      (goes_on_bind _ _ signatures
      (goes_on_bind _ _ rows
      (goes_on_bind _ _ refl refl))))))
