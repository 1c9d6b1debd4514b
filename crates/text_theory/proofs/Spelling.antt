-- A sheet has one spelling: the text that was read, for whatever purpose, is what is written of the split, the same byte for byte.
-- Line by line: the numerals of a line are the digits of its numbers.
use Rattle.std.proofs.Common.{Some}
use mathlib.Core.Path.{◌≡◌, refl, sym, ap, ◌∙◌}
use mathlib.Core.Path.{subst as along}
use mathlib.Core.List.{List, [], ◌∷◌, ◌++◌, map, append-nil}
use mathlib.Core.Bool.{Bool, true, false}
use Prim.Native.Nat.{ℕ, zero, suc, ◌+◌}
use native.Mathlib.Omega.{arith}
use lib.ListN.{length, get_or, replicate, drop, drop_of_length-le}
use lib.Seq.{drop-cons}
use borrow.Author.Tests.{ltb-true}
use Rattle.spec.specs.Choice.{when◌then◌else◌}
use Rattle.spec.specs.Text.{Line, bytes, same, Field, fields, look_up}
use Rattle.spec.specs.Reading.{LineResult, good, seen, Range, ◌to◌, below, in_range, numerals, numbers}
use Rattle.spec.specs.Expression.{Step}
use Rattle.spec.specs.Program.{Program}
use Rattle.spec.specs.Split.{Map, headings, header_ranges, maps_of, maps_in, start_of, header_of, header_line, lock_of, out_range, type_line, type_lines, map_line, signature_of, signature_line, Row, row_of, start_range, empty_fault, post_range, post_field, row_line, Split}
use Rattle.spec.specs.declared.Signature.{Signature}
use Rattle.spec.specs.declared.Header.{Header}
use Rattle.spec.specs.WellFormed.{Parses, WellFormedSplit}
use Rattle.spec.specs.WellFormed as well_formed_lem
use Rattle.spec.specs.declared.Heading.{Heading}
use Rattle.spec.specs.declared.Heading.TheVariants.{C, C2, C3}
use Rattle.spec.specs.declared.Purpose.{Purpose}
use Rattle.spec.specs.declared.Purpose.TheVariants.{Check, Fill}
use Rattle.spec.specs.declared.TypeLine.{TypeLine}
use Rattle.spec.proofs.Clashes.{none_is_not_some}
use Rattle.spec.proofs.Tests.{same_equal}
use Rattle.spec.proofs.Seen.{wrong_is_not_right, seen_right, numbers_right, in_to, in_range_at, insist_right, formed_right}
use Rattle.text_theory.specs.Text.{decimal, line, text}
use Rattle.text_theory.specs.Sheet.{heading_name, header_numbers, header_fields, out_number, type_fields, map_fields, signature_fields, post_shown, start_shown, row_fields, split_lines, sheet_text, unfilled}
use Rattle.text_theory.proofs.Fields.{joined}
use Rattle.text_theory.proofs.Lines.{text_append}
use Rattle.text_theory.proofs.Canonical.{numbers_canonical, joined_fields, unlined, unlined_lines, line_joined, OneSpelling, empty, entry, shown_spelling}

-- ------------------------------------------------------------------ lists of known length

-- n entries of a list, from entry i on
unfoldable entries : List ℕ → (i n : ℕ) → List ℕ
entries ns i zero = []
entries ns i (suc n) = get_or ns i 0 ∷ entries ns (suc i) n

entries_behind : (ns : List ℕ) (i n : ℕ) → length ns ≡ i + n → drop i ns ≡ entries ns i n
unfolding entries
entries_behind ns i zero l = drop_of_length-le ns {i = i} (omega (arith, l))
entries_behind ns i (suc n) l = drop-cons ns i 0 (omega (arith, l)) ∙ ap (λ (r : List ℕ). get_or ns i 0 ∷ r) (entries_behind ns (suc i) n (omega (arith, l)))

-- the numbers of a line, as many as its ranges
line_numbers_lem : (rs : List Range) (fs : List Field) (ns : List ℕ) → numbers rs fs ≡ good ns → fs ≡ map decimal (entries ns 0 (length rs))
line_numbers_lem rs fs ns h = numbers_canonical rs fs ns h ∙ ap (map decimal) (entries_behind ns 0 (length rs) ((numbers_right rs fs ns h).0 ∙ omega arith))

-- ------------------------------------------------------------------ words

pub choice_right : {A : Type 0} (Q : A → Type 0) (b : Bool) (x y : LineResult A) → (b ≡ true → (a : A) → x ≡ good a → Q a) → ((a : A) → y ≡ good a → Q a)
    → (a : A) → (when b then x else y) ≡ good a → Q a
choice_right Q true x y f g a h = f refl a h
choice_right Q false x y f g a h = g a h

-- ------------------------------------------------------------------ the header

-- in a table of headings by their names, what is found for a field is the heading with that name
Named : List (List ℕ × Heading) → Type 0
Named [] = Unit {0}
Named (w ∷ ws) = (w.0 ≡ heading_name w.1) × Named ws

named_found : (ws : List (List ℕ × Heading)) (f : Field) (h : Heading) → Named ws → look_up ws f ≡ Some h → f ≡ heading_name h
unfolding Named look_up
named_found [] f h names e = none_is_not_some e
named_found (w ∷ ws) f h names e = by_test (same w.0 f) refl e (named_found ws f h names.1)
  where
    by_test : (b : Bool) → same w.0 f ≡ b → (when b then Some w.1 else look_up ws f) ≡ Some h → (look_up ws f ≡ Some h → f ≡ heading_name h)
        → f ≡ heading_name h
    by_test true t e others = let it : w.1 ≡ h = cc in sym (same_equal w.0 f t) ∙ names.0 ∙ ap heading_name it
    by_test false t e others = others e

headings_named : (purpose : Purpose) → Named (headings purpose)
unfolding Named headings heading_name
headings_named Check = (refl, (refl, (refl, tt)))
headings_named Fill = (refl, (refl, tt))

numbers_spelling : (h : Heading) (H : Header) (fs : List Field) → seen (header_of h) (numbers (header_ranges h (maps_in (numerals fs))) fs) ≡ good H
    → heading_name h ∷ fs ≡ header_fields H
unfolding header_ranges header_of start_of maps_of header_fields header_numbers entries
numbers_spelling C H fs e =
    let (ns, n, g) = seen_right _ e in
    along (λ G. heading_name C ∷ fs ≡ header_fields G) g (ap (λ (r : List Field). heading_name C ∷ r) (line_numbers_lem (header_ranges C (maps_in (numerals fs))) fs ns n))
numbers_spelling C2 H fs e =
    let (ns, n, g) = seen_right _ e in
    along (λ G. heading_name C2 ∷ fs ≡ header_fields G) g (ap (λ (r : List Field). heading_name C2 ∷ r) (line_numbers_lem (header_ranges C2 (maps_in (numerals fs))) fs ns n))
numbers_spelling C3 H fs e =
    let (ns, n, g) = seen_right _ e in
    along (λ G. heading_name C3 ∷ fs ≡ header_fields G) g (ap (λ (r : List Field). heading_name C3 ∷ r) (line_numbers_lem (header_ranges C3 (maps_in (numerals fs))) fs ns n))

header_spelling : (purpose : Purpose) (H : Header) (fs : List Field) → header_line purpose fs ≡ good H → fs ≡ header_fields H
unfolding header_line
header_spelling purpose H [] h = wrong_is_not_right h
header_spelling purpose H (f ∷ fs) h =
    let (heading, is, shown) = formed_right (look_up (headings purpose) f) _ h in
    ap (λ (n : Field). n ∷ fs) (named_found (headings purpose) f heading (headings_named purpose) is) ∙ numbers_spelling heading H fs shown

-- ------------------------------------------------------------------ type lines

module _ (H : Header) (own : ℕ) (f : Field) (fs : List Field) where
  -- a word and its numbers, if they are what is written for the type that they make
  word_spelling : (word : Field) (rs : List Range) (made : List ℕ → TypeLine)
      → ((ns : List ℕ) → numbers rs fs ≡ good ns → type_fields H.heading (made ns) ≡ word ∷ map decimal (entries ns 0 (length rs)))
      → same f word ≡ true → (τ : TypeLine) → seen made (numbers rs fs) ≡ good τ → f ∷ fs ≡ type_fields H.heading τ
  word_spelling word rs made shown t τ g =
      let (ns, n, e) = seen_right _ g in
      ap (λ (w : Field). w ∷ fs) (same_equal f word t)
      ∙ ap (λ (r : List Field). word ∷ r) (line_numbers_lem rs fs ns n)
      ∙ sym (shown ns n)
      ∙ ap (type_fields H.heading) e

  -- a map, then 0
  load_shown : (word : Field) (ns : List ℕ) → numbers (below H.maps ∷ (0 to 0) ∷ []) fs ≡ good ns
      → word ∷ map decimal (get_or ns 0 0 ∷ 0 ∷ []) ≡ word ∷ map decimal (entries ns 0 2)
  unfolding entries
  load_shown word ns n =
      let zero_range = in_to 0 0 (get_or ns 1 0) (in_range_at (below H.maps ∷ (0 to 0) ∷ []) fs ns n 1 (omega arith)) in
      ap (λ (b : ℕ). word ∷ map decimal (get_or ns 0 0 ∷ b ∷ [])) (omega (arith, zero_range))

  -- a lock line, by heading
  lock_shown : (h : Heading) (ns : List ℕ) → numbers (below H.maps ∷ out_range h H.maps ∷ []) fs ≡ good ns
      → type_fields h (lock_of h ns) ≡ bytes "lock" ∷ map decimal (entries ns 0 2)
  unfolding out_range type_fields lock_of out_number entries
  lock_shown C ns n = load_shown (bytes "lock") ns n
  lock_shown C2 ns n = load_shown (bytes "lock") ns n
  lock_shown C3 ns n = refl

  int_shown : (ns : List ℕ) → numbers ((0 to 0) ∷ (0 to 0) ∷ []) fs ≡ good ns
      → bytes "int" ∷ map decimal (0 ∷ 0 ∷ []) ≡ bytes "int" ∷ map decimal (entries ns 0 2)
  unfolding entries
  int_shown ns n =
      let at = in_range_at ((0 to 0) ∷ (0 to 0) ∷ []) fs ns n in
      let first = in_to 0 0 (get_or ns 0 0) (at 0 (omega arith)) in
      let second = in_to 0 0 (get_or ns 1 0) (at 1 (omega arith)) in
      ap (λ (a : ℕ). bytes "int" ∷ map decimal (a ∷ 0 ∷ [])) (omega (arith, first))
      ∙ ap (λ (b : ℕ). bytes "int" ∷ map decimal (get_or ns 0 0 ∷ b ∷ [])) (omega (arith, second))

type_spelling : (H : Header) (own : ℕ) (τ : TypeLine) (fs : List Field) → type_line H own fs ≡ good τ → fs ≡ type_fields H.heading τ
unfolding type_line type_fields lock_of entries
type_spelling H own τ [] h = wrong_is_not_right h
type_spelling H own τ (f ∷ fs) h =
    let Q : TypeLine → Type 0 = λ σ. f ∷ fs ≡ type_fields H.heading σ in
    let spelled = word_spelling H own f fs in
    choice_right Q (same f (bytes "int")) _ _ (spelled (bytes "int") _ _ (int_shown H own f fs))
    (choice_right Q (same f (bytes "ref")) _ _ (spelled (bytes "ref") _ _ (λ ns n. refl))
    (choice_right Q (same f (bytes "lock")) _ _ (spelled (bytes "lock") _ _ (lock_shown H own f fs H.heading))
    (choice_right Q (same f (bytes "tid")) _ _ (spelled (bytes "tid") _ _ (load_shown H own f fs (bytes "tid")))
    (choice_right Q (same f (bytes "sem")) _ _ (spelled (bytes "sem") _ _ (load_shown H own f fs (bytes "sem")))
    (choice_right Q (same f (bytes "rwlock")) _ _ (spelled (bytes "rwlock") _ _ (λ ns n. refl))
    (λ σ g. wrong_is_not_right g)))))) τ h

types_spelling : (H : Header) (own n : ℕ) {ls rest : List Line} {τs : List TypeLine} → Parses (type_lines H own n) ls τs rest
    → OneSpelling (type_lines H own n) τs (map (type_fields H.heading) τs)
unfolding type_lines
types_spelling H own zero well_formed_lem.nothing = empty
types_spelling H own (suc n) (well_formed_lem.line {a = a} h s) = entry (type_spelling H own a) (types_spelling H (own + 1) n s)

-- ------------------------------------------------------------------ map lines

maps_spelling : (H : Header) (n : ℕ) {ls rest : List Line} {ms : List Map} → Parses (replicate n (map_line H)) ls ms rest
    → OneSpelling (replicate n (map_line H)) ms (map map_fields ms)
unfolding map_line map_fields
maps_spelling H zero well_formed_lem.nothing = empty
maps_spelling H (suc n) (well_formed_lem.line {a = a} h s) = entry (λ fs g. numbers_canonical _ fs a g) (maps_spelling H n s)

-- ------------------------------------------------------------------ procedures

signature_spelling : (H : Header) (g : Signature) (fs : List Field) → signature_line H fs ≡ good g → fs ≡ signature_fields g
unfolding signature_line signature_of signature_fields entries
signature_spelling H g fs h =
    let (ns, n, e) = seen_right _ h in
    along (λ q. fs ≡ signature_fields q) e (line_numbers_lem _ fs ns n)

signatures_spelling : (H : Header) (n : ℕ) {ls rest : List Line} {gs : List Signature} → Parses (replicate n (signature_line H)) ls gs rest
    → OneSpelling (replicate n (signature_line H)) gs (map signature_fields gs)
signatures_spelling H zero well_formed_lem.nothing = empty
signatures_spelling H (suc n) (well_formed_lem.line {a = a} h s) = entry (signature_spelling H a) (signatures_spelling H n s)

-- ------------------------------------------------------------------ rows

module _ (purpose : Purpose) (H : Header) where
  post_spelling : (m : Field) (n : ℕ) → post_field purpose m ≡ decimal n → in_range (post_range purpose H m) n ≡ true
      → m ≡ post_shown purpose (record { 0 = n })
  unfolding post_field post_range post_shown in_range
  post_spelling m n e h = by_purpose purpose m e h
    where
      by_purpose : (p : Purpose) (m : Field) → post_field p m ≡ decimal n → in_range (post_range p H m) n ≡ true → m ≡ post_shown p (record { 0 = n })
      by_purpose Check m e h = e
      by_purpose Fill [] e h = refl
      by_purpose Fill (b ∷ m) e h = let none_below = ltb-true n 0 h in absurd (omega arith)

  row_spelling : (s : Step) (r : Row) (fs : List Field) → row_line purpose H s fs ≡ good r → fs ≡ row_fields purpose r
  unfolding row_line row_of row_fields start_shown entries
  row_spelling s r [] h = wrong_is_not_right h
  row_spelling s r (t ∷ []) h = wrong_is_not_right h
  row_spelling s r (t ∷ m ∷ []) h = wrong_is_not_right h
  row_spelling s r (t ∷ m ∷ [] ∷ []) h =
      let (ns, n, e) = seen_right _ (insist_right _ (empty_fault s.word) _ h).1 in
      let rs = below H.types ∷ post_range purpose H m ∷ [] in
      let here = line_numbers_lem rs (t ∷ post_field purpose m ∷ []) ns n in
      let typed : t ≡ decimal (get_or ns 0 0) = ap (λ (l : List Field). get_or l 0 []) here in
      let post = post_spelling m (get_or ns 1 0) (ap (λ (l : List Field). get_or l 1 []) here) (in_range_at rs (t ∷ post_field purpose m ∷ []) ns n 1 (omega arith)) in
      along (λ q. t ∷ m ∷ [] ∷ [] ≡ row_fields purpose q) e (λ i. typed i ∷ post i ∷ [] ∷ [])
  row_spelling s r (t ∷ m ∷ (b ∷ f) ∷ []) h =
      let (ns, n, e) = seen_right _ h in
      let rs = below H.types ∷ post_range purpose H m ∷ start_range s.word H ∷ [] in
      let here = line_numbers_lem rs (t ∷ post_field purpose m ∷ (b ∷ f) ∷ []) ns n in
      let typed : t ≡ decimal (get_or ns 0 0) = ap (λ (l : List Field). get_or l 0 []) here in
      let post = post_spelling m (get_or ns 1 0) (ap (λ (l : List Field). get_or l 1 []) here) (in_range_at rs (t ∷ post_field purpose m ∷ (b ∷ f) ∷ []) ns n 1 (omega arith)) in
      let start : b ∷ f ≡ decimal (get_or ns 2 0) = ap (λ (l : List Field). get_or l 2 []) here in
      along (λ q. t ∷ m ∷ (b ∷ f) ∷ [] ≡ row_fields purpose q) e (λ i. typed i ∷ post i ∷ start i ∷ [])
  row_spelling s r (t ∷ m ∷ f ∷ g ∷ fs) h = wrong_is_not_right h

  rows_spelling : (steps : List Step) {ls rest : List Line} {rs : List Row} → Parses (map (row_line purpose H) steps) ls rs rest
      → OneSpelling (map (row_line purpose H) steps) rs (map (row_fields purpose) rs)
  rows_spelling [] well_formed_lem.nothing = empty
  rows_spelling (s ∷ steps) (well_formed_lem.line {a = a} h more) = entry (row_spelling s a) (rows_spelling steps more)

-- ------------------------------------------------------------------ the sheet

-- what was read is what is written, for its purpose
pub sheet_spelling : {purpose : Purpose} {P : Program} {sheet : List ℕ} {S : Split} → WellFormedSplit purpose P sheet S
    → text (split_lines purpose S) ≡ sheet
unfolding text split_lines unlined
sheet_spelling {purpose} {P} {sheet} {S} F =
    let H = S.header in
    let T = map (type_fields H.heading) S.types in
    let M = map map_fields S.maps in
    let G = map signature_fields S.signatures in
    let R = map (row_fields purpose) S.rows in
    let first : F.first ≡ joined (header_fields H) = sym (joined_fields F.first) ∙ ap joined (header_spelling purpose H (fields F.first) F.headed) in
    let types = shown_spelling F.typed (types_spelling H 0 H.types F.typed) in
    let maps = shown_spelling F.mapped (maps_spelling H H.maps F.mapped) in
    let signatures = shown_spelling F.signed (signatures_spelling H (length P.procedures) F.signed) in
    let rows = shown_spelling F.rowed (rows_spelling purpose H P.steps F.rowed) in
    sym (sym (unlined_lines sheet)
    ∙ ap unlined F.lined
    ∙ ap (λ (x : List ℕ). x ++ (10 ∷ unlined F.others)) first
    ∙ ap (λ (x : List ℕ). joined (header_fields H) ++ (10 ∷ x))
    (types ∙ ap (λ (x : List ℕ). text T ++ x)
    (maps ∙ ap (λ (x : List ℕ). text M ++ x)
    (signatures ∙ ap (λ (x : List ℕ). text G ++ x) (rows ∙ append-nil (text R)))))
    ∙ sym (line_joined (header_fields H) (text T ++ (text M ++ (text G ++ text R))))
    ∙ ap (line (header_fields H)) (sym (text_append T (M ++ (G ++ R))
    ∙ ap (λ (x : List ℕ). text T ++ x) (text_append M (G ++ R) ∙ ap (λ (x : List ℕ). text M ++ x) (text_append G R)))))

-- of a sheet that was read to check
pub written_as_read : {P : Program} {sheet : List ℕ} {S : Split} → WellFormedSplit Check P sheet S → sheet_text S ≡ sheet
unfolding sheet_text
written_as_read F = sheet_spelling F

-- of a sheet that was read to fill: header, types, given maps, procedures, t and s of each row are as they stood
pub read_as_written : {P : Program} {sheet : List ℕ} {S : Split} → WellFormedSplit Fill P sheet S → unfilled S ≡ sheet
unfolding unfilled
read_as_written F = sheet_spelling F
