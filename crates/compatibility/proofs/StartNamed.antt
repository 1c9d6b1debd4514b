-- A `C` sheet and the `C2` sheet that names map 0 for the start get the same answer, unless the `C` sheet is turned away by 40: where
-- it leaves out the start of a spawn, the `C2` sheet means something else.
use Rattle.std.proofs.Common.{Option, None, Some, Result, Ok, Err}
use mathlib.Core.Path.{◌≡◌, refl, sym, ap, ◌∙◌}
use mathlib.Core.Path.{subst as along}
use mathlib.Core.List.{List, [], ◌∷◌, ◌++◌, map}
use mathlib.Core.Bool.{Bool, true, false}
use Prim.Native.Nat.{ℕ, zero, suc, ◌≤◌, ◌+◌}
use native.Mathlib.Omega.{arith}
use lib.Dec.{leb}
use lib.ListN.{length, replicate, length-append}
use borrow.Author.Tests.{le-leb, ne_eqb}
use Rattle.spec.specs.declared.Refusal.{Refusal}
use Rattle.spec.specs.Choice.{when◌then◌else◌}
use Rattle.spec.specs.Text.{bytes, same, Line, closed, unclosed, lines, Field, on_field, fields, look_up}
use Rattle.spec.specs.Reading.{split_sheet, ◌>>=◌, require, no_start, LineResult, good, bad, bad_range, seen, ensure, all_in_range, numerals, numbers, faulty, passed, next_line, read_line, read_lines, begin, end, Place, or_bad_form}
use Rattle.spec.specs.Expression.{Step}
use Rattle.spec.specs.Words.{keeps_back}
use Rattle.spec.specs.Program.{Program, program_limit, program}
use Rattle.spec.specs.Split.{Map, headings, header_ranges, maps_of, maps_in, start_of, header_of, header_line, lock_of, out_range, type_line, type_lines, map_line, signature_line, Row, start_range, may_be_empty, empty_fault, post_range, row_line, Split, split_limit, split}
use Rattle.spec.specs.declared.Signature.{Signature}
use Rattle.spec.specs.declared.Header.{Header}
use Rattle.spec.specs.Workspace.{workspace_size}
use Rattle.spec.specs.Verdict.{checked, answer, verdict}
use Rattle.spec.specs.declared.Heading.TheVariants.{C, C2}
use Rattle.spec.specs.declared.TypeLine.{TypeLine}
use Rattle.spec.specs.declared.Refusal.TheVariants.{ShortWorkspace, LongProgram, LongSplit, NoStart}
use Rattle.spec.specs.declared.Answer.TheVariants.{Refuse}
use Rattle.compatibility.specs.Texts.{OneLine, ◌above◌}
use Rattle.compatibility.specs.StartNamed.{header_unnamed, header_named, MapZeroStays}
use Rattle.compatibility.proofs.Texts.{above_lines, fields_append}
use Rattle.spec.proofs.Sheets.{sheets_then}
use Rattle.compatibility.proofs.NoHeading.{headed_as, under, ruling, same_ruling}
use Rattle.spec.proofs.Seen.{seen_right, first_map_fits, ranged}
use Rattle.spec.proofs.Starts.{never_empty}
use Rattle.compatibility.proofs.ZeroField.{with_zero, numerals_zero, one_line_append, not_ten}
use Rattle.spec.specs.declared.Purpose.TheVariants.{Check}

-- ------------------------------------------------------------------ the numbers of the header

-- four numerals are judged as those four and a 0; more or fewer are of the wrong form on both sheets
judged : (o : Option (List ℕ))
    → seen (header_of C2) (ranged (header_ranges C2 (maps_in (with_zero o))) (with_zero o)) ≡ seen (headed_as C2) (seen (header_of C) (ranged (header_ranges C (maps_in o)) o))
unfolding with_zero maps_in or_bad_form seen header_ranges maps_of header_of start_of headed_as
judged None = refl
judged (Some []) = refl
judged (Some (d ∷ [])) = refl
judged (Some (d ∷ l ∷ [])) = refl
judged (Some (d ∷ l ∷ t ∷ [])) = refl
judged (Some (d ∷ l ∷ t ∷ m ∷ [])) =
    ap (λ (x : Bool). seen (header_of C2) (when x then good (d ∷ l ∷ t ∷ m ∷ 0 ∷ []) else bad bad_range)) (sym (first_map_fits d l t m))
    ∙ go (all_in_range (header_ranges C m) (d ∷ l ∷ t ∷ m ∷ []))
  where
    go : (x : Bool) → seen (header_of C2) (when x then good (d ∷ l ∷ t ∷ m ∷ 0 ∷ []) else bad bad_range)
        ≡ seen (headed_as C2) (seen (header_of C) (when x then good (d ∷ l ∷ t ∷ m ∷ []) else bad bad_range))
    go true = refl
    go false = refl
judged (Some (d ∷ l ∷ t ∷ m ∷ r ∷ ns)) =
    rw (
      ne_eqb (length (d ∷ l ∷ t ∷ m ∷ r ∷ ns)) 4 (λ e. omega (arith, e)),
      ne_eqb (length (d ∷ l ∷ t ∷ m ∷ r ∷ ns ++ 0 ∷ [])) 5 (λ e. omega (arith, e, length-append ns (0 ∷ []))),
    )

header_named_lem : (fs : List Field) → header_line Check (bytes "C2" ∷ fs ++ (48 ∷ []) ∷ []) ≡ seen (headed_as C2) (header_line Check (bytes "C" ∷ fs))
unfolding header_line headings look_up same bytes or_bad_form numbers
header_named_lem fs =
    ap (λ (o : Option (List ℕ)). seen (header_of C2) (ranged (header_ranges C2 (maps_in o)) o)) (numerals_zero fs) ∙ judged (numerals fs)

-- such a header is headed `C`
header_plain : (fs : List Field) (H : Header) → header_line Check (bytes "C" ∷ fs) ≡ good H → H.heading ≡ C
unfolding header_line headings look_up same bytes or_bad_form header_of
header_plain fs H h = let (ns, _, e) = seen_right _ h in sym (ap (λ (x : Header). x.heading) e)

-- ------------------------------------------------------------------ line 1

module _ (a : List ℕ) where
  line_plain : (H : Header) → header_line Check (fields (header_unnamed a)) ≡ good H → H.heading ≡ C
  unfolding bytes fields on_field
  line_plain H h = header_plain (fields a) H h

  line_named : header_line Check (fields (header_named a)) ≡ seen (headed_as C2) (header_line Check (fields (header_unnamed a)))
  unfolding bytes fields on_field
  line_named = ap (λ (fs : List Field). header_line Check (bytes "C2" ∷ fs)) (fields_append a (48 ∷ [])) ∙ header_named_lem (fields a)

-- ------------------------------------------------------------------ the lines behind it

module _ (H : Header) (plain : H.heading ≡ C) where
  same_type : (own : ℕ) (fs : List Field) → type_line (headed_as C2 H) own fs ≡ type_line H own fs
  unfolding type_line headed_as lock_of out_range
  same_type own [] = refl
  same_type own (f ∷ fs) = rw plain

  same_types : (own n : ℕ) → type_lines (headed_as C2 H) own n ≡ type_lines H own n
  unfolding type_lines
  same_types own zero = refl
  same_types own (suc n) = λ i. (λ fs. same_type own fs i) ∷ same_types (own + 1) n i

module _ (H : Header) where
  -- of a row that leaves out the start of a spawn
  data Alike (x y : LineResult Row) : Type 0 where
    same_row : x ≡ y → Alike x y
    turned_away : y ≡ bad no_start → Alike x y

  empty_alike : (b : Bool) (x : LineResult Row) → Alike (ensure true no_start x) (ensure b no_start x)
  unfolding ensure
  empty_alike b (bad v) = same_row refl
  empty_alike true (good a) = same_row refl
  empty_alike false (good a) = turned_away refl

  -- the s of a call is empty under no heading
  left_alike : (s : Step) (x : LineResult Row)
      → Alike (ensure (may_be_empty C2 s.word) (empty_fault s.word) x) (ensure (may_be_empty H.heading s.word) (empty_fault s.word) x)
  unfolding may_be_empty empty_fault
  left_alike s x = by_word (keeps_back s.word) refl
    where
      by_word : (b : Bool) → keeps_back s.word ≡ b
          → Alike (ensure (may_be_empty C2 s.word) (empty_fault s.word) x) (ensure (may_be_empty H.heading s.word) (empty_fault s.word) x)
      by_word true e = same_row (rw (never_empty H.heading s.word e, e))
      by_word false e = rw e (empty_alike (may_be_empty H.heading s.word) x)

  row_alike : (s : Step) (fs : List Field) → Alike (row_line Check (headed_as C2 H) s fs) (row_line Check H s fs)
  unfolding row_line post_range start_range headed_as
  row_alike s [] = same_row refl
  row_alike s (t ∷ []) = same_row refl
  row_alike s (t ∷ m ∷ []) = same_row refl
  row_alike s (t ∷ m ∷ [] ∷ []) = left_alike s _
  row_alike s (t ∷ m ∷ (b ∷ f) ∷ []) = same_row refl
  row_alike s (t ∷ m ∷ f ∷ g ∷ fs) = same_row refl

-- an outcome that is not stopped by 40
Started : {A : Type 0} → Result A Refusal → Type 0
Started o = (k : ℕ) → o ≡ Err (NoStart k) → ⊥

-- two outcomes that go on alike from whatever was found, but for 40
same_on : {A B E : Type 0} (o : Result A Refusal) (f g : A → Result B Refusal) (j k : B → Result E Refusal) → ((a : A) → Started (g a >>= k) → (f a >>= j) ≡ (g a >>= k))
    → Started (o >>= g >>= k) → (o >>= f >>= j) ≡ (o >>= g >>= k)
unfolding ◌>>=◌
same_on (Err r) f g j k h started = refl
same_on (Ok a) f g j k h started = h a started

same_then : {A B : Type 0} (o : Result A Refusal) (f g : A → Result B Refusal) → ((a : A) → Started (g a) → f a ≡ g a) → Started (o >>= g) → (o >>= f) ≡ (o >>= g)
unfolding ◌>>=◌
same_then (Err r) f g h started = refl
same_then (Ok a) f g h started = h a started

first_started : {A B : Type 0} (o : Result A Refusal) (f : A → Result B Refusal) → Started (o >>= f) → Started o
unfolding ◌>>=◌ Started
first_started o f started k e = started k (rw e)

-- ------------------------------------------------------------------ the rows

module _ (H : Header) where
  away : {x : LineResult Row} (k : ℕ) (ls : List Line) → x ≡ bad no_start → passed split_sheet k ls x ≡ Err (NoStart k)
  unfolding passed faulty
  away k ls e = rw e

  line_alike : (s : Step) (k : ℕ) (ls : List Line) → Started (next_line split_sheet (row_line Check H s) k ls)
      → next_line split_sheet (row_line Check (headed_as C2 H) s) k ls ≡ next_line split_sheet (row_line Check H s) k ls
  unfolding next_line Started
  line_alike s k [] started = refl
  line_alike s k (unclosed l ∷ ls) started = refl
  line_alike s k (closed l ∷ ls) started = by_cases (row_alike H s (fields l))
    where
      by_cases : Alike H (row_line Check (headed_as C2 H) s (fields l)) (row_line Check H s (fields l))
          → passed split_sheet (k + 1) ls (row_line Check (headed_as C2 H) s (fields l)) ≡ passed split_sheet (k + 1) ls (row_line Check H s (fields l))
      by_cases (same_row e) = ap (passed split_sheet (k + 1) ls) e
      by_cases (turned_away e) = absurd (started (k + 1) (away (k + 1) ls e))

  rows_alike : (steps : List Step) (p : Place) → Started (read_lines split_sheet (map (row_line Check H) steps) p)
      → read_lines split_sheet (map (row_line Check (headed_as C2 H)) steps) p ≡ read_lines split_sheet (map (row_line Check H) steps) p
  unfolding read_lines read_line
  rows_alike [] p started = refl
  rows_alike (s ∷ steps) p started =
      rw (line_alike s p.last p.rest (first_started _ _ started))
      (same_then (next_line split_sheet (row_line Check H s) p.last p.rest) _ _
      (λ (a, after) rest_started. rw (rows_alike steps after (first_started _ _ rest_started))) started)

-- ------------------------------------------------------------------ the sheet, from the header on

-- from the header on, stage by stage
module _ (P : Program) (H : Header) where
  unfoldable after_rows : List TypeLine → List Map → List Signature → List Row × Place → Result Split Refusal
  after_rows types maps signatures (rows, p) = do
    done ← end split_sheet p
    Ok (record { header = H; types = types; maps = maps; signatures = signatures; rows = rows })

  unfoldable after_signatures : List TypeLine → List Map → List Signature × Place → Result Split Refusal
  after_signatures types maps (signatures, p) = read_lines split_sheet (map (row_line Check H) P.steps) p >>= after_rows types maps signatures

  unfoldable after_maps : List TypeLine → List Map × Place → Result Split Refusal
  after_maps types (maps, p) = read_lines split_sheet (replicate (length P.procedures) (signature_line H)) p >>= after_signatures types maps

  unfoldable after_types : List TypeLine × Place → Result Split Refusal
  after_types (types, p) = read_lines split_sheet (replicate H.maps (map_line H)) p >>= after_maps types

  unfoldable after_header : Place → Result Split Refusal
  after_header p = read_lines split_sheet (type_lines H 0 H.types) p >>= after_types

module _ (P : Program) (H : Header) (plain : H.heading ≡ C) where
  rows_same : (types : List TypeLine) (maps : List Map) (signatures : List Signature) (x : List Row × Place)
      → Started (after_rows P H types maps signatures x >>= ruling P)
      → (after_rows P (headed_as C2 H) types maps signatures x >>= ruling P) ≡ (after_rows P H types maps signatures x >>= ruling P)
  unfolding after_rows under ◌>>=◌
  rows_same types maps signatures (rows, p) =
      same_on (end split_sheet p) _ _ (ruling P) (ruling P)
      (λ done started. same_ruling C2 (record { header = H; types = types; maps = maps; signatures = signatures; rows = rows }) P)

  signatures_same : (types : List TypeLine) (maps : List Map) (x : List Signature × Place)
      → Started (after_signatures P H types maps x >>= ruling P)
      → (after_signatures P (headed_as C2 H) types maps x >>= ruling P) ≡ (after_signatures P H types maps x >>= ruling P)
  unfolding after_signatures
  signatures_same types maps (signatures, p) started =
      ap (λ (o : Result (List Row × Place) Refusal). o >>= after_rows P (headed_as C2 H) types maps signatures >>= ruling P)
      (rows_alike H P.steps p (first_started _ _ (first_started _ (ruling P) started)))
      ∙ same_on (read_lines split_sheet (map (row_line Check H) P.steps) p) _ _ (ruling P) (ruling P) (rows_same types maps signatures) started

  maps_same : (types : List TypeLine) (x : List Map × Place)
      → Started (after_maps P H types x >>= ruling P)
      → (after_maps P (headed_as C2 H) types x >>= ruling P) ≡ (after_maps P H types x >>= ruling P)
  unfolding after_maps signature_line headed_as
  maps_same types (maps, p) =
      same_on (read_lines split_sheet (replicate (length P.procedures) (signature_line H)) p) _ _ (ruling P) (ruling P) (signatures_same types maps)

  types_same : (x : List TypeLine × Place) → Started (after_types P H x >>= ruling P)
      → (after_types P (headed_as C2 H) x >>= ruling P) ≡ (after_types P H x >>= ruling P)
  unfolding after_types map_line headed_as
  types_same (types, p) =
      same_on (read_lines split_sheet (replicate H.maps (map_line H)) p) _ _ (ruling P) (ruling P) (maps_same types)

  header_same : (p : Place) → Started (after_header P H p >>= ruling P)
      → (after_header P (headed_as C2 H) p >>= ruling P) ≡ (after_header P H p >>= ruling P)
  unfolding after_header headed_as
  header_same p started =
      ap (λ (rs : List (List Field → LineResult TypeLine)). read_lines split_sheet rs p >>= after_types P (headed_as C2 H) >>= ruling P) (same_types H plain 0 H.types)
      ∙ same_on (read_lines split_sheet (type_lines H 0 H.types) p) _ _ (ruling P) (ruling P) types_same started

-- ------------------------------------------------------------------ the sheet

unfoldable behind : Program → Header × Place → Result Split Refusal
behind P (H, p) = after_header P H p

by_lines : (P : Program) (l t : List ℕ) → OneLine l
    → split Check P (l above t) ≡ (passed split_sheet 1 (lines t) (header_line Check (fields l)) >>= behind P)
unfolding split begin read_line next_line ◌>>=◌ behind after_header after_types after_maps after_signatures after_rows
by_lines P l t one = rw (above_lines l t one)

module _ (P : Program) (r : List Line) where
  passed_same : (s : LineResult Header) → ((H : Header) → s ≡ good H → H.heading ≡ C) → Started (passed split_sheet 1 r s >>= behind P >>= ruling P)
      → (passed split_sheet 1 r (seen (headed_as C2) s) >>= behind P >>= ruling P) ≡ (passed split_sheet 1 r s >>= behind P >>= ruling P)
  unfolding seen passed ◌>>=◌ behind
  passed_same (good H) plain started = header_same P H (plain H refl) (record { last = 1; rest = r }) started
  passed_same (bad w) plain started = refl

module _ (a t : List ℕ) (one : OneLine a) where
  unnamed_line : OneLine (header_unnamed a)
  unfolding bytes
  unnamed_line = (not_ten 67 (omega arith), (not_ten 44 (omega arith), one))

  named_line : OneLine (header_named a)
  unfolding bytes
  named_line =
      let zero_named = one_line_append a (44 ∷ 48 ∷ []) one (not_ten 44 (omega arith), (not_ten 48 (omega arith), tt)) in
      (not_ten 67 (omega arith), (not_ten 50 (omega arith), (not_ten 44 (omega arith), zero_named)))

  sheet_same : (P : Program) → Started (split Check P (header_unnamed a above t) >>= ruling P)
      → (split Check P (header_named a above t) >>= ruling P) ≡ (split Check P (header_unnamed a above t) >>= ruling P)
  sheet_same P started =
      ap (λ (o : Result Split Refusal). o >>= ruling P) (by_lines P (header_named a) t named_line)
      ∙ ap (λ (s : LineResult Header). passed split_sheet 1 (lines t) s >>= behind P >>= ruling P) (line_named a)
      ∙ passed_same P (lines t) (header_line Check (fields (header_unnamed a))) (line_plain a)
      (along Started (ap (λ (o : Result Split Refusal). o >>= ruling P) (by_lines P (header_unnamed a) t unnamed_line)) started)
      ∙ sym (ap (λ (o : Result Split Refusal). o >>= ruling P) (by_lines P (header_unnamed a) t unnamed_line))

  module _ (fits : length (header_named a above t) ≤ split_limit) where
    shorter : length (header_unnamed a above t) ≤ split_limit
    unfolding bytes ◌above◌
    shorter =
        omega (arith, fits, length-append a (10 ∷ t), length-append (a ++ 44 ∷ 48 ∷ []) (10 ∷ t), length-append a (44 ∷ 48 ∷ []))

    answer_same : (P : Program)
        → Started (require (leb (length (header_unnamed a above t)) split_limit) LongSplit >>= λ fits. split Check P (header_unnamed a above t) >>= ruling P)
        → (require (leb (length (header_named a above t)) split_limit) LongSplit >>= λ fits. split Check P (header_named a above t) >>= ruling P)
        ≡ (require (leb (length (header_unnamed a above t)) split_limit) LongSplit >>= λ fits. split Check P (header_unnamed a above t) >>= ruling P)
    unfolding require ◌>>=◌
    answer_same P started = rw (le-leb _ _ fits, le-leb _ _ shorter) (sheet_same P (rw (le-leb _ _ shorter) at started))

    start_written_out : (room : ℕ) (p : List ℕ) → ((k : ℕ) → verdict room p (header_unnamed a above t) ≡ Refuse (NoStart k) → ⊥)
        → verdict room p (header_named a above t) ≡ verdict room p (header_unnamed a above t)
    unfolding verdict checked ruling answer Started
    start_written_out room p started =
        ap answer
        (same_then (require (leb workspace_size room) ShortWorkspace) _ _
        (rw (sheets_then Check p (header_unnamed a above t), sheets_then Check p (header_named a above t)) (λ enough. same_then (require (leb (length p) program_limit) LongProgram) _ _
        (λ fits. same_then (program p) _ _ answer_same))) (λ k e. started k (ap answer e)))

pub map_zero_stays : MapZeroStays
map_zero_stays room p a t one fits = start_written_out a t one fits room p
