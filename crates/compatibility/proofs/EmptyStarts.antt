-- Request (vii): with 0 written for an empty start, each line of a split is read as it was, and so the sheet.
use Rattle.std.proofs.Common.{Option, None, Some, Result, Ok, Err}
use mathlib.Core.Path.{◌≡◌, refl, ap, sym, ◌∙◌}
use mathlib.Core.List.{List, [], ◌∷◌, ◌++◌, map}
use mathlib.Core.Bool.{Bool, true, false, ◌&&◌, not}
use Prim.Native.Nat.{ℕ, zero, suc, ◌+◌, ◌≤◌}
use native.Mathlib.Omega.{arith}
use lib.Dec.{eqb, ltb}
use lib.ListN.{length, replicate}
use borrow.Author.Tests.{ltb-true, lt-ltb, le-leb}
use Rattle.spec.specs.declared.Refusal.{Refusal}
use Rattle.spec.specs.Choice.{when◌then◌else◌}
use Rattle.spec.specs.Text.{bytes, Line, closed, unclosed, lines, Field, on_field, fields, digit_limit, digits, leading_zero, value, numeral}
use Rattle.spec.specs.Reading.{◌>>=◌, LineResult, good, bad, bad_range, seen, below, in_range, all_in_range, with_numeral, numerals, numbers, split_sheet, Place, passed, next_line, read_line, read_lines, begin, end, or_bad_form}
use Rattle.spec.specs.Words.{takes_start, keeps_back}
use Rattle.spec.specs.Expression.{Step}
use Rattle.spec.specs.Program.{Program, program}
use Rattle.spec.specs.Split.{split_limit, header_line, type_lines, map_line, signature_line, row_of, start_range, post_range, post_field, row_line, split, nth_map}
use Rattle.spec.specs.declared.Header.{Header}
use Rattle.spec.specs.Verdict.{sheets, conditions_hold, checked, verdict}
use Rattle.spec.specs.declared.Purpose.TheVariants.{Check}
use Rattle.spec.proofs.Outcomes.{bind_alike}
use Rattle.spec.proofs.Tests.{both_true}
use Rattle.spec.proofs.Seen.{ranged}
use Rattle.compatibility.specs.Texts.{on_closed}
use Rattle.compatibility.specs.Judging.{split_by, sheets_by, checked_by, verdict_by}
use Rattle.compatibility.specs.EmptyStarts.{start_left, row_line_with_map_zero, lines_with_map_zero, verdict_with_map_zero, write_zero, as_it_was, changed_in_turn, zeros_behind, zeros_written, ZeroWritten, ZeroKeepsTheAnswer}

-- ------------------------------------------------------------------ one line

-- a byte behind the last of f and the fields fs
unfoldable on_last : ℕ → Field → List Field → List Field
on_last b f [] = (f ++ (b ∷ [])) ∷ []
on_last b f (g ∷ fs) = f ∷ on_last b g fs

on_first_last : (b c : ℕ) (f : Field) (fs : List Field) → on_field c (on_last b f fs) ≡ on_last b (c ∷ f) fs
unfolding on_field on_last
on_first_last b c f [] = refl
on_first_last b c f (g ∷ fs) = refl

-- the fields of a line, and what 0 behind the line makes of them
abbrev ZeroEnds : List ℕ → Type 0
ZeroEnds l = (f : Field) × (fs : List Field) × (fields l ≡ f ∷ fs) × (fields (l ++ bytes "0") ≡ on_last 48 f fs)

zero_ends : (l : List ℕ) → ZeroEnds l
unfolding bytes fields on_field on_last
zero_ends [] = ([], [], refl, refl)
zero_ends (c ∷ l) = by_byte (eqb c 44) refl (zero_ends l)
  where
    by_byte : (b : Bool) → eqb c 44 ≡ b → ZeroEnds l → ZeroEnds (c ∷ l)
    by_byte true h (f, fs, e, e') = ([], f ∷ fs, rw (h, e), rw (h, e'))
    by_byte false h (f, fs, e, e') = (c ∷ f, fs, rw (h, e), rw (h, e') (on_first_last 48 c f fs))

-- where m is the number of a map, 0 is one
zero_in_range : (types maps t m : ℕ)
    → all_in_range (below types ∷ below maps ∷ below maps ∷ []) (t ∷ m ∷ 0 ∷ []) ≡ all_in_range (below types ∷ below maps ∷ []) (t ∷ m ∷ [])
unfolding all_in_range in_range
zero_in_range types maps t m = ap (ltb t types &&◌) (by_map (ltb m maps) refl)
  where
    by_map : (b : Bool) → ltb m maps ≡ b → (ltb m maps && (ltb 0 maps && true)) ≡ (ltb m maps && true)
    by_map true h = rw (h, lt-ltb 0 maps (omega (arith, ltb-true m maps h)))
    by_map false h = rw h

judged_alike : (t m : ℕ) (b : Bool)
    → seen (row_of (Some (record { 0 = 0 }))) (when b then good (t ∷ m ∷ []) else bad bad_range)
    ≡ seen (λ ns. row_of (Some (nth_map 2 ns)) ns) (when b then good (t ∷ m ∷ 0 ∷ []) else bad bad_range)
unfolding seen row_of
judged_alike t m true = refl
judged_alike t m false = refl

module _ (H : Header) (s : Step) where
  numbers_alike : (t m : Option ℕ)
      → seen (row_of (Some (record { 0 = 0 }))) (ranged (below H.types ∷ below H.maps ∷ []) (with_numeral t (with_numeral m (Some []))))
      ≡ seen (λ ns. row_of (Some (nth_map 2 ns)) ns)
      (ranged (below H.types ∷ below H.maps ∷ below H.maps ∷ []) (with_numeral t (with_numeral m (Some (0 ∷ [])))))
  unfolding seen or_bad_form with_numeral
  numbers_alike None m = refl
  numbers_alike (Some t) None = refl
  numbers_alike (Some t) (Some m) =
      rw (zero_in_range H.types H.maps t m) (judged_alike t m (all_in_range (below H.types ∷ below H.maps ∷ []) (t ∷ m ∷ [])))

  -- a spawn's row with an empty start, and the same with 0
  zero_alike : (t m : Field) → (takes_start s.word && not (keeps_back s.word)) ≡ true → row_line_with_map_zero H s (t ∷ m ∷ [] ∷ []) ≡ row_line Check H s (t ∷ m ∷ bytes "0" ∷ [])
  unfolding row_line_with_map_zero start_left row_line post_range post_field start_range numbers numerals numeral digit_limit digits leading_zero value bytes with_numeral
  zero_alike t m h = rw (h, (both_true (takes_start s.word) (not (keeps_back s.word)) h).0) (numbers_alike (numeral t) (numeral m))

  unchanged : (l : List ℕ) → start_left s (fields l) ≡ false → row_line_with_map_zero H s (fields l) ≡ row_line Check H s (fields (write_zero s l))
  unfolding row_line_with_map_zero write_zero
  unchanged l h = rw h

  fields_alike : (f : Field) (fs : List Field) (l : List ℕ) → fields l ≡ f ∷ fs → fields (l ++ bytes "0") ≡ on_last 48 f fs
      → row_line_with_map_zero H s (fields l) ≡ row_line Check H s (fields (write_zero s l))
  unfolding start_left write_zero on_last bytes
  fields_alike t [] l e e' = unchanged l (rw e)
  fields_alike t (m ∷ []) l e e' = unchanged l (rw e)
  fields_alike t (m ∷ [] ∷ []) l e e' = by_word (takes_start s.word && not (keeps_back s.word)) refl
    where
      by_word : (b : Bool) → (takes_start s.word && not (keeps_back s.word)) ≡ b → row_line_with_map_zero H s (fields l) ≡ row_line Check H s (fields (write_zero s l))
      by_word true h = rw (e, h, e') (zero_alike t m h)
      by_word false h = unchanged l (rw e h)
  fields_alike t (m ∷ (b ∷ f) ∷ []) l e e' = unchanged l (rw e)
  fields_alike t (m ∷ f ∷ g ∷ fs) l e e' = unchanged l (rw e)

  -- a row reads now, with 0 written, as it used to read
  row_alike : (l : List ℕ) → row_line_with_map_zero H s (fields l) ≡ row_line Check H s (fields (write_zero s l))
  row_alike l = let (f, fs, e, e') = zero_ends l in fields_alike f fs l e e'

-- ------------------------------------------------------------------ lines in turn

-- Alike reads reads' fs gs: each way in reads shows of a line what its fellow in reads' shows of the line changed by its fellow in
-- fs; gs are the changes behind those
data Alike {A : Type 0} : (reads reads' : List (List Field → LineResult A)) → (fs gs : List (List ℕ → List ℕ)) → Type 0 where
  nothing : {gs : List (List ℕ → List ℕ)} → Alike [] [] gs gs
  line : {read read' : List Field → LineResult A} {f : List ℕ → List ℕ} {reads reads' : List (List Field → LineResult A)} {fs gs : List (List ℕ → List ℕ)}
      → ((l : List ℕ) → read (fields l) ≡ read' (fields (f l)))
      → Alike reads reads' fs gs
      → Alike (read ∷ reads) (read' ∷ reads') (f ∷ fs) gs

bind_assoc : {A B C : Type 0} (m : Result A Refusal) (f : A → Result B Refusal) (g : B → Result C Refusal) → (m >>= f >>= g) ≡ (m >>= λ a. f a >>= g)
unfolding ◌>>=◌
bind_assoc (Err r) f g = refl
bind_assoc (Ok a) f g = refl

-- lines read alike, and what comes of the lines behind them alike
module _ {A B : Type 0} where
  one_alike : (x : LineResult A) (k : ℕ) (ls ls' : List Line) (more more' : Place → Result (List A × Place) Refusal) (go go' : List A × Place → Result B Refusal)
      → ((a : A) → (more (record { last = k; rest = ls }) >>= λ (as', end). go (a ∷ as', end))
      ≡ (more' (record { last = k; rest = ls' }) >>= λ (as', end). go' (a ∷ as', end)))
      → (passed split_sheet k ls x >>= (λ (a, after). more after >>= λ (as', end). Ok (a ∷ as', end)) >>= go)
      ≡ (passed split_sheet k ls' x >>= (λ (a, after). more' after >>= λ (as', end). Ok (a ∷ as', end)) >>= go')
  unfolding passed ◌>>=◌
  one_alike (bad w) k ls ls' more more' go go' h = refl
  one_alike (good a) k ls ls' more more' go go' h = bind_assoc (more _) _ go ∙ h a ∙ sym (bind_assoc (more' _) _ go')

  all_alike : {reads reads' : List (List Field → LineResult A)} {fs gs : List (List ℕ → List ℕ)} → Alike reads reads' fs gs
      → (k : ℕ) (ls : List Line) (go go' : List A × Place → Result B Refusal)
      → ((as' : List A) (k : ℕ) (rest : List Line) → go (as', record { last = k; rest = rest }) ≡ go' (as', record { last = k; rest = changed_in_turn gs rest }))
      → (read_lines split_sheet reads (record { last = k; rest = ls }) >>= go)
      ≡ (read_lines split_sheet reads' (record { last = k; rest = changed_in_turn fs ls }) >>= go')
  unfolding read_lines read_line next_line passed ◌>>=◌ changed_in_turn on_closed
  all_alike nothing k ls go go' h = h [] k ls
  all_alike (line e more) k [] go go' h = refl
  all_alike (line e more) k (unclosed l ∷ ls) go go' h = refl
  all_alike (line {read' = read'} {f} {reads} {reads'} {fs} e more) k (closed l ∷ ls) go go' h =
      rw (e l) (one_alike (read' (fields (f l))) (k + 1) ls (changed_in_turn fs ls) (read_lines split_sheet reads) (read_lines split_sheet reads') go go'
      (λ a. all_alike more (k + 1) ls (λ (as', end). go (a ∷ as', end)) (λ (as', end). go' (a ∷ as', end)) (λ as'. h (a ∷ as'))))

-- ------------------------------------------------------------------ the sheet

module _ (H : Header) {gs : List (List ℕ → List ℕ)} where
  types_alike : (own n : ℕ) → Alike (type_lines H own n) (type_lines H own n) (replicate n as_it_was ++ gs) gs
  unfolding type_lines as_it_was
  types_alike own zero = nothing
  types_alike own (suc n) = line (λ l. refl) (types_alike (own + 1) n)

  signatures_alike : (n : ℕ) → Alike (replicate n (signature_line H)) (replicate n (signature_line H)) (replicate n as_it_was ++ gs) gs
  unfolding as_it_was
  signatures_alike zero = nothing
  signatures_alike (suc n) = line (λ l. refl) (signatures_alike n)

  maps_alike : (n : ℕ) → Alike (replicate n (map_line H)) (replicate n (map_line H)) (replicate n as_it_was ++ gs) gs
  unfolding as_it_was
  maps_alike zero = nothing
  maps_alike (suc n) = line (λ l. refl) (maps_alike n)

rows_alike : (H : Header) (steps : List Step) → Alike (map (row_line_with_map_zero H) steps) (map (row_line Check H) steps) (map write_zero steps) []
rows_alike H [] = nothing
rows_alike H (s ∷ steps) = line (row_alike H s) (rows_alike H steps)

module _ (P : Program) (t t' : List ℕ) where
  header_alike : (l : List ℕ) (ls : List Line) (x : LineResult Header) → header_line Check (fields l) ≡ x
      → lines t ≡ closed l ∷ ls → lines t' ≡ closed l ∷ zeros_behind x P ls → split_by lines_with_map_zero P t ≡ split Check P t'
  unfolding split_by split begin read_line next_line passed ◌>>=◌ zeros_behind changed_in_turn
  header_alike l ls (bad w) h e e' = rw (e, e', h)
  header_alike l ls (good H) h e e' = rw (e, e', h) (
      all_alike (types_alike H 0 H.types) 1 ls _ _ λ types k₁ rest₁.
      all_alike (maps_alike H H.maps) k₁ rest₁ _ _ λ maps k₂ rest₂.
      all_alike (signatures_alike H (length P.procedures)) k₂ rest₂ _ _ λ signatures k₃ rest₃.
      all_alike (rows_alike H P.steps) k₃ rest₃ _ _ λ rows k₄ rest₄. refl)

  sheet_alike : (ls : List Line) → lines t ≡ ls → lines t' ≡ zeros_written P ls → split_by lines_with_map_zero P t ≡ split Check P t'
  unfolding split_by split begin read_line next_line ◌>>=◌ zeros_written
  sheet_alike [] e e' = rw (e, e')
  sheet_alike (unclosed l ∷ ls) e e' = rw (e, e')
  sheet_alike (closed l ∷ ls) e e' = header_alike l ls _ refl e e'

-- ------------------------------------------------------------------ the answer

sheets_alike : (p t t' : List ℕ) → length t ≤ split_limit → length t' ≤ split_limit → ZeroWritten p t t'
    → sheets_by program (split_by lines_with_map_zero) conditions_hold p t ≡ sheets Check p t'
unfolding sheets_by sheets
sheets_alike p t t' fits fits' written = rw (le-leb _ _ fits, le-leb _ _ fits') (
    bind_alike _ _ _ λ _ _.
    bind_alike _ _ _ λ P reads.
    bind_alike _ _ _ λ _ _.
    ap (◌>>= λ S. Ok (P, S)) (sheet_alike P t t' (lines t) refl (written P reads)))

pub zero_keeps_the_answer : ZeroKeepsTheAnswer
unfolding verdict_with_map_zero verdict_by verdict checked_by checked
zero_keeps_the_answer room p t t' fits fits' written = rw (sheets_alike p t t' fits fits' written)
