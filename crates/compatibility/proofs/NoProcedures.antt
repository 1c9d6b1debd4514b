-- A `P` sheet and the `P2` sheet of the same steps and no procedures get the same answer, if no line has the word `proc` or `call`, which
-- a `P` sheet does not know. Line 1 says the same of both; behind it each line is read alike.
use Rattle.std.proofs.Common.{Option, None, Some, Result, Ok}
use mathlib.Core.Path.{◌≡◌, refl, sym, ap, ◌∙◌}
use mathlib.Core.List.{List, [], ◌∷◌, ◌++◌}
use mathlib.Core.Bool.{Bool, true, false, ◌||◌}
use Prim.Native.Nat.{ℕ, zero, suc, ◌+◌, ◌≤◌}
use native.Mathlib.Omega.{arith}
use lib.ListN.{length, length-append}
use borrow.Author.Tests.{le-leb, ne_eqb}
use Rattle.spec.specs.declared.Refusal.{Refusal}
use Rattle.spec.specs.Choice.{when◌then◌else◌}
use Rattle.spec.specs.Text.{bytes, same, Line, closed, unclosed, lines, Field, on_field, fields, look_up}
use Rattle.spec.specs.Reading.{◌>>=◌, program_sheet, LineResult, good, bad, bad_range, freelock, seen, refuse_after, ◌to◌, in_range, all_in_range, numerals, numbers, Place, passed, next_line, read_line, read_lines, or_bad_form}
use Rattle.spec.specs.Words.{words, words_under}
use Rattle.spec.specs.Expression.{Item, Procedure}
use Rattle.spec.specs.Program.{program_limit, Counts, program_headings, count_ranges, procedures_of, counts_of, count_line, word_line, proc_line, item_line, item_lines, Program, program}
use Rattle.spec.specs.Verdict.{sheets, checked, verdict}
use Rattle.spec.specs.WellFormed.{WellFormedProgram}
use Rattle.spec.specs.declared.ProgramHeading.{ProgramHeading}
use Rattle.spec.specs.declared.ProgramHeading.TheVariants.{P, P2}
use Rattle.spec.specs.declared.Word.TheVariants.{Unary}
use Rattle.spec.specs.declared.UnaryWord.TheVariants.{Call}
use Rattle.spec.proofs.Clashes.{true_is_not_false}
use Rattle.compatibility.specs.Texts.{OneLine, ◌above◌}
use Rattle.compatibility.specs.PlainPrograms.{plain_header, header_with_none, new_word, NoNewWords, NoProceduresStay}
use Rattle.compatibility.proofs.Texts.{fields_append}
use Rattle.compatibility.proofs.ZeroField.{with_zero, numerals_zero, one_line_append, not_ten}
use Rattle.compatibility.proofs.ProgramStages.{after_items, after_count, program_stages}
use Rattle.spec.proofs.Seen.{wrong_is_not_right, seen_right, formed_right, ranged}

-- ------------------------------------------------------------------ line 1

-- the counts of a `P` sheet, under the other heading
unfoldable under_p2 : Counts → Counts
under_p2 N = record { heading = P2; steps = N.steps; procedures = N.procedures }

-- one numeral is judged as that one and a 0; more or fewer are of the wrong form on both sheets
judged : (o : Option (List ℕ))
    → seen (counts_of P2) (ranged (count_ranges P2) (with_zero o)) ≡ seen under_p2 (seen (counts_of P) (ranged (count_ranges P) o))
unfolding with_zero or_bad_form seen count_ranges all_in_range in_range counts_of procedures_of under_p2
judged None = refl
judged (Some []) = refl
judged (Some (n ∷ [])) = go (all_in_range (count_ranges P) (n ∷ []))
  where
    go : (x : Bool) → seen (counts_of P2) (when x then good (n ∷ 0 ∷ []) else bad bad_range)
        ≡ seen under_p2 (seen (counts_of P) (when x then good (n ∷ []) else bad bad_range))
    go true = refl
    go false = refl
judged (Some (n ∷ k ∷ ns)) =
    rw (
      ne_eqb (length (n ∷ k ∷ ns)) 1 (λ e. omega (arith, e)),
      ne_eqb (length (n ∷ k ∷ ns ++ 0 ∷ [])) 2 (λ e. omega (arith, e, length-append ns (0 ∷ []))),
    )

count_counted : (fs : List Field) → count_line (bytes "P2" ∷ fs ++ (48 ∷ []) ∷ []) ≡ seen under_p2 (count_line (bytes "P" ∷ fs))
unfolding count_line or_bad_form program_headings look_up same bytes numbers
count_counted fs = ap (λ (o : Option (List ℕ)). seen (counts_of P2) (ranged (count_ranges P2) o)) (numerals_zero fs) ∙ judged (numerals fs)

-- such a sheet is headed `P`
count_plain : (fs : List Field) (N : Counts) → count_line (bytes "P" ∷ fs) ≡ good N → N.heading ≡ P
unfolding count_line or_bad_form program_headings look_up same bytes counts_of
count_plain fs N h = let (ns, _, e) = seen_right _ h in sym (ap (λ (x : Counts). x.heading) e)

module _ (a : List ℕ) where
  line_plain : (N : Counts) → count_line (fields (plain_header a)) ≡ good N → N.heading ≡ P
  unfolding bytes fields on_field
  line_plain N h = count_plain (fields a) N h

  line_counted : count_line (fields (header_with_none a)) ≡ seen under_p2 (count_line (fields (plain_header a)))
  unfolding bytes fields on_field
  line_counted = ap (λ (fs : List Field). count_line (bytes "P2" ∷ fs)) (fields_append a (48 ∷ [])) ∙ count_counted (fields a)

-- ------------------------------------------------------------------ the lines behind it

-- a line with another word is read alike
item_same : (k : ℕ) (fs : List Field) → new_word fs ≡ false → item_line P2 k fs ≡ item_line P k fs
unfolding item_line new_word words_under look_up
item_same k [] h = refl
item_same k (f ∷ fs) h = by_word (same f (bytes "proc")) (same (bytes "call") f) h
  where
    by_word : (b c : Bool) → (b || c) ≡ false
        → (when same f (bytes "freelock") then refuse_after freelock (numbers ((0 to 0) ∷ []) fs)
        else when b then proc_line P2 k fs else or_bad_form (when c then Some (Unary Call) else look_up words f) λ w. word_line k w fs)
        ≡ (when same f (bytes "freelock") then refuse_after freelock (numbers ((0 to 0) ∷ []) fs)
        else when b then proc_line P k fs else or_bad_form (look_up words f) λ w. word_line k w fs)
    by_word true c h = true_is_not_false h
    by_word false true h = true_is_not_false h
    by_word false false h = refl

-- an item found alike, and the lines behind it read alike
then_same : (k : ℕ) (rest : List Line) (x : LineResult Item) (more more' : Place → Result (List Item × Place) Refusal)
    → more (record { last = k; rest = rest }) ≡ more' (record { last = k; rest = rest })
    → ◌≡◌ {A = Result (List Item × Place) Refusal} (passed program_sheet k rest x >>= λ (a, after). more after >>= λ (as', end). Ok (a ∷ as', end))
    (passed program_sheet k rest x >>= λ (a, after). more' after >>= λ (as', end). Ok (a ∷ as', end))
unfolding passed ◌>>=◌
then_same k rest (good a) more more' h = ap (λ (o : Result (List Item × Place) Refusal). o >>= λ (as', end). Ok (a ∷ as', end)) h
then_same k rest (bad w) more more' h = refl

items_same : (k n last : ℕ) (ls : List Line) → NoNewWords ls
    → read_lines program_sheet (item_lines P2 k n) (record { last = last; rest = ls }) ≡ read_lines program_sheet (item_lines P k n) (record { last = last; rest = ls })
unfolding read_lines read_line next_line item_lines NoNewWords ◌>>=◌
items_same k zero last ls h = refl
items_same k (suc n) last [] h = refl
items_same k (suc n) last (unclosed l ∷ ls) h = refl
items_same k (suc n) last (closed l ∷ ls) h =
    rw (item_same k (fields l) h.0)
    (then_same (last + 1) ls (item_line P k (fields l)) (read_lines program_sheet (item_lines P2 (k + 1) n)) (read_lines program_sheet (item_lines P (k + 1) n))
    (items_same (k + 1) n (last + 1) ls h.1))

-- ------------------------------------------------------------------ the sheet

passed_same : (ls : List Line) → NoNewWords ls → (s : LineResult Counts) → ((N : Counts) → s ≡ good N → N.heading ≡ P)
    → (passed program_sheet 1 ls (seen under_p2 s) >>= after_count item_lines) ≡ (passed program_sheet 1 ls s >>= after_count item_lines)
unfolding passed seen ◌>>=◌ after_count under_p2
passed_same ls old (good N) headed =
    rw (headed N refl) (ap (◌>>= after_items N.procedures) (items_same 2 (N.steps + N.procedures) 1 ls old))
passed_same ls old (bad w) headed = refl

module _ (a t : List ℕ) (one : OneLine a) (old : NoNewWords (lines t)) where
  plain_line : OneLine (plain_header a)
  unfolding bytes
  plain_line = (not_ten 80 (omega arith), (not_ten 44 (omega arith), one))

  none_line : OneLine (header_with_none a)
  unfolding bytes
  none_line =
      let zero_counted = one_line_append a (44 ∷ 48 ∷ []) one (not_ten 44 (omega arith), (not_ten 48 (omega arith), tt)) in
      (not_ten 80 (omega arith), (not_ten 50 (omega arith), (not_ten 44 (omega arith), zero_counted)))

  program_same : program (header_with_none a above t) ≡ program (plain_header a above t)
  program_same =
      program_stages (header_with_none a) t none_line
      ∙ ap (λ (s : LineResult Counts). passed program_sheet 1 (lines t) s >>= after_count item_lines) (line_counted a)
      ∙ passed_same (lines t) old (count_line (fields (plain_header a))) (line_plain a)
      ∙ sym (program_stages (plain_header a) t plain_line)

  -- of each pair whose program sheet is not too long, refused or accepted
  no_procedures_same : (room : ℕ) (s : List ℕ) → length (header_with_none a above t) ≤ program_limit
      → verdict room (header_with_none a above t) s ≡ verdict room (plain_header a above t) s
  unfolding verdict checked sheets
  no_procedures_same room s fits = rw (le-leb _ _ fits, le-leb _ _ (shorter fits), program_same)
    where
      shorter : length (header_with_none a above t) ≤ program_limit → length (plain_header a above t) ≤ program_limit
      shorter fits = unfold bytes ◌above◌ in
          omega (arith, fits, length-append a (10 ∷ t), length-append (a ++ 44 ∷ 48 ∷ []) (10 ∷ t), length-append a (44 ∷ 48 ∷ []))

pub no_procedures_stay : NoProceduresStay
no_procedures_stay room a t s one old fits = no_procedures_same a t one old room s fits

-- ------------------------------------------------------------------ a well-formed `P` sheet

-- its program has no procedures
pub plain_has_no_procedures : {text : List ℕ} {Q : Program} (w : WellFormedProgram text Q) → w.heading ≡ P → Q.procedures ≡ []
plain_has_no_procedures {Q = Q} w is_plain = none_there Q.procedures (none_counted (fields w.first) _ w.counted is_plain)
  where
    none_there : (ps : List Procedure) → length ps ≡ 0 → ps ≡ []
    none_there [] h = refl
    none_there (p ∷ ps) h = absurd (omega (arith, h))

    by_heading : (h : ProgramHeading) (fs : List Field) (N : Counts) → seen (counts_of h) (numbers (count_ranges h) fs) ≡ good N → N.heading ≡ P → N.procedures ≡ 0
    by_heading P fs N h e = unfold counts_of procedures_of in
        let (ns, _, is) = seen_right _ h in
        sym (ap (λ (x : Counts). x.procedures) is)
    by_heading P2 fs N h e = unfold counts_of in
        let (ns, _, is) = seen_right _ h in
        let other : P2 ≡ P = ap (λ (x : Counts). x.heading) is ∙ e in
        let clash : ◌≡◌ {A = ℕ} 0 1 = cc in
        absurd (omega arith)

    none_counted : (fs : List Field) (N : Counts) → count_line fs ≡ good N → N.heading ≡ P → N.procedures ≡ 0
    none_counted [] N h e = unfold count_line in wrong_is_not_right h
    none_counted (f ∷ fs) N h e = unfold count_line in let (heading, _, shown) = formed_right _ _ h in by_heading heading fs N shown e
