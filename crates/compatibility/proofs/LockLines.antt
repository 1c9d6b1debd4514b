-- A `C2` sheet and the same sheet under `C3`, with each `lock,k,0` written `lock,k,k`, get the same answer. The second is read as the first
-- but for its heading, which no condition looks at.
use Rattle.std.proofs.Common.{Option, None, Some, Ok}
use mathlib.Core.Path.{◌≡◌, refl, sym, ap, ◌∙◌}
use mathlib.Core.Path.{subst as along}
use mathlib.Core.List.{List, [], ◌∷◌, map}
use mathlib.Core.Bool.{Bool, true, false, ◌&&◌}
use Prim.Native.Nat.{ℕ, zero, suc, ◌+◌, ◌≤◌}
use native.Mathlib.Omega.{arith}
use lib.Dec.{ltb}
use lib.ListN.{length}
use borrow.Author.Tests.{le-leb}
use Rattle.spec.specs.Choice.{when◌then◌else◌}
use Rattle.spec.specs.Text.{bytes, same, Line, closed, lines, Field, look_up, numeral}
use Rattle.spec.specs.Reading.{◌>>=◌, good, bad, bad_range, seen, ◌to◌, below, in_range, all_in_range, with_numeral, numerals, numbers, or_bad_form}
use Rattle.spec.specs.Expression.{Step}
use Rattle.spec.specs.Program.{Program}
use Rattle.spec.specs.Split.{headings, header_ranges, start_of, header_of, header_line, lock_of, out_range, type_line, type_lines, map_line, signature_line, start_range, may_be_empty, post_range, row_line, Split, split, split_limit}
use Rattle.spec.specs.declared.Header.{Header}
use Rattle.spec.specs.Verdict.{checked, answer, verdict}
use Rattle.spec.specs.WellFormed.{Parses, nothing, line, WellFormedSplit}
use Rattle.spec.specs.declared.Heading.TheVariants.{C2, C3}
use Rattle.spec.specs.declared.Purpose.TheVariants.{Check}
use Rattle.spec.specs.declared.TypeLine.{TypeLine}
use Rattle.spec.proofs.Tests.{same_equal}
use Rattle.spec.proofs.Outcomes.{bind_alike}
use Rattle.spec.proofs.Seen.{wrong_is_not_right, seen_right, numbers_right, numbers_spelled, numerals_counted, ranged}
use Rattle.spec.proofs.WellFormed.{split_well_formed, well_formed_split}
use Rattle.spec.proofs.Sheets.{sheets_then}
use Rattle.compatibility.specs.LockLines.{second_too, out_written, OutsWritten, stay, change, WrittenOut, heading, LocksWritten, InIsOutStays}
use Rattle.compatibility.proofs.NoHeading.{headed_as, under, ruling, same_ruling}

-- ------------------------------------------------------------------ a lock line

module _ (maps : ℕ) where
  -- the numbers of the one and of the other
  out_numbers : (k z : Option ℕ) (x : TypeLine)
      → seen (lock_of C2) (ranged (below maps ∷ (0 to 0) ∷ []) (with_numeral k (with_numeral z (Some [])))) ≡ good x
      → seen (lock_of C3) (ranged (below maps ∷ below maps ∷ []) (with_numeral k (with_numeral k (Some [])))) ≡ good x
  unfolding with_numeral or_bad_form seen all_in_range in_range lock_of
  out_numbers None z x h = wrong_is_not_right h
  out_numbers (Some k) None x h = wrong_is_not_right h
  out_numbers (Some k) (Some z) x h = in_range_lem (ltb k maps) (in_range (0 to 0) z && true) h
    where
      in_range_lem : (a b : Bool) → seen (lock_of C2) (when a && b then good (k ∷ z ∷ []) else bad bad_range) ≡ good x
          → seen (lock_of C3) (when a && (a && true) then good (k ∷ k ∷ []) else bad bad_range) ≡ good x
      in_range_lem true true h = h
      in_range_lem true false h = wrong_is_not_right h
      in_range_lem false b h = wrong_is_not_right h

  two_fields : (fs : List Field) (x : TypeLine) → seen (lock_of C2) (numbers (below maps ∷ (0 to 0) ∷ []) fs) ≡ good x → length fs ≡ 2
  two_fields fs x h =
      let (ns, n, _) = seen_right _ h in
      let ranges = below maps ∷ (0 to 0) ∷ [] in
      sym (numerals_counted fs ns (numbers_spelled ranges fs ns n)) ∙ (numbers_right ranges fs ns n).0

  out_fields : (fs : List Field) (x : TypeLine) → seen (lock_of C2) (numbers (below maps ∷ (0 to 0) ∷ []) fs) ≡ good x
      → seen (lock_of C3) (numbers (below maps ∷ below maps ∷ []) (second_too fs)) ≡ good x
  unfolding second_too numbers numerals
  out_fields [] x h = absurd (omega (arith, two_fields [] x h))
  out_fields (k ∷ []) x h = absurd (omega (arith, two_fields (k ∷ []) x h))
  out_fields (k ∷ z ∷ []) x h = out_numbers (numeral k) (numeral z) x h
  out_fields (k ∷ z ∷ f ∷ fs) x h = absurd (omega (arith, two_fields (k ∷ z ∷ f ∷ fs) x h))

-- ------------------------------------------------------------------ the lines

module _ (H : Header) (second : H.heading ≡ C2) where
  abbrev H' : Header
  H' = headed_as C3 H

  lock_written : (own : ℕ) (fs : List Field) (x : TypeLine) → type_line H own (bytes "lock" ∷ fs) ≡ good x
      → type_line H' own (bytes "lock" ∷ second_too fs) ≡ good x
  unfolding type_line same bytes headed_as out_range
  lock_written own fs x h = out_fields H.maps fs x (rw second at h)

  no_fields : (own : ℕ) (x : TypeLine) → type_line H own [] ≡ good x → ⊥
  unfolding type_line
  no_fields own x h = wrong_is_not_right h

  no_lock : (own : ℕ) (f : Field) (fs : List Field) → same f (bytes "lock") ≡ false → type_line H' own (f ∷ fs) ≡ type_line H own (f ∷ fs)
  unfolding type_line headed_as
  no_lock own f fs w = rw w

  type_written : (own : ℕ) (fs : List Field) (x : TypeLine) → type_line H own fs ≡ good x → type_line H' own (out_written fs) ≡ good x
  unfolding out_written
  type_written own [] x h = absurd (no_fields own x h)
  type_written own (f ∷ fs) x h = by_word (same f (bytes "lock")) refl
    where
      by_word : (b : Bool) → same f (bytes "lock") ≡ b → type_line H' own (when b then f ∷ second_too fs else f ∷ fs) ≡ good x
      by_word true w =
          let is_lock : f ≡ bytes "lock" = same_equal f (bytes "lock") w in
          rw is_lock (lock_written own fs x (rw is_lock at h))
      by_word false w = no_lock own f fs w ∙ h

  types_written : (own n : ℕ) {ls ls' rest : List Line} {ts : List TypeLine} → OutsWritten n ls ls' → Parses (type_lines H own n) ls ts rest
      → Parses (type_lines H' own n) ls' ts rest
  unfolding type_lines
  types_written own zero stay nothing = nothing
  types_written own (suc n) (change e w) (line {a = a} shown more) = line (ap (type_line H' own) e ∙ type_written own _ a shown) (types_written (own + 1) n w more)

  same_row : (s : Step) (fs : List Field) → row_line Check H' s fs ≡ row_line Check H s fs
  unfolding row_line start_range post_range may_be_empty headed_as
  same_row s [] = refl
  same_row s (t ∷ []) = refl
  same_row s (t ∷ m ∷ []) = refl
  same_row s (t ∷ m ∷ [] ∷ []) = rw second
  same_row s (t ∷ m ∷ (b ∷ f) ∷ []) = refl
  same_row s (t ∷ m ∷ f ∷ g ∷ fs) = refl

numbers_written : (ns : List ℕ) → seen (header_of C3) (good ns) ≡ good (headed_as C3 (header_of C2 ns))
unfolding seen header_of start_of headed_as
numbers_written ns = refl

header_written : (fs : List Field) (H : Header) → header_line Check (bytes "C2" ∷ fs) ≡ good H
    → (header_line Check (bytes "C3" ∷ fs) ≡ good (headed_as C3 H)) × (H.heading ≡ C2)
unfolding header_line headings look_up same bytes or_bad_form header_ranges header_of
header_written fs H h =
    let (ns, n, e) = seen_right _ h in
    (ap (seen (header_of C3)) n ∙ numbers_written ns ∙ ap (λ (x : Header). good (headed_as C3 x)) e, sym (ap (λ (x : Header). x.heading) e))

-- ------------------------------------------------------------------ the sheet

module _ (P : Program) (S : Split) where
  written_well_formed : (t t' : List ℕ) → WellFormedSplit Check P t S → length t' ≤ split_limit
      → WrittenOut S.header.types (lines t) (lines t') → WellFormedSplit Check P t' (under C3 S)
  unfolding under headed_as map_line signature_line
  written_well_formed t t' w fits written = go (lines t) (lines t') w.lined refl written
    where
      first_line_lem : {l k : List ℕ} {ls ms : List Line} → closed l ∷ ls ≡ closed k ∷ ms → (l ≡ k) × (ls ≡ ms)
      first_line_lem e = (cc, cc)

      go : (ls ls' : List Line) → ls ≡ closed w.first ∷ w.others → lines t' ≡ ls' → WrittenOut S.header.types ls ls'
          → WellFormedSplit Check P t' (under C3 S)
      go ls ls' d e (heading {l = l} {l' = l'} {fs = fs} {ls = rest} {ls' = others} two three outs) =
          let (top, behind) = first_line_lem d in
          let (header, second) = header_written fs S.header (rw two at (rw (← top) at w.headed)) in
          record {
            fits = fits;
            first = l';
            others = others;
            after_types = w.after_types;
            after_maps = w.after_maps;
            after_signatures = w.after_signatures;
            lined = e;
            headed = rw three header;
            typed = types_written S.header second 0 S.header.types outs (rw (← behind) at w.typed);
            mapped = w.mapped;
            signed = w.signed;
            rowed = along (λ reads. Parses reads w.after_signatures S.rows [])
                (λ i. map (λ s fs. sym (same_row S.header second s fs) i) P.steps) w.rowed;
          }

sheet_alike : (P : Program) (S : Split) (t t' : List ℕ) → length t ≤ split_limit → length t' ≤ split_limit → split Check P t ≡ Ok S
    → WrittenOut S.header.types (lines t) (lines t') → (split Check P t >>= ruling P) ≡ (split Check P t' >>= ruling P)
unfolding ◌>>=◌
sheet_alike P S t t' fits fits' read out =
    let formed = written_well_formed P S t t' (split_well_formed Check P t fits read) fits' out in
    ap (◌>>= ruling P) read ∙ sym (same_ruling C3 S P) ∙ sym (ap (◌>>= ruling P) (well_formed_split Check P t' formed))

checked_alike : (room : ℕ) (p t t' : List ℕ) → length t ≤ split_limit → length t' ≤ split_limit → LocksWritten p t t'
    → checked room p t ≡ checked room p t'
unfolding checked ruling
checked_alike room p t t' fits fits' written = bind_alike _ _ _ λ _ _. rw (sheets_then Check p t, sheets_then Check p t', le-leb _ _ fits, le-leb _ _ fits') (
    bind_alike _ _ _ λ _ _.
    bind_alike _ _ _ λ P reads.
    bind_alike _ _ _ λ _ _.
    let (S, read, out) = written P reads in
    sheet_alike P S t t' fits fits' read out)

pub in_is_out_stays : InIsOutStays
unfolding verdict
in_is_out_stays room p t t' fits fits' written = ap answer (checked_alike room p t t' fits fits' written)
