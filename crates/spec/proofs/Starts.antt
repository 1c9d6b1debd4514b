-- What stands where s may not be empty: the starts of spawned bodies in a `C` sheet, and what a call keeps back in any, are written.
use Rattle.std.proofs.Common.{Some}
use mathlib.Core.Path.{◌≡◌, sym, ap, ◌∙◌}
use mathlib.Core.List.{List, [], ◌∷◌, map}
use mathlib.Core.Bool.{true, false}
use Prim.Native.Nat.{ℕ, zero, suc, ◌<◌}
use native.Mathlib.Omega.{arith}
use lib.ListN.{length, get_or}
use Rattle.spec.specs.Text.{Line, Field}
use Rattle.spec.specs.Reading.{good}
use Rattle.spec.specs.Words.{takes_start, keeps_back}
use Rattle.spec.specs.Expression.{Step}
use Rattle.spec.specs.Program.{Program}
use Rattle.spec.specs.Split.{nth_map, Row, row_of, may_be_empty, empty_fault, row_line, Split}
use Rattle.spec.specs.declared.Header.{Header}
use Rattle.spec.specs.WellFormed.{Parses, nothing, line, WellFormedSplit}
use Rattle.spec.specs.declared.Purpose.{Purpose}
use Rattle.spec.specs.declared.Heading.{Heading}
use Rattle.spec.specs.declared.Heading.TheVariants.{C, C2, C3}
use Rattle.spec.specs.declared.MapNumber.{MapNumber}
use Rattle.spec.specs.declared.Word.{Word}
use Rattle.spec.specs.declared.Word.TheVariants.{Leaf, Unary, Binary}
use Rattle.spec.proofs.Clashes.{true_is_not_false}
use Rattle.spec.proofs.Seen.{wrong_is_not_right, seen_right, insist_right}

-- under no heading may the s of a call be empty
pub never_empty : (g : Heading) (w : Word) → keeps_back w ≡ true → may_be_empty g w ≡ false
unfolding may_be_empty
never_empty C w e = rw (takes w e)
  where
    takes : (w : Word) → keeps_back w ≡ true → takes_start w ≡ true
    takes (Leaf w) e = unfold keeps_back in true_is_not_false (sym e)
    takes (Unary w) e = unfold keeps_back takes_start in e
    takes (Binary w) e = unfold keeps_back in true_is_not_false (sym e)
never_empty C2 w e = rw e
never_empty C3 w e = rw e

-- a row whose start is given
abbrev pub Started : Row → Type 0
Started r = (m : MapNumber) × (r.start ≡ Some m)

module _ (purpose : Purpose) (H : Header) where
  row_started : (s : Step) (fs : List Field) (r : Row) → may_be_empty H.heading s.word ≡ false → row_line purpose H s fs ≡ good r → Started r
  unfolding row_line row_of
  row_started s [] r barred h = wrong_is_not_right h
  row_started s (t ∷ []) r barred h = wrong_is_not_right h
  row_started s (t ∷ m ∷ []) r barred h = wrong_is_not_right h
  row_started s (t ∷ m ∷ [] ∷ []) r barred h =
      let given = (insist_right (may_be_empty H.heading s.word) (empty_fault s.word) _ h).0 in
      true_is_not_false (sym given ∙ barred)
  row_started s (t ∷ m ∷ (b ∷ f) ∷ []) r barred h =
      let (ns, n, e) = seen_right _ h in
      (nth_map 2 ns, sym (ap (λ (q : Row). q.start) e))
  row_started s (t ∷ m ∷ f ∷ g ∷ fs) r barred h = wrong_is_not_right h

  rows_started : (steps : List Step) {ls rest : List Line} {rs : List Row} → Parses (map (row_line purpose H) steps) ls rs rest
      → (i : ℕ) (s : Step) (r : Row) → i < length steps → may_be_empty H.heading (get_or steps i s).word ≡ false → Started (get_or rs i r)
  rows_started [] nothing i s r h barred = absurd (omega arith)
  rows_started (x ∷ steps) (line shown more) zero s r h barred = row_started x _ _ barred shown
  rows_started (x ∷ steps) (line shown more) (suc i) s r h barred = rows_started steps more i s r (omega arith) barred

module _ {purpose : Purpose} {P : Program} {text : List ℕ} {S : Split} (F : WellFormedSplit purpose P text S) (i : ℕ) (s : Step) (r : Row)
    (h : i < length P.steps) where
  -- a well-formed `C` sheet has no empty start on any spawn
  pub spawns_started : S.header.heading ≡ C → takes_start (get_or P.steps i s).word ≡ true → Started (get_or S.rows i r)
  unfolding may_be_empty
  spawns_started plain spawns = rows_started purpose S.header P.steps F.rowed i s r h (rw (plain, spawns))

  -- a well-formed sheet, whatever its heading, has no empty s on any call
  pub calls_kept : keeps_back (get_or P.steps i s).word ≡ true → Started (get_or S.rows i r)
  calls_kept calls = rows_started purpose S.header P.steps F.rowed i s r h (never_empty S.header.heading _ calls)
