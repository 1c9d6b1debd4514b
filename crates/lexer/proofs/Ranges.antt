-- The numerals that end a line, against the ranges that the sheet gives them.
use Rattle.std.proofs.Common.{Option, None, Some, Err}
use mathlib.Core.Path.{◌≡◌, refl, sym, ap, ◌∙◌}
use mathlib.Core.List.{List, [], ◌∷◌, map}
use mathlib.Core.Bool.{Bool, true, false}
use Prim.Native.Nat.{ℕ, zero, suc, ◌+◌, ◌≤◌, ◌<◌}
use native.Mathlib.Numerals.{add-one}
use native.Mathlib.Omega.{arith}
use lib.Dec.{eqb}
use lib.ListN.{length, get_or, drop, drop_of_length-le, length-map}
use lib.Seq.{drop-cons}
use borrow.Author.Tests.{eqb-true}
use Rattle.spec.specs.Choice.{when◌then◌else◌}
use Rattle.spec.specs.Text.{lines, Field}
use Rattle.spec.specs.Reading.{SheetName, LineResult, good, bad, bad_form, bad_range, Range, all_in_range, numerals, numbers, form, faulty, passed, next_line, or_bad_form}
use Rattle.spec.proofs.Seen.{ranged}
use Rattle.lexer.specs.Views.{with_field, line_at}
use Rattle.lexer.specs.Cursors.{rest}
use Rattle.lexer.specs.Numbers.{stored, with_rest, numbers_in, counted, numbers_at}
use Rattle.lexer.specs.declared.Cursor.{Cursor}
use Rattle.lexer.proofs.Lines.{next_open, next_closed}
use Rattle.lexer.proofs.Stored.{AllNarrow, stored_judged}

-- ------------------------------------------------------------------ so many numerals, and what they come to

-- what n numerals come to by f; anything else is bad
unfoldable pub many : {A : Type 0} → (n : ℕ) → (List ℕ → LineResult A) → (otherwise : LineResult A) → Option (List ℕ) → LineResult A
many n f otherwise None = otherwise
many n f otherwise (Some ns) = when eqb (length ns) n then f ns else otherwise

-- n numbers come to the same as what is stored of them
abbrev pub ByStored : {A : Type 0} → (n : ℕ) → (List ℕ → LineResult A) → Type 0
ByStored n f = (ms : List ℕ) → length ms ≡ n → f ms ≡ f (map stored ms)

module _ {A : Type 0} (n : ℕ) (f : List ℕ → LineResult A) (otherwise : LineResult A) (r : List ℕ) where
  many_none : (o : Option (List ℕ)) → counted n (with_rest o r) ≡ None → many n f otherwise o ≡ otherwise
  unfolding counted with_rest many
  many_none None e = refl
  many_none (Some ns) e = go (eqb (length ns) n) (rw (length-map ns stored) at e)
    where
      go : (x : Bool) → when◌then◌else◌ {A = Option (List ℕ × List ℕ)} x (Some (map stored ns, r)) None ≡ None → (when x then f ns else otherwise) ≡ otherwise
      go true e = cc
      go false e = refl

  many_some : ByStored n f → (o : Option (List ℕ)) (ns r' : List ℕ) → counted n (with_rest o r) ≡ Some (ns, r') → (many n f otherwise o ≡ f ns) × (length ns ≡ n) × (r ≡ r')
  unfolding counted with_rest many
  many_some same None ns r' e = let z : ◌≡◌ {A = ℕ} 0 1 = cc in absurd (omega arith)
  many_some same (Some ms) ns r' e = go (eqb (length ms) n) refl (rw (length-map ms stored) at e)
    where
      go : (x : Bool) → eqb (length ms) n ≡ x → when◌then◌else◌ {A = Option (List ℕ × List ℕ)} x (Some (map stored ms, r)) None ≡ Some (ns, r')
          → ((when x then f ms else otherwise) ≡ f ns) × (length ns ≡ n) × (r ≡ r')
      go true q e =
          let p : ◌≡◌ {A = List ℕ × List ℕ} (map stored ms, r) (ns, r') = cc in
          let l = eqb-true (length ms) n q in (
            same ms l ∙ ap (λ (q : List ℕ × List ℕ). f q.0) p,
            sym (ap (λ (q : List ℕ × List ℕ). length q.0) p) ∙ length-map ms stored ∙ l,
            ap (λ (q : List ℕ × List ℕ). q.1) p,
          )
      go false q e = let z : ◌≡◌ {A = ℕ} 0 1 = cc in absurd (omega arith)

-- as many numbers as ranges
module _ {A : Type 0} (rs : List Range) (g : LineResult (List ℕ) → LineResult A) where
  abbrev judged : List ℕ → LineResult A
  judged ns = g (when all_in_range rs ns then good ns else bad bad_range)

  judged_many : (fs : List Field) → g (numbers rs fs) ≡ many (length rs) judged (g (bad bad_form)) (numerals fs)
  unfolding numbers or_bad_form many
  judged_many fs = go (numerals fs)
    where
      counts : (x : Bool) (ns : List ℕ) → g (when x then (when all_in_range rs ns then good ns else bad bad_range) else bad bad_form) ≡ (when x then judged ns else g (bad bad_form))
      counts true ns = refl
      counts false ns = refl

      go : (o : Option (List ℕ)) → g (ranged rs o) ≡ many (length rs) judged (g (bad bad_form)) o
      go None = refl
      go (Some ns) = counts (eqb (length ns) (length rs)) ns

  judged_by_stored : AllNarrow rs → ByStored (length rs) judged
  judged_by_stored narrow ms l = ap g (stored_judged rs narrow ms l)

-- n numbers of a list from place k on, one by one
unfoldable pub numbers_from : (k n : ℕ) → List ℕ → List ℕ
numbers_from k zero l = []
numbers_from k (suc n) l = get_or l k 0 ∷ numbers_from (k + 1) n l

from_place : (k n : ℕ) (l : List ℕ) → length l ≡ k + n → drop k l ≡ numbers_from k n l
unfolding numbers_from
from_place k zero l e = let h : length l ≤ k = omega arith in drop_of_length-le l h
from_place k (suc n) l e = drop-cons l k 0 (omega arith) ∙ rw (← add-one k) (ap (λ (m : List ℕ). get_or l k 0 ∷ m) (from_place (k + 1) n l (omega arith)))

pub one_by_one : (n : ℕ) (l : List ℕ) → length l ≡ n → l ≡ numbers_from 0 n l
one_by_one n l e = from_place 0 n l (omega arith)

-- ------------------------------------------------------------------ the line

-- fields in front of those of a line
unfoldable onto : (List Field → List Field) → Option (List Field × List ℕ) → Option (List Field × List ℕ)
onto front None = None
onto front (Some line) = Some (front line.0, line.1)

onto_all : (o : Option (List Field × List ℕ)) → o ≡ onto (λ fs. fs) o
unfolding onto
onto_all None = refl
onto_all (Some line) = refl

onto_field : (f : Field) (o : Option (List Field × List ℕ)) → with_field f o ≡ onto (λ fs. f ∷ fs) o
unfolding onto with_field
onto_field f None = refl
onto_field f (Some line) = refl

-- a line that shows what its last fields come to as numerals
module _ {A : Type 0} (sheet : SheetName) (read : List Field → LineResult A) (k n : ℕ) (f : List ℕ → LineResult A) (otherwise : LineResult A) (t : List ℕ)
    (front : List Field → List Field) (o : Option (List Field × List ℕ)) (is : line_at t ≡ onto front o) (shows : (fs : List Field) → read (front fs) ≡ many n f otherwise (numerals fs))
  where
    line_form : otherwise ≡ bad bad_form → 0 < length t → counted n (numbers_in o) ≡ None → next_line sheet read k (lines t) ≡ Err (form sheet (k + 1))
    line_form b l m = go o is m
      where
        go : (o : Option (List Field × List ℕ)) → line_at t ≡ onto front o → counted n (numbers_in o) ≡ None → next_line sheet read k (lines t) ≡ Err (form sheet (k + 1))
        go None e m = unfold onto in next_open sheet read k t l e
        go (Some line) e m =
            unfold onto numbers_in faulty passed in
            next_closed sheet read k t (front line.0) line.1 e
            ∙ ap (passed sheet (k + 1) (lines line.1)) (shows line.0 ∙ many_none n f otherwise line.1 (numerals line.0) m ∙ b)

    line_read : ByStored n f → (ns r : List ℕ) → counted n (numbers_in o) ≡ Some (ns, r)
        → (next_line sheet read k (lines t) ≡ passed sheet (k + 1) (lines r) (f ns)) × (length ns ≡ n)
    line_read same ns r m = go o is m
      where
        go : (o : Option (List Field × List ℕ)) → line_at t ≡ onto front o → counted n (numbers_in o) ≡ Some (ns, r)
            → (next_line sheet read k (lines t) ≡ passed sheet (k + 1) (lines r) (f ns)) × (length ns ≡ n)
        go None e m = unfold numbers_in counted in (let z : ◌≡◌ {A = ℕ} 0 1 = cc in absurd (omega arith))
        go (Some line) e m =
            unfold onto numbers_in in
            (let found = many_some n f otherwise line.1 same (numerals line.0) ns r m in (
              next_closed sheet read k t (front line.0) line.1 e
                  ∙ ap (passed sheet (k + 1) (lines line.1)) (shows line.0 ∙ found.0)
                  ∙ ap (λ (x : List ℕ). passed sheet (k + 1) (lines x) (f ns)) found.2,
              found.1,
            ))

-- the same at a cursor, for the fields behind the first
module _ {A : Type 0} (sheet : SheetName) (read : List Field → LineResult A) (k n : ℕ) (f : List ℕ → LineResult A) (otherwise : LineResult A) (text : List ℕ) (c : Cursor)
    (first : Field) (d : Cursor) (comma : line_at (rest text c) ≡ with_field first (line_at (rest text d))) (shows : (fs : List Field) → read (first ∷ fs) ≡ many n f otherwise (numerals fs))
  where
    pub many_form : otherwise ≡ bad bad_form → 0 < length (rest text c) → numbers_at text d n ≡ None → next_line sheet read k (lines (rest text c)) ≡ Err (form sheet (k + 1))
    unfolding numbers_at
    many_form = line_form sheet read k n f otherwise (rest text c) (λ fs. first ∷ fs) (line_at (rest text d)) (comma ∙ onto_field first (line_at (rest text d))) shows

    pub many_read : ByStored n f → (ns r : List ℕ) → numbers_at text d n ≡ Some (ns, r)
        → (next_line sheet read k (lines (rest text c)) ≡ passed sheet (k + 1) (lines r) (f ns)) × (length ns ≡ n)
    unfolding numbers_at
    many_read = line_read sheet read k n f otherwise (rest text c) (λ fs. first ∷ fs) (line_at (rest text d)) (comma ∙ onto_field first (line_at (rest text d))) shows

-- what `numbers` finds at a cursor, as what the line at that cursor shows, or at the cursor behind its first field
module _
    {A : Type 0}
    (sheet : SheetName)
    (read : List Field → LineResult A)
    (k : ℕ)
    (rs : List Range)
    (g : LineResult (List ℕ) → LineResult A)
    (text : List ℕ)
    (c : Cursor)
  where
    module _ (shows : (fs : List Field) → read fs ≡ g (numbers rs fs)) where
      pub numerals_form : g (bad bad_form) ≡ bad bad_form → 0 < length (rest text c) → numbers_at text c (length rs) ≡ None → next_line sheet read k (lines (rest text c)) ≡ Err (form sheet (k + 1))
      unfolding numbers_at
      numerals_form = line_form sheet read k (length rs) (judged rs g) (g (bad bad_form)) (rest text c) (λ fs. fs) (line_at (rest text c)) (onto_all (line_at (rest text c))) (λ fs. shows fs ∙ judged_many rs g fs)

      pub numerals_read : AllNarrow rs → (ns r : List ℕ) → numbers_at text c (length rs) ≡ Some (ns, r)
          → next_line sheet read k (lines (rest text c)) ≡ passed sheet (k + 1) (lines r) (g (when all_in_range rs ns then good ns else bad bad_range))
      unfolding numbers_at
      numerals_read narrow ns r m =
          (line_read sheet read k (length rs) (judged rs g) (g (bad bad_form)) (rest text c) (λ fs. fs) (line_at (rest text c)) (onto_all (line_at (rest text c))) (λ fs. shows fs ∙ judged_many rs g fs)
          (judged_by_stored rs g narrow) ns r m).0

    module _ (f : Field) (d : Cursor) (comma : line_at (rest text c) ≡ with_field f (line_at (rest text d))) (shows : (fs : List Field) → read (f ∷ fs) ≡ g (numbers rs fs)) where
      pub tail_form : g (bad bad_form) ≡ bad bad_form → 0 < length (rest text c) → numbers_at text d (length rs) ≡ None → next_line sheet read k (lines (rest text c)) ≡ Err (form sheet (k + 1))
      tail_form = many_form sheet read k (length rs) (judged rs g) (g (bad bad_form)) text c f d comma (λ fs. shows fs ∙ judged_many rs g fs)

      pub tail_read : AllNarrow rs → (ns r : List ℕ) → numbers_at text d (length rs) ≡ Some (ns, r)
          → next_line sheet read k (lines (rest text c)) ≡ passed sheet (k + 1) (lines r) (g (when all_in_range rs ns then good ns else bad bad_range))
      tail_read narrow ns r m =
          (many_read sheet read k (length rs) (judged rs g) (g (bad bad_form)) text c f d comma (λ fs. shows fs ∙ judged_many rs g fs) (judged_by_stored rs g narrow) ns r m).0
