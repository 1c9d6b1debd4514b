-- The numerals of a line, field by field, and reading them into a lent slice.
use Rattle.std.proofs.Common.{Option, None, Some}
use mathlib.Core.Path.{◌≡◌, refl, sym, ap, subst, ◌∙◌}
use mathlib.Core.List.{List, [], ◌∷◌, ◌++◌, append_assoc}
use Prim.Native.Nat.{ℕ, suc, ◌+◌, ◌-◌, ◌≤◌, ◌<◌}
use native.Mathlib.Omega.{arith}
use lib.ListN.{length, take, drop, set, length-drop, length-append, length-set}
use lib.Seq.{take_all, take-suc-set}
use borrow.Author.Tests.{eq-eqb, ne_eqb}
use Rattle.spec.specs.Text.{Field, numeral}
use Rattle.spec.specs.Reading.{numerals, with_numeral}
use Rattle.lexer.specs.Views.{end_of, first_field, behind, with_field, line_at}
use Rattle.lexer.specs.Cursors.{Placed, rest}
use Rattle.lexer.specs.Numbers.{number_at, stored, with_rest, numbers_in, counted, numbers_at, behind_line, numbers_of, NumbersRead}
use Rattle.lexer.specs.declared.Cursor.{Cursor}
use Rattle.lexer.specs.declared.FieldEnd.{FieldEnd}
use Rattle.lexer.specs.declared.FieldEnd.TheVariants.{Comma, Newline, Text}
use Rattle.lexer.specs.declared.Number.{Number}
use Rattle.lexer.proofs.Numerals.{none_at_cursor}
use Rattle.lexer.proofs.Walks.{number_numeral, number_comma, number_newline, number_text}
use Rattle.lexer.proofs.Fields.{line_comma, line_newline, line_text, line_some}

-- ------------------------------------------------------------------ a line of numerals, field by field

unfoldable pub ahead : List ℕ → Option (List ℕ × List ℕ) → Option (List ℕ × List ℕ)
ahead xs None = None
ahead xs (Some found) = Some (xs ++ found.0, found.1)

pub ahead_none : (o : Option (List ℕ × List ℕ)) → ahead [] o ≡ o
unfolding ahead
ahead_none None = refl
ahead_none (Some found) = refl

pub ahead_ahead : (xs ys : List ℕ) (o : Option (List ℕ × List ℕ)) → ahead xs (ahead ys o) ≡ ahead (xs ++ ys) o
unfolding ahead
ahead_ahead xs ys None = refl
ahead_ahead xs ys (Some found) = rw append_assoc

with_rest_lem : (n : ℕ) (o : Option (List ℕ)) (r : List ℕ) → with_rest (with_numeral (Some n) o) r ≡ ahead (stored n ∷ []) (with_rest o r)
unfolding with_rest with_numeral ahead
with_rest_lem n None r = refl
with_rest_lem n (Some ns) r = refl

no_rest : (o : Option (List ℕ)) (r : List ℕ) → with_rest (with_numeral None o) r ≡ None
unfolding with_rest with_numeral
no_rest o r = refl

with_numeral_lem : (f : Field) (n : ℕ) (o : Option (List Field × List ℕ)) → numeral f ≡ Some n → numbers_in (with_field f o) ≡ ahead (stored n ∷ []) (numbers_in o)
unfolding numbers_in with_field numerals ahead
with_numeral_lem f n None e = refl
with_numeral_lem f n (Some line) e = rw e (with_rest_lem n (numerals line.0) line.1)

no_numeral : (f : Field) (o : Option (List Field × List ℕ)) → numeral f ≡ None → numbers_in (with_field f o) ≡ None
unfolding numbers_in with_field numerals
no_numeral f None e = refl
no_numeral f (Some line) e = rw e (no_rest (numerals line.0) line.1)

no_last : (f : Field) (r : List ℕ) → numeral f ≡ None → numbers_in (Some (f ∷ [], r)) ≡ None
unfolding numbers_in numerals
no_last f r e = rw e (no_rest (numerals []) r)

with_last : (f : Field) (n : ℕ) (r : List ℕ) → numeral f ≡ Some n → numbers_in (Some (f ∷ [], r)) ≡ Some (stored n ∷ [], r)
unfolding numbers_in numerals with_rest with_numeral
with_last f n r e = rw e

-- a line whose first field is no numeral
no_numbers : (t : List ℕ) → numeral (first_field t) ≡ None → numbers_in (line_at t) ≡ None
unfolding numbers_in
no_numbers t f = go (end_of t) refl
  where
    go : (e : FieldEnd) → end_of t ≡ e → numbers_in (line_at t) ≡ None
    go Comma e = rw (line_comma t e) (no_numeral (first_field t) (line_at (behind t)) f)
    go Newline e = rw (line_newline t e) (no_last (first_field t) (behind t) f)
    go Text e = rw (line_text t e)

-- ------------------------------------------------------------------ how many they are

abbrev Several : Option (List ℕ × List ℕ) → Type 0
Several None = Unit
Several (Some found) = 0 < length found.0

some_with : (n : ℕ) (o : Option (List ℕ)) (r : List ℕ) → Several (with_rest (with_numeral (Some n) o) r)
unfolding with_rest with_numeral
some_with n None r = tt
some_with n (Some ns) r = omega arith

some_numerals : (fs : List Field) (r : List ℕ) → 0 < length fs → Several (with_rest (numerals fs) r)
unfolding numerals
some_numerals [] r h = absurd (omega arith)
some_numerals (f ∷ fs) r h = go (numeral f)
  where
    go : (o : Option ℕ) → Several (with_rest (with_numeral o (numerals fs)) r)
    go None = subst Several (sym (no_rest (numerals fs) r)) tt
    go (Some n) = some_with n (numerals fs) r

some_line : (t : List ℕ) (o : Option (List Field × List ℕ)) → line_at t ≡ o → Several (numbers_in o)
unfolding numbers_in
some_line t None e = tt
some_line t (Some line) e = some_numerals line.0 line.1 (line_some t line.0 line.1 e)

more : (xs : List ℕ) (n : ℕ) (o : Option (List ℕ × List ℕ)) → n ≤ length xs → Several o → counted n (ahead xs o) ≡ None
unfolding counted ahead
more xs n None h k = refl
more xs n (Some found) h k =
    let l = length-append xs found.0 in
    rw (ne_eqb (length (xs ++ found.0)) n (λ e. omega arith))

module _ (text : List ℕ) (c : Cursor) (n : ℕ) where
  -- a line that is not of numerals alone
  pub none_counted : numbers_in (line_at (rest text c)) ≡ None → numbers_at text c n ≡ None
  unfolding numbers_at counted
  none_counted e = rw e

  -- one numeral too few
  pub few_counted : (ns r : List ℕ) → numbers_in (line_at (rest text c)) ≡ Some (ns, r) → (length ns ≡ n → ⊥) → numbers_at text c n ≡ None
  unfolding numbers_at counted
  few_counted ns r e h = rw (e, ne_eqb (length ns) n h)

  -- one numeral too many
  pub many_counted : (xs t : List ℕ) → numbers_in (line_at (rest text c)) ≡ ahead xs (numbers_in (line_at t)) → n ≤ length xs → numbers_at text c n ≡ None
  unfolding numbers_at
  many_counted xs t e h = rw e (more xs n (numbers_in (line_at t)) h (some_line t (line_at t) refl))

  pub all_counted : (ns r : List ℕ) → numbers_in (line_at (rest text c)) ≡ Some (ns, r) → length ns ≡ n → numbers_at text c n ≡ Some (ns, r)
  unfolding numbers_at counted
  all_counted ns r e h = rw (e, eq-eqb (length ns) n h)

-- ------------------------------------------------------------------ one numeral after the other

-- a cursor on a line that began at another cursor, behind the numbers listed
module _ (text : List ℕ) (top c : Cursor) (xs : List ℕ) (so_far : numbers_in (line_at (rest text top)) ≡ ahead xs (numbers_in (line_at (rest text c)))) where
  pub stop_malformed : (k : ℕ) → number_at text c ≡ None → numbers_at text top k ≡ None
  unfolding ahead
  stop_malformed k h = none_counted text top k (so_far ∙ ap (ahead xs) (no_numbers (rest text c) (none_at_cursor text c h)))

  module _ (f : Number) (h : number_at text c ≡ Some f) where
    pub stop_text : (k : ℕ) → f.end ≡ Text → numbers_at text top k ≡ None
    unfolding ahead numbers_in
    stop_text k p = none_counted text top k (so_far ∙ ap (λ (o : Option (List Field × List ℕ)). ahead xs (numbers_in o)) (number_text text c f h p))

    pub after_comma : Placed text c → f.end ≡ Comma
        → numbers_in (line_at (rest text top)) ≡ ahead (xs ++ (stored f.value ∷ [])) (numbers_in (line_at (rest text f.next)))
    after_comma q p =
        let line = number_comma text c f h q p in
        let first = number_numeral text c f h in
        so_far
        ∙ ap (ahead xs) (ap numbers_in line ∙ with_numeral_lem (first_field (rest text c)) f.value (line_at (rest text f.next)) first)
        ∙ ahead_ahead xs (stored f.value ∷ []) (numbers_in (line_at (rest text f.next)))

    pub after_newline : Placed text c → f.end ≡ Newline → numbers_in (line_at (rest text top)) ≡ Some (xs ++ (stored f.value ∷ []), rest text f.next)
    unfolding ahead
    after_newline q p =
        let line = number_newline text c f h q p in
        let first = number_numeral text c f h in
        so_far ∙ ap (ahead xs) (ap numbers_in line ∙ with_last (first_field (rest text c)) f.value (rest text f.next) first)

-- ------------------------------------------------------------------ reading them

-- the last number makes a slice whole
pub whole : (into : List ℕ) (i n : ℕ) → length into ≡ i + 1 → set into i n ≡ take i into ++ (n ∷ [])
whole into i n h =
    let l = length-set into i n in
    sym (take_all (suc i) (set into i n) (omega arith)) ∙ take-suc-set into i n (omega arith)

-- a cursor is known by what is left behind it
pub stands : (text : List ℕ) (c d : Cursor) → Placed text d → d.line ≡ c.line + 1 → d ≡ behind_line text c (rest text d)
unfolding behind_line rest
stands text c d p h =
    let e : length text - length (drop d.at text) ≡ d.at = omega (arith, length-drop d.at text, p.in_text) in
    sym (rw (e, sym h))

module _ (text : List ℕ) (c : Cursor) (before after : List ℕ) where
  pub refused : numbers_at text c (length before) ≡ None → length after ≡ length before → NumbersRead text c before after None
  unfolding numbers_of
  refused e h = record { found = rw e; filled = rw e h }

  pub accepted : (ns r : List ℕ) (d : Cursor) → numbers_at text c (length before) ≡ Some (ns, r) → after ≡ ns → d ≡ behind_line text c r
      → NumbersRead text c before after (Some d)
  unfolding numbers_of
  accepted ns r d e h k = record { found = rw (e, k); filled = rw e h }
