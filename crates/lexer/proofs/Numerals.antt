-- Numerals at a cursor, and the numerals of a line.
use Rattle.std.proofs.Common.{Option, None, Some}
use mathlib.Core.Path.{◌≡◌, refl, ap}
use mathlib.Core.List.{List}
use Prim.Native.Nat.{ℕ}
use Rattle.spec.specs.Text.{numeral}
use Rattle.lexer.specs.Views.{end_of, first_field}
use Rattle.lexer.specs.Cursors.{rest, behind_field}
use Rattle.lexer.specs.Numbers.{number_of, number_at}
use Rattle.lexer.specs.declared.Cursor.{Cursor}
use Rattle.lexer.specs.declared.FieldEnd.{FieldEnd}
use Rattle.lexer.specs.declared.Number.{Number}

-- ------------------------------------------------------------------ one numeral

value_parts : (o : Option ℕ) (e : FieldEnd) (d : Cursor) (f : Number) → number_of o e d ≡ Some f → (o ≡ Some f.value) × (e ≡ f.end) × (d ≡ f.next)
unfolding number_of
value_parts None e d f h = cc
value_parts (Some m) e d f h =
    let p : record { value = m; end = e; next = d } ≡ f = cc in
    (ap (λ (x : Number). Some x.value) p, ap (λ (x : Number). x.end) p, ap (λ (x : Number). x.next) p)

none_parts : (o : Option ℕ) (e : FieldEnd) (d : Cursor) → number_of o e d ≡ None → o ≡ None
unfolding number_of
none_parts None e d h = refl
none_parts (Some m) e d h = cc

-- what a number at a cursor says of the text
module _ (text : List ℕ) (c : Cursor) where
  pub value_at_cursor : (f : Number) → number_at text c ≡ Some f
      → (numeral (first_field (rest text c)) ≡ Some f.value) × (end_of (rest text c) ≡ f.end) × (behind_field text c ≡ f.next)
  unfolding number_at
  value_at_cursor f h = value_parts _ _ _ f h

  pub none_at_cursor : number_at text c ≡ None → numeral (first_field (rest text c)) ≡ None
  unfolding number_at
  none_at_cursor h = none_parts _ _ _ h
