use Rattle.std.proofs.Common.{Option, None, Some}
use mathlib.Core.Path.{◌≡◌, refl, sym, ap, ◌∙◌}
use mathlib.Core.Bool.{Bool, true, false}
use mathlib.Core.List.{[], ◌∷◌, ◌++◌}
use Prim.Native.Nat.{ℕ, ◌+◌}
use native.Mathlib.Numerals.{add-one}
use native.Mathlib.Omega.{arith}
use lib.ListN.{length, take, set, length-set, length-append}
use lib.Seq.{take-suc-set, length-take-le}
use borrow.Author.Tests.{eqb-true, eqb-false}
use Rattle.std.specs.Bool.{then_some}
use Rattle.lexer.specs.declared.Cursor.{Cursor}
use Rattle.lexer.specs.Numbers.{stored, NumbersRead}
use Rattle.lexer.proofs.Walks.{number_placed, number_line_kept, number_line_passed}
use Rattle.lexer.proofs.LineNumbers.{ahead_none, few_counted, many_counted, all_counted, stop_malformed, stop_text, after_comma, after_newline, whole, stands, refused, accepted}
use Rattle.lexer.proofs.Cursor.numbers.Goals as goal

pub loop-i-init : goal.loop-i-init
loop-i-init c = (refl, c.requires, refl, sym (ahead_none _))

pub returns-in_err-value : goal.returns-in_err-value
returns-in_err-value c =
    let h = sym c.long_number.ensures ∙ c.in_err-value.was in
    rw c.from_residual.ensures (refused _ _ _ _ (stop_malformed _ _ _ _ c.loop-i.invariant.3 _ h) c.loop-i.invariant.0)

-- by a test
by_test : {A : Type 0} (P : Option A → Type 0) (b : Bool) (x : A) → (b ≡ true → P (Some x)) → (b ≡ false → P None) → P (then_some b x)
by_test P true x t f = t refl
by_test P false x t f = f refl

pub returns-in-Newline : goal.returns-in-Newline
returns-in-Newline c =
    let h = sym c.long_number.ensures ∙ c.in_ok-value.was in
    let into = c.loop-i.into in
    let i = c.loop-i.i in
    let n = c.narrow.result in
    let newline = c.in-Newline.is in
    let found = after_newline _ _ _ _ c.loop-i.invariant.3 _ h c.loop-i.invariant.1 newline in
    rw c.then_some.ensures (by_test (λ (o : Option Cursor). NumbersRead c.args.text.now c.args.self c.args.into.now (set into i n) o) _ _
    (λ e.
    let all = eqb-true _ _ e in
    let w = whole into i n (omega arith) ∙ ap (λ (m : ℕ). take i into ++ (m ∷ [])) c.narrow.ensures in
    let l = sym (ap length w) ∙ length-set into i n in
    accepted _ _ _ _ _ _ _ (all_counted _ _ _ _ _ found (l ∙ c.loop-i.invariant.0)) w
    (stands _ _ _ (number_placed _ _ _ h c.loop-i.invariant.1) (number_line_passed _ _ _ h newline ∙ ap (λ (x : ℕ). x + 1) c.loop-i.invariant.2)))
    (λ e.
    let few = eqb-false _ _ e in
    let l = length-append (take i into) (stored c.in_ok-value.field-0.value ∷ []) in
    let m = length-take-le i into (omega arith) in
    refused _ _ _ _ (few_counted _ _ _ _ _ found (λ q. few (omega arith))) (length-set into i n ∙ c.loop-i.invariant.0)))

pub returns-in-Text : goal.returns-in-Text
returns-in-Text c =
    let h = sym c.long_number.ensures ∙ c.in_ok-value.was in
    refused _ _ _ _ (stop_text _ _ _ _ c.loop-i.invariant.3 _ h _ c.in-Text.is)
    (length-set c.loop-i.into c.loop-i.i c.narrow.result ∙ c.loop-i.invariant.0)

pub loop-i-preserved : goal.loop-i-preserved
loop-i-preserved c =
    let h = sym c.long_number.ensures ∙ c.in_ok-value.was in
    let into = c.loop-i.into in
    let i = c.loop-i.i in
    let n = c.narrow.result in
    let comma = c.in-Comma.is in
    let so_far : take (i + 1) (set into i n) ≡ take i into ++ (n ∷ []) = rw add-one (take-suc-set into i n (omega arith)) in (
      length-set into i n ∙ c.loop-i.invariant.0,
      number_placed _ _ _ h c.loop-i.invariant.1,
      number_line_kept _ _ _ h comma ∙ c.loop-i.invariant.2,
      rw (so_far, c.narrow.ensures) (after_comma _ _ _ _ c.loop-i.invariant.3 _ h c.loop-i.invariant.1 comma),
    )

pub returns : goal.returns
returns c =
    let m = length-take-le c.loop-i.i c.loop-i.into (omega arith) in
    refused _ _ _ _ (many_counted _ _ _ _ _ c.loop-i.invariant.3 (omega arith)) c.loop-i.invariant.0
