-- The digits at the cursor are all of a field where what comes after them ends one.
use mathlib.Core.Path.{sym, ◌∙◌}
use Rattle.lexer.proofs.FirstDigits.{digits_none, digits_padded, digits_closed, digits_fit, digits_spoilt}
use Rattle.lexer.proofs.Cursor.number_of.Goals as goal
use Rattle.lexer.proofs.Cursor.number_of.Goals.{then-to-from-via-then-to-from, then-to-from-via-else-to-from+then-leading_zero}

pub returns-then-to-from : goal.returns-then-to-from
returns-then-to-from c =
    elim c.then-to-from.branch [
      | then-to-from-via-then-to-from w ↦ digits_none _ _ c.args.taken c.requires.1 w.if-to-from.true
      | then-to-from-via-else-to-from+then-leading_zero w ↦ digits_padded _ _ c.args.taken c.requires.1 w.if-to-from.false (sym w.leading_zero.ensures ∙ w.if-leading_zero.true)
    ]

pub returns-in_err-end : goal.returns-in_err-end
returns-in_err-end c = c.from_residual.ensures ∙ digits_spoilt _ _ c.args.taken c.requires.1 c.requires.1.in_text (sym c.at.ensures ∙ c.in_err-end.was)

pub past-next-requires : goal.past-next-requires
past-next-requires c =
    digits_fit _ _ c.args.taken c.requires.1 c.if-to-from.false (sym c.leading_zero.ensures ∙ c.if-leading_zero.false) _ (sym c.at.ensures ∙ c.in_ok-end.was) c.requires.0

pub returns : goal.returns
returns c =
    rw c.past-next.ensures
    (digits_closed _ _ c.args.taken c.requires.1 c.if-to-from.false (sym c.leading_zero.ensures ∙ c.if-leading_zero.false) _ (sym c.at.ensures ∙ c.in_ok-end.was))
