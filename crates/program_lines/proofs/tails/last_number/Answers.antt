-- The line goes on after a comma, with one numeral.
use mathlib.Core.Path.{sym, ◌∙◌}
use Rattle.program_lines.proofs.TailLaws.{tail_no_number, tail_ends, tail_goes_on, tail_open}
use Rattle.program_lines.proofs.tails.last_number.Goals as goal

pub returns-in_err-value : goal.returns-in_err-value
returns-in_err-value c = rw c.from_residual.ensures (tail_no_number c.args.text.now c.args.field (sym c.number.ensures ∙ c.in_err-value.was))

pub returns-in-Newline : goal.returns-in-Newline
returns-in-Newline c =
    tail_ends _ _ _ (sym c.number.ensures ∙ c.in_ok-value.was) c.requires c.in-Comma.is c.in-Newline.is _ c.narrow.ensures

pub returns-in-Comma-end : goal.returns-in-Comma-end
returns-in-Comma-end c = tail_goes_on c.args.text.now c.args.field _ (sym c.number.ensures ∙ c.in_ok-value.was) c.requires c.in-Comma-end.is

pub returns-in-Text : goal.returns-in-Text
returns-in-Text c = tail_open c.args.text.now c.args.field _ (sym c.number.ensures ∙ c.in_ok-value.was) c.in-Text.is
