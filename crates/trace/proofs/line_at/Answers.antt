use Rattle.std.proofs.Common.{sym, ap, ◌∙◌}
use Rattle.trace.specs.Lines.{choice_by}
use Rattle.trace.proofs.Lines.{first_field_lem, line_found, line_malformed}
use Rattle.trace.proofs.line_at.Goals as goal

pub returns-in_err-thread : goal.returns-in_err-thread
returns-in_err-thread c =
    c.from_residual.ensures ∙ line_malformed _ _ (sym c.number_before.ensures ∙ c.in_err-thread.was)

pub number_before-requires-2 : goal.number_before-requires-2
number_before-requires-2 c = (first_field_lem _ _ _ _ c.requires (sym c.number_before.ensures ∙ c.in_ok-thread.was)).fits

pub returns-in_err-choice : goal.returns-in_err-choice
unfolding choice_by
returns-in_err-choice c =
    c.from_residual-in_err-choice.ensures
    ∙ sym (ap (choice_by c.in_ok-thread.thread.number) (sym c.number_before-2.ensures ∙ c.in_err-choice.was))
    ∙ line_found _ _ _ _ (first_field_lem _ _ _ _ c.requires (sym c.number_before.ensures ∙ c.in_ok-thread.was))

pub returns : goal.returns
unfolding choice_by
returns c =
    sym (ap (choice_by c.in_ok-thread.thread.number) (sym c.number_before-2.ensures ∙ c.in_ok-choice.was))
    ∙ line_found _ _ _ _ (first_field_lem _ _ _ _ c.requires (sym c.number_before.ensures ∙ c.in_ok-thread.was))
