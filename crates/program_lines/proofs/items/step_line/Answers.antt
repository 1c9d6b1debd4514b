-- A step line in the order in which it is judged: a missing line, the word `freelock`, the word `proc`, another word, what is after it.
use mathlib.Core.Path.{sym, ◌∙◌}
use native.Mathlib.Omega.{arith}
use Rattle.spec.specs.Text.{bytes, same, look_up}
use Rattle.spec.specs.Words.{words_under}
use Rattle.lexer.proofs.Places.{span_le}
use Rattle.program_lines.proofs.TailLaws.{line_fits, of_field}
use Rattle.program_lines.proofs.LineLaws.{step_missing, step_unknown}
use Rattle.program_lines.proofs.items.step_line.Goals as goal

pub returns-then-at_end : goal.returns-then-at_end
returns-then-at_end c = step_missing _ _ _ (sym c.at_end.ensures ∙ c.if-at_end.true)

pub slice_bounds-spelling-count : goal.slice_bounds-spelling-count
slice_bounds-spelling-count c = (span_le _ _ c.field-field.result c.field-field.ensures c.requires).0

pub slice_bounds-spelling-start : goal.slice_bounds-spelling-start
slice_bounds-spelling-start c = (span_le _ _ c.field-field.result c.field-field.ensures c.requires).0

pub slice_bounds-spelling-end : goal.slice_bounds-spelling-end
slice_bounds-spelling-end c = (span_le _ _ c.field-field.result c.field-field.ensures c.requires).1

pub freelock_line-requires : goal.freelock_line-requires
unfolding bytes
freelock_line-requires c =
    record {
      here = record { placed = c.requires; left = sym c.at_end.ensures ∙ c.if-at_end.false; field = c.field-field.ensures };
      freelock = of_field (λ f. same f (bytes "freelock")) _ _ c.field-field.result c.field-field.ensures c.same.ensures ∙ c.if-same.true;
    }

pub proc_line-requires : goal.proc_line-requires
unfolding bytes
proc_line-requires c =
    record {
      here = record { placed = c.requires; left = sym c.at_end.ensures ∙ c.if-at_end.false; field = c.field-field.ensures };
      other = of_field (λ f. same f (bytes "freelock")) _ _ c.field-field.result c.field-field.ensures c.same.ensures ∙ c.if-same.false;
      proc = of_field (λ f. same f (bytes "proc")) _ _ c.field-field.result c.field-field.ensures c.same-2.ensures ∙ c.if-same-2.true;
    }

pub overflow_add-result : goal.overflow_add-result
overflow_add-result c = omega (arith, line_fits _ _ c.requires (sym c.at_end.ensures ∙ c.if-at_end.false))

pub returns-in_default : goal.returns-in_default
unfolding bytes
returns-in_default c =
    step_unknown _ _ _ (record {
      here = record { placed = c.requires; left = sym c.at_end.ensures ∙ c.if-at_end.false; field = c.field-field.ensures };
      other = of_field (λ f. same f (bytes "freelock")) _ _ c.field-field.result c.field-field.ensures c.same.ensures ∙ c.if-same.false;
      plain = of_field (λ f. same f (bytes "proc")) _ _ c.field-field.result c.field-field.ensures c.same-2.ensures ∙ c.if-same-2.false;
    })
    (of_field (look_up (words_under c.args.heading)) _ _ c.field-field.result c.field-field.ensures (sym c.in_default.is ∙ c.word_under.ensures))

pub word_line-requires : goal.word_line-requires
unfolding bytes
word_line-requires c =
    record {
      step = record {
        here = record { placed = c.requires; left = sym c.at_end.ensures ∙ c.if-at_end.false; field = c.field-field.ensures };
        other = of_field (λ f. same f (bytes "freelock")) _ _ c.field-field.result c.field-field.ensures c.same.ensures ∙ c.if-same.false;
        plain = of_field (λ f. same f (bytes "proc")) _ _ c.field-field.result c.field-field.ensures c.same-2.ensures ∙ c.if-same-2.false;
      };
      spelled = of_field (look_up (words_under c.args.heading)) _ _ c.field-field.result c.field-field.ensures (sym c.in-Some.is ∙ c.word_under.ensures);
    }
