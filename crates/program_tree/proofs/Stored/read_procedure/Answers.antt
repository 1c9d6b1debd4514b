-- A procedure is due: its body, by what stands next.
use Rattle.std.proofs.Common.{Err}
use mathlib.Core.Path.{refl, sym, ap, ◌∙◌}
use native.Mathlib.Omega.{arith}
use Rattle.spec.specs.declared.Refusal.TheVariants.{ProgramLines}
use Rattle.workspace.proofs.Region.{changed_nothing}
use Rattle.program_tree.proofs.TreeLaws.{steps_left, procs_left, procedure_due, body_found}
use Rattle.program_tree.proofs.Stored.read_procedure.Goals as goal

pub overflow_add-f : goal.overflow_add-f
overflow_add-f c = omega (arith, procs_left _ _ _ _ _ c.requires.stored, c.args.self.in_room.1)

pub read_expression-requires : goal.read_expression-requires
read_expression-requires c = procedure_due _ _ _ _ c.requires (sym c.next_item.ensures ∙ c.in-Proc.is)

pub overflow_add-i : goal.overflow_add-i
overflow_add-i c = omega (arith, steps_left _ _ _ _ _ c.requires.stored, c.args.self.in_room.0)

pub returns-in-Proc : goal.returns-in-Proc
returns-in-Proc c =
    body_found _ _ _ _ _ (sym c.next_item.ensures ∙ c.in-Proc.is) c.read_expression.ensures c.read_expression.ensures.changed

pub returns-in-Step : goal.returns-in-Step
returns-in-Step c =
    body_found _ _ _ _ _ (sym c.next_item.ensures ∙ c.in-Step.is) (ap (λ k. Err (ProgramLines k)) c.at.ensures) (changed_nothing _ _ _)

pub returns-in-End : goal.returns-in-End
returns-in-End c = body_found _ _ _ _ _ (sym c.next_item.ensures ∙ c.in-End.is) refl (changed_nothing _ _ _)
