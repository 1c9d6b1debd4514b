use mathlib.Core.Path.{refl}
use Rattle.spec.specs.Program.{count_ranges, procedures_of, counts_of}
use Rattle.program_lines.specs.Lines.{count_numbers}
use Rattle.program_lines.proofs.CountLaws.{pair_after}
use Rattle.program_lines.proofs.counts.counts_after.Goals as goal

pub returns-in_err-steps-in-P : goal.returns-in_err-steps-in-P
unfolding count_ranges
returns-in_err-steps-in-P c = rw (c.from_residual.ensures, c.in-P.is) c.in_err-steps-in-P.ensures

pub returns-in_ok-steps-in-P : goal.returns-in_ok-steps-in-P
unfolding count_numbers counts_of procedures_of
returns-in_ok-steps-in-P c = rw c.in-P.is (c.in_ok-steps-in-P.ensures, refl)

pub returns-in-P2 : goal.returns-in-P2
returns-in-P2 c = rw c.in-P2.is (pair_after c.args.text.now c.args.field c.last_pair.result c.last_pair.ensures)
