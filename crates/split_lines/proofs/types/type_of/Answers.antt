-- A kind a line: its type, and the ranges of its two numbers.
use Rattle.std.proofs.Common.{arith}
use Rattle.std.proofs.lemmas.Grind.{common_steps}
use Rattle.spec.specs.Reading.{all_in_range, in_range}
use Rattle.spec.specs.Split.{lock_of, out_range}
use Rattle.split_lines.specs.TypeLines.{type_seen, type_ranges, type_made}
use Rattle.split_lines.proofs.TypeLaws.{older_lock}
use Rattle.split_lines.proofs.types.type_of.Goals as goal
use Rattle.split_lines.proofs.types.type_of.Goals.{in-Int, in-Ref, in-Lock+in-C, in-Lock+in-C3, in-Tid, in-Sem, in-Rwlock}

pub returns : goal.returns
unfolding type_seen type_ranges type_made lock_of out_range all_in_range in_range
returns c = elim c.match-kind.branch [
  | in-Int w ↦ grind (arith, common_steps)
  | in-Ref w ↦ grind (arith, common_steps)
  | in-Lock+in-C w ↦ rw (c.then_some.ensures, c.both_below.ensures, w.t-is) (older_lock c.args.header c.args.own.0 c.args.first c.args.second w.in-Lock.is w.in-C.is)
  | in-Lock+in-C3 w ↦ grind (arith, common_steps)
  | in-Tid w ↦ grind (arith, common_steps)
  | in-Sem w ↦ grind (arith, common_steps)
  | in-Rwlock w ↦ grind (arith, common_steps)
]
