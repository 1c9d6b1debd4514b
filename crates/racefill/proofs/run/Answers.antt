-- Two files in, one text out.
use Rattle.std.proofs.Common.{rules}
use Rattle.spec.specs.Split.{split_limit}
use Rattle.racefill.proofs.run.Goals as goal

pub output_of-n-requires : goal.output_of-n-requires
unfolding split_limit
output_of-n-requires g c = (c.read_program-p.ensures.within, c.read_split-s.ensures.within, search rules)

pub write_output-requires : goal.write_output-requires
write_output-requires g c = c.output_of-n.ensures.are
