use Rattle.spec.specs.Text.{bytes}
use Rattle.spec.specs.Program.{program_headings}
use Rattle.keywords.proofs.Words.{either}
use Rattle.program_lines.proofs.counts.heading_of.Goals as goal

pub returns : goal.returns
unfolding program_headings bytes
returns c = either _ _ _ c.or.ensures c.spelled.ensures c.spelled-2.ensures
