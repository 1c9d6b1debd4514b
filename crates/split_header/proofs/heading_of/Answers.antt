-- One heading after the other; the first is none where a sheet is filled.
use Rattle.spec.specs.Text.{bytes}
use Rattle.spec.specs.Split.{headings}
use Rattle.keywords.proofs.Words.{either}
use Rattle.split_header.proofs.heading_of.Goals as goal

pub returns-in-Check : goal.returns-in-Check
unfolding headings bytes
returns-in-Check c = rw c.in-Check.is (either _ _ _ c.or.ensures c.spelled-in-Check.ensures (either _ _ _ c.or-newer.ensures c.spelled.ensures c.spelled-2.ensures))

pub returns-in-Fill : goal.returns-in-Fill
unfolding headings bytes
returns-in-Fill c = rw c.in-Fill.is (either _ _ _ c.or-newer.ensures c.spelled.ensures c.spelled-2.ensures)
