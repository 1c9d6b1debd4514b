use mathlib.Core.Path.{sym}
use Rattle.split_fields.proofs.LineLaws.{end_reached, line_spare}
use Rattle.split.proofs.finish.Goals as goal

pub returns-then-at_end : goal.returns-then-at_end
returns-then-at_end c = sym (end_reached _ _ (sym c.if-at_end.ensures))

pub returns : goal.returns
returns c = sym (line_spare _ _ (sym c.if-at_end.ensures))
