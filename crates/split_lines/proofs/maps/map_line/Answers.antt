-- A map line: its numerals are read; whether they are in their range.
use mathlib.Core.Path.{sym}
use Rattle.split_lines.proofs.MapLaws.{map_outside, map_good}
use Rattle.split_lines.proofs.maps.map_line.Goals as goal

pub returns-then-not-cells_fit : goal.returns-then-not-cells_fit
returns-then-not-cells_fit c = map_outside c.numbers.ensures c.requires.placed c.in_ok-next.ensures.ok_part (sym c.if-not-cells_fit.ensures)

pub returns : goal.returns
returns c = map_good c.numbers.ensures c.requires.placed c.in_ok-next.ensures.ok_part (sym c.if-not-cells_fit.ensures)
