-- The loop's invariant: the maps below m are written.
use Rattle.std.proofs.Common.{map}
use Rattle.text_theory.specs.Text.{text}
use Rattle.writer.specs.Buffer.{Writes}
use Rattle.text_theory.specs.Sheet.{map_fields}
use Rattle.split_writer.specs.Stored.{in_order, map_in}
use Rattle.split_writer.proofs.write_maps.Given as goal

abbrev pub invariant-loop-m : goal.invariant-loop-m
invariant-loop-m l = Writes l.initial.writer l.writer (text (map map_fields (in_order (map_in l.locations l.work) 0 l.m)))
