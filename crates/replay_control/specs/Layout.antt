-- The offsets and marks of src/layout.rt, by their names there.
use Rattle.std.specs.Prelude.{ℕ}

-- the program, behind the columns of the work space up to row_types_at
abbrev pub continuations_at : ℕ
continuations_at = 2176

abbrev pub second_part : ℕ
second_part = 256

abbrev pub finish : ℕ
finish = 512

abbrev pub leave : ℕ
leave = 513

abbrev pub procedures_at : ℕ
procedures_at = 2448

abbrev pub program_size : ℕ
program_size = 2449

-- the lent space: rows of 256 numbers, by row, by thread, by kind, by value
abbrev pub environments_at : ℕ
environments_at = 0

abbrev pub kept_values_at : ℕ
kept_values_at = 270336

abbrev pub open_calls_at : ℕ
open_calls_at = 540672

abbrev pub control_point_modes_at : ℕ
control_point_modes_at = 541728

abbrev pub control_point_places_at : ℕ
control_point_places_at = 541744

abbrev pub control_point_values_at : ℕ
control_point_values_at = 541760

abbrev pub control_point_rows_at : ℕ
control_point_rows_at = 541776

abbrev pub thing_counts_at : ℕ
thing_counts_at = 541792

abbrev pub next_value_at : ℕ
next_value_at = 541800

abbrev pub thing_kinds_at : ℕ
thing_kinds_at = 541808

abbrev pub thing_firsts_at : ℕ
thing_firsts_at = 542192

abbrev pub thing_seconds_at : ℕ
thing_seconds_at = 542576

abbrev pub space_size : ℕ
space_size = 542960
