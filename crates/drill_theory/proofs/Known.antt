-- Known practice pairs.
use mathlib.Core.Path.{◌≡◌, refl}
use lib.ListN.{length}
use Rattle.spec.specs.Text.{bytes}
use Rattle.spec.specs.Pairs.KnownPairs.{barred, P}
use Rattle.text_theory.specs.Text.{digit, digits_within, decimal, line, text}
use Rattle.drill_theory.specs.Draw.{drawn, readers, readers_of}
use Rattle.drill_theory.specs.Pair.{step, lets, spawn, join, program_steps, program_lines, program_text, header, type_line, type_lines, falling_maps, row, start_row, spawn_rows, all_spawn_rows, join_rows, all_join_rows, rows, split_lines, split_text}

pub seed_0 : (drawn 0 ≡ 1013904223) × (readers_of 0 ≡ 2)
unfolding drawn readers readers_of
seed_0 = (refl, refl)

-- where the multiplier counts, and where the number wraps
pub seed_1 : (drawn 1 ≡ 1015568748) × (readers_of 1 ≡ 28)
unfolding drawn readers readers_of
seed_1 = (refl, refl)

pub last_seed : (drawn 4294967295 ≡ 1012239698) × (readers_of 4294967295 ≡ 8)
unfolding drawn readers readers_of
last_seed = (refl, refl)

-- one reader: document 01's P, byte for byte
pub one_reader_is_p : program_text 1 ≡ barred P
unfolding bytes barred P digit digits_within decimal line text step lets spawn join program_steps program_lines program_text
one_reader_is_p = refl

-- its split: s is written although it is 0
pub one_reader_split : split_text 1 ≡ barred
    "C,1,1,3,2|int,0,0|ref,0,0|tid,0,0|1|0|0,0,|1,0,|0,0,|0,0,|2,0,|0,0,|0,1,0|2,0,|0,0,|1,0,|0,0,|0,0,|2,1,|0,0,|1,0,|0,0,|"
unfolding bytes barred digit digits_within decimal line text header type_line type_lines falling_maps row start_row spawn_rows all_spawn_rows join_rows all_join_rows rows split_lines split_text
one_reader_split = refl

-- the longest texts
pub longest : (length (program_text 31) ≡ 1725) × (length (split_text 31) ≡ 1613)
unfolding bytes digit digits_within decimal line text step lets spawn join program_steps program_lines program_text header type_line type_lines falling_maps row start_row spawn_rows all_spawn_rows join_rows all_join_rows rows split_lines split_text
longest = (refl, refl)
