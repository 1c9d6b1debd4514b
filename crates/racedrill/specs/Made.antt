-- What is made for a word: two files, each with its own text, and a line.
use Rattle.std.specs.Prelude.{◌≡◌, List, ℕ, Some}
use Rattle.spec.specs.Text.{bytes}
use Rattle.racedrill.specs.Seed.{seed_of}
use Rattle.racedrill.specs.Pair.{Drill, pair_of}

-- the two texts of the pair that a word asks for
pub record TextsOf (word program split : List ℕ) : Type 0 where
  pub drill : Drill
  pub asked : pair_of (seed_of word) ≡ Some drill
  pub program_text : program ≡ drill.program
  pub split_text : split ≡ drill.split

-- a file by its name, with its text
pub data FileOf (word name text : List ℕ) : Type 0 where
  program_file : (drill : Drill) → pair_of (seed_of word) ≡ Some drill → name ≡ bytes "program.txt" → text ≡ drill.program → FileOf word name text
  split_file : (drill : Drill) → pair_of (seed_of word) ≡ Some drill → name ≡ bytes "split.txt" → text ≡ drill.split → FileOf word name text

-- the numbers of the line
pub record LineOf (word : List ℕ) (next program split : ℕ) : Type 0 where
  pub drill : Drill
  pub asked : pair_of (seed_of word) ≡ Some drill
  pub new_x : next ≡ drill.next
  pub program_long : program ≡ drill.program_length
  pub split_long : split ≡ drill.split_length
