-- What is made of a seed: the line's three numbers, and the two texts.
use Rattle.std.specs.Prelude.{List, ℕ, ◌≤◌, length, take, Option, None, Some}
use Rattle.spec.specs.Program.{program_limit}
use Rattle.spec.specs.Split.{split_limit}
use Rattle.drill_theory.specs.Draw.{drawn}
use Rattle.drill_theory.specs.Pair.{program_of, split_of}
use Rattle.drill.specs.declared.Drilled.{Drilled}

pub record Drill : Type 0 where
  pub next : ℕ
  pub program_length : ℕ
  pub split_length : ℕ
  pub program : List ℕ
  pub split : List ℕ

-- document 02, request (ii), for a seed; nothing for a word that is none
unfoldable pub pair_of : Option ℕ → Option Drill
pair_of None = None
pair_of (Some seed) = Some (record {
  next = drawn seed;
  program_length = length (program_of seed);
  split_length = length (split_of seed);
  program = program_of seed;
  split = split_of seed;
})

-- what an answer of the code shows, with the texts in front of two buffers
unfoldable pub shown : Option Drilled → (program split : List ℕ) → Option Drill
shown None program split = None
shown (Some d) program split = Some (record {
  next = d.next;
  program_length = d.program;
  split_length = d.split;
  program = take d.program program;
  split = take d.split split;
})

-- buffers of these lengths have room for any sheet
pub record Roomy (program split : ℕ) : Type 0 where
  pub any_program : program_limit ≤ program
  pub any_split : split_limit ≤ split
