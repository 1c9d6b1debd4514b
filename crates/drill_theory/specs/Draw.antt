-- The draw: a new number from a seed, and the number of readers that it stands for.
use Rattle.std.specs.Prelude.{ℕ, ◌+◌, ◌*◌, ◌/◌, ◌%◌, ◌≤◌}

-- "Draw x ← (1,664,525 × x + 1,013,904,223) mod 2^32"
unfoldable pub drawn : (x : ℕ) → ℕ
drawn x = (1664525 * x + 1013904223) % 4294967296

-- "let k be 1 + (floor(x / 65,536) mod 31)", of the new x
unfoldable pub readers : (x : ℕ) → ℕ
readers x = 1 + x / 65536 % 31

unfoldable pub readers_of : (seed : ℕ) → ℕ
readers_of seed = readers (drawn seed)

-- the numbers of readers that are drawn
pub record Drawable (k : ℕ) : Type 0 where
  pub some : 1 ≤ k
  pub few : k ≤ 31
