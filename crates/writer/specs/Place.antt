-- A lent buffer, and bytes put into it at a place.
use Rattle.std.specs.Prelude.{◌≡◌, List, [], ◌∷◌, ℕ, suc, ◌+◌, min, length, set}

-- bytes put into a buffer from a place on, one after the other; what would stand past its end is left out
unfoldable pub overwrite : (buffer : List ℕ) → (at : ℕ) → (bytes : List ℕ) → List ℕ
overwrite d at [] = d
overwrite d at (b ∷ s) = overwrite (set d at b) (suc at) s

-- places are counted up to the last number of 64 bits, which is past the end of every buffer
abbrev pub counted : ℕ → ℕ
counted n = min n 18446744073709551615

-- the bytes `s` are written at a place of a buffer, and the answer is the place behind them
pub record WrittenAt (before after : List ℕ) (at : ℕ) (s : List ℕ) (next : ℕ) : Type 0 where
  pub holds : after ≡ overwrite before at s
  pub moved : next ≡ counted (at + length s)
