-- What goes between the programs and their files.
use Rattle.std.specs.Prelude.{ℕ, ◌+◌, ◌≤◌, ◌≡◌, List, length, take, Option, None, Some, IfSome}
use Rattle.spec.specs.Text.{bytes}
use Rattle.spec.specs.Program.{program_limit}
use Rattle.spec.specs.Split.{split_limit}

-- Each sheet by its name in document 01, with room for one byte more than its text may have.
pub data ReadInto (name : List ℕ) (room : ℕ) : Type 0 where
  program : name ≡ bytes "program.txt" → room ≡ program_limit + 1 → ReadInto name room
  split : name ≡ bytes "split.txt" → room ≡ split_limit + 1 → ReadInto name room

-- what reading a file leaves, if it can be read: no more bytes than the buffer has
abbrev pub Within : Option ℕ → ℕ → Type 0
Within r room = IfSome r (λ n. n ≤ room)

-- what reading behind the bytes that are held leaves: no fewer bytes
abbrev pub NoFewer : (held : ℕ) → Option ℕ → Type 0
NoFewer held r = IfSome r (λ n. held ≤ n)

-- the text that was read into a buffer, or none
abbrev pub text_in : Option ℕ → (buffer : List ℕ) → Option (List ℕ)
text_in (Some n) buffer = Some (take n buffer)
text_in None buffer = None

-- the first n bytes of a buffer are a text
pub record InFront (text : List ℕ) (n : ℕ) (buffer : List ℕ) : Type 0 where
  pub within : n ≤ length buffer
  pub are : take n buffer ≡ text
