-- The bytes of a file that was read, and of a line that was written, are a part of their buffer.
use mathlib.Core.Path.{◌≡◌, ap, ◌∙◌}
use mathlib.Core.List.{List, ◌++◌}
use Prim.Native.Nat.{ℕ, ◌≤◌, ◌<◌}
use native.Mathlib.Omega.{arith}
use lib.ListN.{length, take, drop, length-take}
use lib.Seq.{length-take-le, take-append_seam, take-append-le, take-take}
use Rattle.writer.specs.Buffer.{WrittenAt}
use Rattle.writer.proofs.Buffer.{overwrite_front}
use Rattle.file_io.specs.Files.{InFront}

-- the bytes in front of a part that is read into are as they were
pub front_kept : (held n : ℕ) (buffer behind : List ℕ) → held ≤ n → n ≤ length buffer → take held (take n buffer ++ behind) ≡ take held buffer
front_kept held n buffer behind low within =
    let taken = length-take-le n buffer within in take-append-le held (take n buffer) behind (omega (arith, taken, low)) ∙ take-take held n buffer low

-- a text in front, by its length
pub front : {text : List ℕ} {n : ℕ} (buffer : List ℕ) → n ≡ length text → take n buffer ≡ text → InFront text n buffer
front {n = n} buffer e h = record { within = omega (arith, length-take n buffer, ap length h, e); are = h }

-- a line of at most m bytes that is written in front of a buffer with room for them
pub line_in_front : {line : List ℕ} {n : ℕ} (m : ℕ) (before after : List ℕ) → WrittenAt before after 0 line n → n ≤ m → m ≤ length before → m < 18446744073709551615
    → InFront line n after
line_in_front {line} {n} m before after w short room small =
    let long : n ≡ length line = omega (arith, w.moved, short, small) in
    let is = w.holds ∙ overwrite_front before line (omega (arith, long, short, room)) in
    front after long (rw (long, is) (take-append_seam line (drop (length line) before)))
