-- Bytes that come to the front of a buffer, and texts that end with a line.
use Prim.Native.Nat.{ℕ, zero, suc, ◌+◌, ◌-◌, ◌<◌, ◌≤◌}
use mathlib.Core.Path.{◌≡◌, refl, ◌∙◌, ap, subst}
use mathlib.Core.Bool.{true}
use mathlib.Core.List.{List, [], ◌∷◌, ◌++◌}
use native.Mathlib.Nat.{zero-add, suc-add}
use native.Mathlib.Numerals.{add-one}
use native.Mathlib.Omega.{arith}
use lib.ListN.{length, get_or, take, drop, length-drop, take-append-drop}
use lib.Seq.{take_all, length-take-le, length-paste, take-paste}
use Rattle.std.specs.List.{copy_within}
use Rattle.replay.specs.Pieces.{ends_line}

-- ------------------------------------------------------------------ lines

-- a text up to a byte 10
pub ends_there : (t : List ℕ) (i : ℕ) → i < length t → get_or t i 0 ≡ 10 → ends_line (take (i + 1) t) ≡ true
unfolding ends_line
ends_there [] i l e = absurd (omega arith)
ends_there (b ∷ t) zero l e = rw e refl
ends_there (b ∷ []) (suc i) l e = absurd (omega arith)
ends_there (b ∷ c ∷ t) (suc i) l e = rw (suc-add, add-one) (rw add-one at (ends_there (c ∷ t) i (omega arith) e))

pub ends_joined : (t u : List ℕ) → ends_line t ≡ true → ends_line u ≡ true → ends_line (t ++ u) ≡ true
unfolding ends_line
ends_joined [] u h k = k
ends_joined (b ∷ []) [] h k = h
ends_joined (b ∷ []) (c ∷ u) h k = k
ends_joined (b ∷ c ∷ t) u h k = ends_joined (c ∷ t) u h k

-- ------------------------------------------------------------------ bytes

-- the bytes in front of the cut, and those that have come from behind it
pub none_lost : {b' : List ℕ} (cut : ℕ) (b : List ℕ) → cut ≤ length b → b' ≡ copy_within b cut (length b) 0 → take cut b ++ take (length b' - cut) b' ≡ b
none_lost {b'} cut b low e =
    let rest = drop cut b in
    let n = length b - cut in
    let long : length rest ≡ n = length-drop cut b in
    let same : length b' ≡ length b = ap length e ∙ length-paste b 0 rest n (omega arith) (omega arith) in
    let moved = copy_within b cut (length b) 0 in
    let front : take n moved ≡ take n rest = subst (λ (m : ℕ). take m moved ≡ take n rest) (zero-add n) (take-paste b 0 rest n (omega arith) (omega arith)) in
    let come : take n b' ≡ rest = ap (take n) e ∙ front ∙ take_all n rest (omega arith) in
    ap (λ (m : ℕ). take cut b ++ take (m - cut) b') same ∙ ap (λ (x : List ℕ). take cut b ++ x) come ∙ take-append-drop cut b

pub still_counted : (cut : ℕ) (b : List ℕ) (steps : ℕ) → cut ≤ length b → steps + length b < 18446744073709551616 → steps + length (take cut b) < 18446744073709551616
still_counted cut b steps low room = let l = length-take-le cut b low in omega (arith, l, low, room)
