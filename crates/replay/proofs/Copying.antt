-- The copy of a program's columns, place by place.
use Prim.Native.Nat.{ℕ, ◌+◌, ◌<◌, ◌≤◌}
use mathlib.Core.Path.{◌≡◌, ◌∙◌}
use mathlib.Core.List.{List}
use native.Mathlib.Omega.{arith}
use native.Mathlib.Decide.{ℕ_discrete}
use lib.ListN.{length, get_or, set, length-set}
use lib.Seq.{get_or-set_same, get_or-set_other}
use Rattle.replay_control.specs.Layout.{continuations_at, program_size}
use Rattle.replay.specs.Start.{Copied}

-- the places below i are copied
pub record CopiedTo (i : ℕ) (s p : List ℕ) : Type 0 where
  pub long : length p ≡ program_size
  pub low : i ≤ continuations_at
  pub same : (j : ℕ) → j < i → get_or p j 0 ≡ get_or s j 0

pub copy_none : (s p : List ℕ) → length p ≡ program_size → CopiedTo 0 s p
copy_none s p long = record { long = long; low = omega arith; same = λ j h. absurd (omega (arith, h)) }

pub copy_more : (i : ℕ) (s p p' : List ℕ) {v : ℕ} → i < continuations_at → CopiedTo i s p → v ≡ get_or s i 0 → p' ≡ set p i v → CopiedTo (i + 1) s p'
copy_more i s p p' {v} below C e q = rw (q, e) (record {
  long = length-set p i (get_or s i 0) ∙ C.long;
  low = omega (arith, below);
  same = λ j h. at_place j h (ℕ_discrete j i);
})
  where
    at_place : (j : ℕ) → j < i + 1 → Dec (j ≡ i) → get_or (set p i (get_or s i 0)) j 0 ≡ get_or s j 0
    at_place j h (yes z) = rw z (get_or-set_same p i (get_or s i 0) 0 (let l = C.long in omega (arith, l, below)))
    at_place j h (no z) = get_or-set_other p i j (get_or s i 0) 0 z ∙ C.same j (omega (arith, h, z))

pub copy_all : (i : ℕ) (s p : List ℕ) → continuations_at ≤ i → CopiedTo i s p → Copied s p
copy_all i s p h C j l = C.same j (let b = C.low in omega (arith, h, l))
