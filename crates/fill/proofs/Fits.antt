-- Whether posts fit into maps.
use mathlib.Core.Path.{◌≡◌, refl, sym, ◌∙◌}
use mathlib.Core.Bool.{Bool, true, false}
use mathlib.Core.List.{List}
use mathlib.Core.Logic.{◌↔◌}
use Prim.Native.Nat.{ℕ, ◌<◌, ◌≤◌}
use native.Mathlib.Omega.{arith}
use native.Mathlib.Decide.{dec_lt}
use lib.ListN.{length, get_or, get_or-eq_default}
use Rattle.std.specs.Bool.{IsTrue}
use Rattle.std.specs.List.{EachIndex}
use Rattle.fill_theory.specs.Answer.{number_limit, map_at_most}
use Rattle.fill_theory.proofs.Limits.{at_most_at, at_at_most, map_at_most_lem}

-- a post that fits is at most the limit
pub fits_each : (posts : List ℕ) → map_at_most number_limit posts ≡ true → (i : ℕ) → i < length posts → get_or posts i 0 ≤ 1000000000
unfolding number_limit
fits_each posts h i l = at_most_at posts ((map_at_most_lem 1000000000 posts).0 h) i

-- and posts that are at most the limit fit
pub each_fits : (posts : List ℕ) (b : Bool) → (IsTrue b ↔ EachIndex posts (λ i. get_or posts i 0 ≤ 1000000000)) → b ≡ map_at_most number_limit posts
unfolding number_limit
each_fits posts b h = go b (map_at_most 1000000000 posts) refl h
  where
    everywhere : EachIndex posts (λ i. get_or posts i 0 ≤ 1000000000) → (i : ℕ) → Dec (i < length posts) → get_or posts i 0 ≤ 1000000000
    everywhere h i (yes l) = h i l
    everywhere h i (no l) = rw (get_or-eq_default posts 0 {n = i} (omega (arith, l))) (omega arith)

    go : (b b' : Bool) → map_at_most 1000000000 posts ≡ b' → (IsTrue b ↔ EachIndex posts (λ i. get_or posts i 0 ≤ 1000000000)) → b ≡ b'
    go true b' e h = sym ((map_at_most_lem 1000000000 posts).1 (at_at_most posts (λ i. everywhere (h.0 refl) i (dec_lt i (length posts))))) ∙ e
    go false true e h = h.1 (fits_each posts e)
    go false false e h = refl
