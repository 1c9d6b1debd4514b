-- The search for the lowest pair, thread by thread.
use Rattle.std.proofs.Common.{◌≡◌, ap, ℕ, suc, ◌+◌, ◌-◌, ◌<◌, List, Option, Some, arith}
use Rattle.spec.specs.Choice.{when◌then◌else◌}
use Rattle.replay_engine.specs.declared.races.Access.{Access}
use Rattle.replay_engine.specs.Races.{access_of, clash, partner_of, partner_from, pair_with, pair_of}

one_less : (n j : ℕ) → j < n → n - j ≡ suc (n - (j + 1))
one_less n j l = omega (arith, l)

pub partner_turn : (p s : List ℕ) (a : Option Access) (j count : ℕ) → j < count →
    partner_of p s a j (count - j) ≡ (when clash a (access_of p s j) then Some j else partner_of p s a (j + 1) (count - (j + 1)))
unfolding partner_of
partner_turn p s a j count l = ap (partner_of p s a j) (one_less count j l)

pub pair_turn : (p s : List ℕ) (count i : ℕ) → i < count →
    pair_of p s count i (count - i) ≡ pair_with i (partner_from p s (access_of p s i) (i + 1) count) (pair_of p s count (i + 1) (count - (i + 1)))
unfolding pair_of
pair_turn p s count i l = ap (pair_of p s count i) (one_less count i l)
