-- Where no thread is about to write, no two race.
use Prim.Native.Nat.{ℕ, zero, suc, ◌+◌, ◌-◌, ◌<◌}
use Rattle.std.proofs.Common.{Option, None, Some}
use mathlib.Core.Path.{◌≡◌, refl, sym, ap}
use mathlib.Core.Bool.{Bool, true, false}
use mathlib.Core.List.{List}
use native.Mathlib.Omega.{arith}
use Rattle.spec.specs.Choice.{when◌then◌else◌}
use Rattle.replay_engine.specs.Races.{access_of, writes, is_write, clash, any_writes, partner_of, partner_from, pair_with, pair_of, lowest_pair}
use Rattle.replay_engine.specs.declared.races.Access.{Access}
use Rattle.replay_engine.specs.declared.races.Access.TheVariants.{Read, Write}

no_clash : (a b : Option Access) → is_write a ≡ false → is_write b ≡ false → clash a b ≡ false
unfolding clash is_write writes
no_clash None b ha hb = refl
no_clash (Some (Read v)) None ha hb = refl
no_clash (Some (Read v)) (Some (Read u)) ha hb = refl
no_clash (Some (Read v)) (Some (Write u)) ha hb = absurd (let y : ◌≡◌ {A = ℕ} 0 1 = cc in omega arith)
no_clash (Some (Write v)) b ha hb = absurd (let y : ◌≡◌ {A = ℕ} 0 1 = cc in omega arith)

module _ (p s : List ℕ) where
  -- the first of those threads, and the others
  record FirstAnd (j n : ℕ) : Type 0 where
    here : is_write (access_of p s j) ≡ false
    others : any_writes p s (j + 1) n ≡ false

  first_and : (j n : ℕ) → any_writes p s j (suc n) ≡ false → FirstAnd j n
  unfolding any_writes
  first_and j n e = by_first (is_write (access_of p s j)) refl e
    where
      by_first : (b : Bool) → is_write (access_of p s j) ≡ b → ◌≡◌ {A = Bool} (when b then true else any_writes p s (j + 1) n) false → FirstAnd j n
      by_first true h e = absurd (let y : ◌≡◌ {A = ℕ} 0 1 = cc in omega arith)
      by_first false h e = record { here = h; others = e }

  no_partner : (a : Option Access) → is_write a ≡ false → (j n : ℕ) → any_writes p s j n ≡ false → partner_of p s a j n ≡ None
  unfolding partner_of
  no_partner a h j zero e = refl
  no_partner a h j (suc n) e =
      let w = first_and j n e in
      rw (no_clash a (access_of p s j) h w.here) (no_partner a h (j + 1) n w.others)

  no_pair : (count i n : ℕ) → i + n ≡ count → any_writes p s i n ≡ false → pair_of p s count i n ≡ None
  unfolding pair_of pair_with partner_from
  no_pair count i zero l e = refl
  no_pair count i (suc n) l e =
      let w = first_and i n e in
      let left : count - (i + 1) ≡ n = omega (arith, l) in
      rw (left, no_partner (access_of p s i) w.here (i + 1) n w.others) (no_pair count (i + 1) n (omega (arith, l)) w.others)

  pub none_writes : (count : ℕ) → any_writes p s 0 count ≡ false → None ≡ lowest_pair p s count
  unfolding lowest_pair
  none_writes count e = sym (no_pair count 0 count (omega arith) e)

-- ------------------------------------------------------------------ thread by thread

pub writes_turn : (p s : List ℕ) (j count : ℕ) → j < count →
    any_writes p s j (count - j) ≡ (when is_write (access_of p s j) then true else any_writes p s (j + 1) (count - (j + 1)))
unfolding any_writes
writes_turn p s j count l = let e : count - j ≡ suc (count - (j + 1)) = omega (arith, l) in ap (any_writes p s j) e
