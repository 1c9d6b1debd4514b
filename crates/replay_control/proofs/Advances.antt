-- The loop that finds the next word, turn by turn.
use Prim.Native.Nat.{ℕ, zero, suc, ◌+◌, ◌-◌, ◌<◌, ◌≤◌}
use mathlib.Core.Path.{◌≡◌, refl, ◌∙◌, ap}
use mathlib.Core.Bool.{true, false}
use mathlib.Core.List.{List}
use native.Mathlib.Omega.{arith}
use Rattle.replay_control.specs.declared.ControlPoint.{ControlPoint}
use Rattle.replay_control.specs.Modes.{on_its_way}
use Rattle.replay_control.specs.Control.{advanced, advanced_space, found}

module _ (p s : List ℕ) (f : ControlPoint) where
  -- the word is found
  pub found_stop : (n : ℕ) → on_its_way f.mode ≡ false → found n p s f ≡ (f, s)
  unfolding found
  found_stop zero h = refl
  found_stop (suc n) h = rw h

  -- one advance more
  pub found_advance : (n : ℕ) → on_its_way f.mode ≡ true → found (suc n) p s f ≡ found n p (advanced_space p s f) (advanced p s f)
  unfolding found
  found_advance n h = rw h

  pub found_more : (m i : ℕ) → i < m → on_its_way f.mode ≡ true → found (m - i) p s f ≡ found (m - (i + 1)) p (advanced_space p s f) (advanced p s f)
  found_more m i l h = let e : m - i ≡ suc (m - (i + 1)) = omega (arith, l) in ap (λ (n : ℕ). found n p s f) e ∙ found_advance (m - (i + 1)) h

  pub found_end : (m i : ℕ) → m ≤ i → found (m - i) p s f ≡ (f, s)
  unfolding found
  found_end m i h = let e : m - i ≡ 0 = omega (arith, h) in ap (λ (n : ℕ). found n p s f) e
