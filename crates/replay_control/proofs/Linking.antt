-- The loops that link the steps and join the bodies, turn by turn.
use Rattle.std.proofs.Common.{◌≡◌, ap, ℕ, suc, ◌+◌, ◌-◌, ◌<◌, List, arith}
use Rattle.replay_control.specs.Layout.{leave}
use Rattle.replay_control.specs.Control.{first_of}
use Rattle.replay_control.specs.Continuations.{joined, linked_step, linked_from, bodies_joined}

pub linked_more : (p : List ℕ) (k n : ℕ) → k < n → linked_from p k (n - k) ≡ linked_from (linked_step p k) (k + 1) (n - (k + 1))
unfolding linked_from
linked_more p k n l = let e : n - k ≡ suc (n - (k + 1)) = omega (arith, l) in ap (linked_from p k) e

pub bodies_more : (p : List ℕ) (f n : ℕ) → f < n → bodies_joined p f (n - f) ≡ bodies_joined (joined p (first_of p f) leave) (f + 1) (n - (f + 1))
unfolding bodies_joined
bodies_more p f n l = let e : n - f ≡ suc (n - (f + 1)) = omega (arith, l) in ap (bodies_joined p f) e
