-- The copy of the variables, one at a time.
use Rattle.std.proofs.Common.{◌≡◌, ap, ℕ, suc, ◌+◌, ◌*◌, ◌-◌, ◌<◌, List, set, arith}
use Rattle.replay_control.specs.Layout.{environments_at}
use Rattle.replay_control.specs.Control.{variable}
use Rattle.replay_engine.specs.Steps.{copied_from}

pub copied_more : (s : List ℕ) (a b x : ℕ) → x < 256 → copied_from s a b x (256 - x) ≡ copied_from (set s (environments_at + 256 * b + x) (variable s a x)) a b (x + 1) (256 - (x + 1))
unfolding copied_from
copied_more s a b x h = let e : 256 - x ≡ suc (256 - (x + 1)) = omega (arith, h) in ap (copied_from s a b x) e
