-- The variables of a row are cleared, one at a time.
use Rattle.std.proofs.Common.{◌≡◌, ap, ℕ, suc, ◌+◌, ◌*◌, ◌-◌, ◌<◌, List, set, arith}
use Rattle.replay_control.specs.Layout.{environments_at}
use Rattle.replay_step.specs.Calls.{row_cleared_from}

pub cleared_more : (s : List ℕ) (r x : ℕ) → x < 256 → row_cleared_from s r x (256 - x) ≡ row_cleared_from (set s (environments_at + 256 * r + x) 0) r (x + 1) (256 - (x + 1))
unfolding row_cleared_from
cleared_more s r x h = let e : 256 - x ≡ suc (256 - (x + 1)) = omega (arith, h) in ap (row_cleared_from s r x) e
