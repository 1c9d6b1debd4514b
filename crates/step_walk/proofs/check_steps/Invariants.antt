-- The loop's invariant: what is left of the walk over the steps gives the outcome of the whole, and so far only maps before
-- steps are changed.
use Rattle.std.proofs.Common.{◌≡◌, ℕ, ◌+◌, ◌-◌, List, length}
use Rattle.workspace.specs.Layout.{pres_at, work_size}
use Rattle.workspace.specs.Region.{ChangedWithin}
use Rattle.step_walk.specs.Walk.{put_pre, walk}
use Rattle.spec.specs.declared.MapNumber.{MapNumber}
use Rattle.step_walk.specs.declared.Judging.{Judging}
use Rattle.step_walk.proofs.check_steps.Given as goal

-- the steps from k₀ up to k are walked through, from w₀ to w; pre is the map before the first
pub record Walking (how : Judging) (to : ℕ) (w₀ : List ℕ) (k₀ : ℕ) (pre : MapNumber) (w : List ℕ) (k : ℕ) : Type 0 where
  pub long : length w ≡ work_size
  pub changed : ChangedWithin pres_at (pres_at + 256) w₀ w
  pub rest : walk how (put_pre w₀ k₀ pre) k₀ (to - k₀) ≡ walk how w k (to - k)

abbrev pub invariant-loop-k : goal.invariant-loop-k
invariant-loop-k l = Walking l.how l.to l.fn.work l.from l.fn.pre l.work l.k
