-- The measure is the number of steps from step k on: a part stands behind its step. Each return is a law of Passing.antt, each call's
-- requirement one of Readiness.antt.
use Prim.Native.Nat.{◌-◌}
use Rattle.fill_pass.proofs.posts.+pass_step.Given as goal

abbrev pub decreases-pass_step : goal.decreases-pass_step
decreases-pass_step l = 256 - l.k
