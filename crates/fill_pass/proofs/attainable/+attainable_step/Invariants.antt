-- The measure is the number of steps from step k on: a part stands behind its step. Each return is a law of Bounding.antt, each call's
-- requirement one of Readiness.antt.
use Prim.Native.Nat.{◌-◌}
use Rattle.fill_pass.proofs.attainable.+attainable_step.Given as goal

abbrev pub decreases-attainable_step : goal.decreases-attainable_step
decreases-attainable_step l = 256 - l.k
