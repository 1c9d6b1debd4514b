-- The measure is the number of steps from step k on: a part stands behind its step. Each return and each call's requirement is a law of
-- Bounding.antt.
use Prim.Native.Nat.{◌-◌}
use Rattle.fill_pass.proofs.upper_bounds.+upper_bound_step.Given as goal

abbrev pub decreases-upper_bound_step : goal.decreases-upper_bound_step
decreases-upper_bound_step l = 256 - l.k
