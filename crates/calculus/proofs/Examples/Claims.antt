-- How a program is shown not to be safe: by one state that it can reach.
use mathlib.Core.List.{List}
use Rattle.calculus.specs.Expression.{Program}
use Rattle.calculus.specs.State.{Move}
use Rattle.calculus.specs.Reduction.{run, start_state}
use Rattle.calculus.specs.Claim.{Race, HaltsWell, Safe}
use Rattle.calculus.proofs.Laws.Runs.{last_is_on_the_way}

pub race_is_not_safe : (p : Program) (ms : List Move) → Race (run p.procedures ms (start_state p)) → ¬ Safe p
race_is_not_safe p ms r safe = (last_is_on_the_way p.procedures _ ms (start_state p) (safe ms)).0 r

pub odd_halt_is_not_safe : (p : Program) (ms : List Move) → ¬ HaltsWell p.procedures (run p.procedures ms (start_state p)) → ¬ Safe p
odd_halt_is_not_safe p ms h safe = h (last_is_on_the_way p.procedures _ ms (start_state p) (safe ms)).1
