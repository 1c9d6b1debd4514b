-- The pass of a root, once the most that each of its steps may leave is stored: its greatest posts.
use Rattle.std.proofs.Common.{Option}
use mathlib.Core.Path.{◌≡◌, ap, subst}
use mathlib.Core.List.{List}
use Prim.Native.Nat.{ℕ}
use native.Mathlib.Omega.{arith}
use Rattle.fill_theory.specs.Flow.{Flow, steps}
use Rattle.fill_theory.specs.Pass.{weight, greatest_posts}
use Rattle.fill_theory.proofs.Greatest.{any_top}
use Rattle.fill_transfer.specs.declared.Column.{Column}
use Rattle.fill_transfer.specs.Shows.{Shows}
use Rattle.fill_transfer.specs.Bounds.{top}
use Rattle.fill_pass.specs.Bounds.{Capped}
use Rattle.fill_pass.specs.Passed.{Answers, Passed, RootReady, RootPassed}
use Rattle.fill_pass.proofs.Parts.{shows_same}
use Rattle.fill_pass.proofs.Room.{flow_light, light_enough}

module _ {w : List ℕ} {column : Column} {k pre : ℕ} (R : RootReady w column k pre) {m m' : List ℕ} {b : ℕ} (C : Capped w column k top m m' b) where
  pub root_passed : {q q' : List ℕ} {r : Option ℕ} → Passed w m' column k pre q q' r → RootPassed w column k pre q q' r
  root_passed {q' = q'} {r = r} A = record { answers = answers; changed = A.changed }
    where
      answers : (f : Flow) → Shows w column k f → Answers (greatest_posts pre f) k q' r
      answers f S =
          let counted : steps R.flow ≡ steps f = ap steps (shows_same f R.shown S) in
          let largest = light_enough pre (weight f) (steps f) R.small (flow_light w column R.fits k S) (omega (arith, R.inside)) in
          subst (λ o. Answers o k q' r) (any_top pre f top largest) (A.answers f top S (C.answers f S).1)
