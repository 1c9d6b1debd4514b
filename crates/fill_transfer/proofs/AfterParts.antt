-- A number that is there if a test holds.
use mathlib.Core.Path.{◌≡◌, refl}
use mathlib.Core.Bool.{Bool, true, false}
use Rattle.std.proofs.Common.{Some}
use Rattle.std.specs.Bool.{then_some}
use Prim.Native.Nat.{ℕ}
use Rattle.fill_theory.specs.Found.{◌>>=◌, require}

pub if_met : (b : Bool) (x : ℕ) → then_some b x ≡ (require b >>= λ met. Some x)
unfolding ◌>>=◌ require
if_met true x = refl
if_met false x = refl
