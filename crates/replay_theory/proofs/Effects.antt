-- Two different effects are never the same.
use Prim.Native.Nat.{ℕ}
use mathlib.Core.Path.{◌≡◌, sym, ◌∙◌, ap}
use mathlib.Core.Bool.{false}
use lib.Dec.{eqb}
use borrow.Author.Tests.{eq-eqb}
use Rattle.spec.proofs.Clashes.{true_is_not_false}
use Rattle.replay_theory.specs.Run.{Effect, plain, spawns, joins, opens, makes}

abbrev pub effect_number : Effect → ℕ
effect_number plain = 0
effect_number spawns = 1
effect_number joins = 2
effect_number opens = 3
effect_number (makes k) = 4

pub another : {A : Type 0} (e f : Effect) → eqb (effect_number e) (effect_number f) ≡ false → e ≡ f → A
another e f differ is = true_is_not_false (sym (eq-eqb (effect_number e) (effect_number f) (ap effect_number is)) ∙ differ)
