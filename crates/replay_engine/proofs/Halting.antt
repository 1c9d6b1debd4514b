-- A join that finds no thread leaves the threads as they were.
use Rattle.std.proofs.Common.{Option, None, Some, Result, Err, ok_or}
use Prim.Native.Nat.{ℕ}
use mathlib.Core.Path.{◌≡◌, sym, ◌∙◌, ap}
use mathlib.Core.List.{List}
use native.Mathlib.Omega.{arith}
use Rattle.threads.specs.declared.Threads.{Threads}
use Rattle.replay_control.specs.declared.ControlPoint.{ControlPoint}
use Rattle.replay_step.specs.declared.words.Halt.TheVariants.{Stuck}
use Rattle.replay_engine.specs.declared.Halted.{Halted}
use Rattle.replay_engine.specs.Steps.{halted, joined_by}

pub not_joined : (o : Option ℕ) (p s : List ℕ) (T : Threads) (t : ℕ) (f : ControlPoint) {h x : Halted} → ok_or o h ≡ Err x → Err h ≡ halted Stuck T → joined_by o p s T t f ≡ (Err x, s)
unfolding joined_by
not_joined None p s T t f {h} {x} e z = ap (λ (r : Result Threads Halted). (r, s)) (sym z) ∙ ap (λ (y : Halted). (Err y, s)) (let q : h ≡ x = cc in q)
not_joined (Some i) p s T t f e z = absurd (let y : ◌≡◌ {A = ℕ} 0 1 = cc in omega arith)
