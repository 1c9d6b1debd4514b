-- The record of a thread is the same in the run and on the machine.
use Rattle.std.proofs.Common.{Option, None, Some, option_map, slice_get}
use Prim.Native.Nat.{ℕ, zero, suc, ◌≤◌, ◌<◌}
use mathlib.Core.Path.{◌≡◌, refl, sym, ◌∙◌, ap}
use mathlib.Core.Bool.{Bool, true, false}
use mathlib.Core.List.{List, [], ◌∷◌}
use native.Mathlib.Omega.{arith}
use lib.Dec.{ltb}
use lib.ListN.{length}
use borrow.Author.Tests.{lt-ltb, le-ltb}
use Rattle.spec.specs.Choice.{when◌then◌else◌}
use Rattle.calculus.specs.State.{Thread}
use Rattle.calculus.specs.Reduction.{◌>>=◌}
use Rattle.calculus.proofs.Laws.Maps.{some_injective, none_is_not_some, some_is_not_none}
use Rattle.replay_theory.specs.Run.{place_of, record_for, record_of}
use Rattle.replay_theory.specs.declared.Status.TheVariants.{Running, Finished}
use Rattle.replay_machine.specs.Control.{Control, done, at}
use Rattle.replay_machine.specs.State.{MachineThread, decode_thread, live}
use Rattle.replay_machine.specs.Step.{is_done}
use Rattle.replay_machine.specs.Replay.{Replay, status_of}
use Rattle.replay_machine.proofs.Places.{LiveAt, live_at}
use Rattle.replay_machine.proofs.Books.{numbers_from, run_of, place_of_live, no_place, finished_decoded}

present_is_below : {A : Type 0} (xs : List A) (i : ℕ) (x : A) → slice_get xs i ≡ Some x → i < length xs
present_is_below [] i x h = none_is_not_some h
present_is_below (y ∷ xs) zero x h = omega arith
present_is_below (y ∷ xs) (suc i) x h = let below = present_is_below xs i x h in omega (arith, below)

absent_is_above : {A : Type 0} (xs : List A) (i : ℕ) → slice_get xs i ≡ None → length xs ≤ i
absent_is_above [] i h = omega arith
absent_is_above (y ∷ xs) zero h = some_is_not_none h
absent_is_above (y ∷ xs) (suc i) h = let above = absent_is_above xs i h in omega (arith, above)

module _ (R : Replay) (i : ℕ) where
  abbrev ts : List MachineThread
  ts = R.machine.threads

  abbrev found : Option ℕ → Option Thread
  found o = o >>= slice_get (live ts)

  status_of_live : (b : Control) → (when is_done b then Finished else Running) ≡ status_of false b
  status_of_live (done v) = refl
  status_of_live (at σ w K) = refl

  absent : ((t : MachineThread) → slice_get ts i ≡ Some t → t.joined ≡ true) → record_of (run_of R) i ≡ record_for (ltb i (length ts)) None
  unfolding record_of
  absent h = ap (λ (o : Option ℕ). record_for (ltb i (length ts)) (found o)) (ap (λ (n : ℕ). place_of n (numbers_from 0 ts)) (omega arith) ∙ no_place ts 0 i h)

  present : (t : MachineThread) → LiveAt ts i t → record_of (run_of R) i ≡ Some (status_of false t.control)
  unfolding record_of record_for
  present t h =
      ap (λ (o : Option ℕ). record_for (ltb i (length ts)) (found o)) (ap (λ (n : ℕ). place_of n (numbers_from 0 ts)) (omega arith) ∙ place_of_live ts 0 i t h)
      ∙ ap (record_for (ltb i (length ts))) (live_at (λ n u. decode_thread u) ts 0 i t h)
      ∙ ap (λ (b : Bool). Some (when b then Finished else Running)) (finished_decoded t.control)
      ∙ ap Some (status_of_live t.control)

  pub record_alike : record_of (run_of R) i ≡ option_map (λ t. status_of t.joined t.control) (slice_get ts i)
  unfolding record_for
  record_alike = by_cases (slice_get ts i) refl
    where
      by_joined : (t : MachineThread) (b : Bool) → slice_get ts i ≡ Some t → t.joined ≡ b → record_of (run_of R) i ≡ Some (status_of b t.control)
      by_joined t true e j =
          absent (λ u z. ap (λ (x : MachineThread). x.joined) (some_injective (sym z ∙ e)) ∙ j)
          ∙ ap (λ (b : Bool). record_for b None) (lt-ltb i (length ts) (present_is_below ts i t e))
      by_joined t false e j = present t (record { there = e; not_joined = j })

      by_cases : (o : Option MachineThread) → slice_get ts i ≡ o → record_of (run_of R) i ≡ option_map (λ t. status_of t.joined t.control) o
      by_cases None e =
          absent (λ t z. none_is_not_some (sym e ∙ z)) ∙ ap (λ (b : Bool). record_for b None) (le-ltb i (length ts) (absent_is_above ts i e))
      by_cases (Some t) e = by_joined t t.joined e refl
