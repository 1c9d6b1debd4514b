-- A line's numbers are stored in 32 bits: one that does not fit names no thread, and no part of an `if`, as stored or not.
use Rattle.std.proofs.Common.{Option, None, Some, slice_get}
use Prim.Native.Nat.{ℕ, zero, suc, ◌<◌, ◌≤◌}
use mathlib.Core.Path.{◌≡◌, refl, sym, ◌∙◌, ap, subst}
use mathlib.Core.Bool.{Bool, true, false}
use mathlib.Core.List.{List, [], ◌∷◌}
use native.Mathlib.Omega.{arith}
use borrow.Author.Tests.{leb-false}
use lib.Dec.{leb}
use lib.ListN.{length}
use Rattle.spec.specs.Choice.{when◌then◌else◌}
use Rattle.calculus.specs.Expression.{Redex, let_redex, if_redex, while_redex, spawn_redex, write_redex, unary_redex, nullary_redex}
use Rattle.calculus.specs.State.{Part}
use Rattle.calculus.specs.Reduction.{◌>>=◌}
use Rattle.lexer.specs.Numbers.{stored}
use Rattle.threads.specs.declared.Threads.{Threads}
use Rattle.replay_engine.specs.Steps as engine
use Rattle.replay_theory.specs.Trace.{TraceLine}
use Rattle.replay_theory.specs.Run.{part_of_if, no_choice, traits, part_chosen, effect, things_after}
use Rattle.replay_theory.proofs.Traits.{unary_plain}
use Rattle.replay_theory.specs.Replay.{check_limits}
use Rattle.replay_machine.specs.Step.{step}
use Rattle.replay_machine.specs.Replay.{Replay, word_of, stepped, within}
use Rattle.replay_simulation.proofs.Holds.{Holds}
use Rattle.replay_simulation.proofs.Moving.{Answered}
use Rattle.replay_simulation.proofs.Stepping.{step_simulated}
use Rattle.replay_simulation.proofs.Posting.{CountsWithin, counts_roomy}

abbrev recorded_line : (thread choice : ℕ) → TraceLine
recorded_line t c = record { thread = t; choice = c }

-- itself, or the largest number
stored_cases : {A : Type 0} (f : ℕ → A) (n : ℕ) → (4294967295 < n → f 4294967295 ≡ f n) → f (stored n) ≡ f n
unfolding stored
stored_cases {A} f n past = by_size (leb n 4294967295) refl
  where
    by_size : (b : Bool) → leb n 4294967295 ≡ b → f (when b then n else 4294967295) ≡ f n
    by_size true e = refl
    by_size false e = past (let l = leb-false n 4294967295 e in omega arith)

part_past : (w : Redex) (c : ℕ) → 1 < c → part_chosen w c ≡ None
unfolding part_of_if no_choice traits
part_past w zero l = absurd (omega arith)
part_past w (suc zero) l = absurd (omega arith)
part_past (let_redex x v e) (suc (suc c)) l = refl
part_past (if_redex e₁ e₂) (suc (suc c)) l = refl
part_past (while_redex e) (suc (suc c)) l = refl
part_past (spawn_redex v e) (suc (suc c)) l = refl
part_past (write_redex v w) (suc (suc c)) l = refl
part_past (unary_redex o v) (suc (suc c)) l = ap (λ (part : ℕ → Option Part). part (suc (suc c))) (unary_plain o v).0
part_past (nullary_redex o) (suc (suc c)) l = refl

part_stored : (w : Redex) (c : ℕ) → part_chosen w (stored c) ≡ part_chosen w c
part_stored w c = stored_cases (part_chosen w) c (λ l. part_past w 4294967295 (omega arith) ∙ sym (part_past w c (omega arith)))

place_past : {A : Type 0} (xs : List A) (i : ℕ) → length xs ≤ i → slice_get xs i ≡ None
place_past [] i l = refl
place_past (x ∷ xs) zero l = absurd (omega arith)
place_past (x ∷ xs) (suc i) l = place_past xs i (omega arith)

module _ (R : Replay) where
  -- a step by the part that each word takes
  abbrev stepped_by : (t : ℕ) → (Redex → Option Part) → Option Replay
  stepped_by t f =
      slice_get R.machine.threads t >>= λ th.
      word_of th.joined th >>= λ w.
      f w >>= λ c.
      step R.machine t c >>= λ M.
      Some (record { machine = M; things = things_after (effect w) R.things })

  choice_stored : (t c : ℕ) → stepped R (recorded_line t (stored c)) ≡ stepped R (recorded_line t c)
  unfolding stepped
  choice_stored t c = ap (stepped_by t) (λ i w. part_stored w c i)

  no_thread : (t c : ℕ) → length R.machine.threads ≤ t → stepped R (recorded_line t c) ≡ None
  unfolding stepped
  no_thread t c l = rw (place_past R.machine.threads t l)

  line_stored : (t c : ℕ) → length R.machine.threads ≤ 16 → stepped R (recorded_line (stored t) (stored c)) ≡ stepped R (recorded_line t c)
  line_stored t c few =
      choice_stored (stored t) c
      ∙ stored_cases (λ (i : ℕ). stepped R (recorded_line i c)) t (λ l. no_thread 4294967295 c (omega arith) ∙ sym (no_thread t c (omega arith)))

-- the numbers answer a line as they have stored it, if fewer steps were done than a count can hold
pub line_answered : (p s : List ℕ) (T : Threads) (R : Replay) (k : ℕ) → Holds p s T R → CountsWithin k R.machine.names → suc k < 18446744073709551616 → (l : TraceLine) →
    Answered p (check_limits within (stepped R l)) (engine.stepped p s T (stored l.thread) (stored l.choice))
line_answered p s T R k H counts low l =
    subst (λ (o : Option Replay). Answered p (check_limits within o) (engine.stepped p s T (stored l.thread) (stored l.choice)))
    (line_stored R l.thread l.choice H.sized.fits)
    (step_simulated p s T R H (counts_roomy k R.machine.names low counts) (stored l.thread) (stored l.choice))
