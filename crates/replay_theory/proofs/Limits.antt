-- What the books of a run count is what its steps have done, so `within` asks what the claim asks.
use Prim.Native.Nat.{ℕ, suc, ◌+◌, ◌≤◌}
use mathlib.Core.Path.{◌≡◌, refl, sym, ◌∙◌, ap, subst}
use mathlib.Core.Bool.{true, false}
use mathlib.Core.List.{List, [], ◌∷◌, ◌++◌}
use native.Mathlib.Omega.{arith}
use lib.Dec.{eqb, leb}
use lib.ListN.{length}
use borrow.Author.Tests.{leb-true, le-leb}
use Rattle.spec.proofs.Clashes.{true_is_not_false}
use Rattle.spec.proofs.Tests.{both_true}
use Rattle.calculus.specs.Expression.{choose, Program}
use Rattle.calculus.specs.Reduction.{start_state}
use Rattle.replay_theory.specs.Trace.{TraceLine}
use Rattle.replay_theory.specs.Paths.{Path}
use Rattle.replay_theory.specs.Run.{ObjectKind, cells, locks, rwlocks, semaphores, identifiers, same_kind, Run, start_run, Effect, spawns, makes, same_effect, effect, one_more_if, things_after, after, thread_limit, thing_limit, within_limits, call_limit, calls_within, within}
use Rattle.replay_theory.specs.Claim.{Reduced, open_calls_of, how_many, Within}
use Rattle.replay_theory.proofs.Proper.{Proper, Stepped}
use Rattle.replay_theory.proofs.Complete.{reduced}
use Rattle.replay_theory.proofs.Lists.{length_append}
use Rattle.replay_theory.proofs.ThreadCalls.{calls_for, none_either_way, few_for_each, few_in_all}
use Rattle.replay_theory.proofs.OpenCalls.{step_keeps_open}

-- ---- One step more

one_more_adds : (c e : Effect) (n : ℕ) → one_more_if c e n ≡ n + one_more_if c e 0
unfolding one_more_if
one_more_adds c e n = by_cases (same_effect same_kind e c)
  where
    by_cases : (same : Dec (e ≡ c)) → choose same (suc n) n ≡ n + choose same 1 0
    by_cases (yes p) = omega arith
    by_cases (no p) = omega arith

how_many_more : (e : Effect) (ds : List Reduced) (d : Reduced) → how_many e (ds ++ (d ∷ [])) ≡ how_many e ds + one_more_if e (effect d.word) 0
unfolding how_many
how_many_more e [] d = omega arith
how_many_more e (c ∷ ds) d =
    let later = how_many_more e ds d in
    let with_last = one_more_adds e (effect c.word) (how_many e (ds ++ (d ∷ []))) in
    let without = one_more_adds e (effect c.word) (how_many e ds) in
    omega (arith, later, with_last, without)

-- ---- The books of a run

-- The runs so far are rs, by the steps ds, and the last is r.
pub record Booked (rs : List Run) (ds : List Reduced) (r : Run) : Type 0 where
  pub counted : length rs ≡ suc (length ds)
  pub threads : r.threads ≡ 1 + how_many spawns ds
  pub things : (k : ObjectKind) → r.things k ≡ how_many (makes k) ds
  pub calls : (i : ℕ) → calls_for i r.numbers r.calls ≡ open_calls_of i ds rs

pub start_booked : (p : Program) → Booked (start_run p ∷ []) [] (start_run p)
unfolding start_run start_state how_many open_calls_of calls_for
start_booked p = record { counted = refl; threads = refl; things = λ k. refl; calls = λ i. none_either_way (eqb i 0) }

pub step_booked : {r r' : Run} {l : TraceLine} (rs : List Run) (ds : List Reduced) (S : Stepped r l r') → Proper r → Booked rs ds r →
    Booked (rs ++ (r' ∷ [])) (ds ++ (reduced S ∷ [])) r'
unfolding after things_after
step_booked {r} {r'} rs ds S proper B = record {
  counted = length_append rs r' ∙ ap suc B.counted ∙ ap suc (sym (length_append ds (reduced S)));
  threads =
      let more = one_more_adds spawns (effect S.word) r.threads in
      let now_many = how_many_more spawns ds (reduced S) in
      let before = B.threads in
      sym (ap (λ (z : Run). z.threads) S.is_after) ∙ omega (arith, more, now_many, before);
  things = λ k.
      let more = one_more_adds (makes k) (effect S.word) (r.things k) in
      let now_many = how_many_more (makes k) ds (reduced S) in
      let before = B.things k in
      sym (ap (λ (z : Run). z.things k) S.is_after) ∙ omega (arith, more, now_many, before);
  calls = λ i. step_keeps_open S proper ds rs B.counted i (B.calls i);
}

-- ---- Limits

abbrev Few : (ObjectKind → ℕ) → ObjectKind → Type 0
Few things k = leb (things k) thing_limit ≡ true

kinds_sound : (things : ObjectKind → ℕ) → Few things cells → Few things locks → Few things rwlocks → Few things semaphores → Few things identifiers →
    (k : ObjectKind) → Few things k
kinds_sound things a b c d e cells = a
kinds_sound things a b c d e locks = b
kinds_sound things a b c d e rwlocks = c
kinds_sound things a b c d e semaphores = d
kinds_sound things a b c d e identifiers = e

limits_sound : (threads : ℕ) (things : ObjectKind → ℕ) → within_limits threads things ≡ true → (leb threads thread_limit ≡ true) × ((k : ObjectKind) → Few things k)
unfolding within_limits
limits_sound threads things h =
    let (h₁, e) = both_true _ (leb (things identifiers) thing_limit) h in
    let (h₂, d) = both_true _ (leb (things semaphores) thing_limit) h₁ in
    let (h₃, c) = both_true _ (leb (things rwlocks) thing_limit) h₂ in
    let (h₄, b) = both_true _ (leb (things locks) thing_limit) h₃ in
    let (t, a) = both_true (leb threads thread_limit) (leb (things cells) thing_limit) h₄ in
    (t, kinds_sound things a b c d e)

limits_hold : (threads : ℕ) (things : ObjectKind → ℕ) → leb threads thread_limit ≡ true → ((k : ObjectKind) → Few things k) → within_limits threads things ≡ true
unfolding within_limits
limits_hold threads things t few = rw (t, few cells, few locks, few rwlocks, few semaphores, few identifiers) refl

module _ (rs : List Run) (ds : List Reduced) (r : Run) (B : Booked rs ds r) where
  pub within_complete : within r ≡ true → Within rs ds
  unfolding within
  within_complete h =
      let (limits, calls) = both_true (within_limits r.threads r.things) (calls_within r.calls) h in
      let (t, few) = limits_sound r.threads r.things limits in
      record {
        threads = subst (λ n. n ≤ thread_limit) B.threads (leb-true _ _ t);
        things = λ k. subst (λ n. n ≤ thing_limit) (B.things k) (leb-true _ _ (few k));
        calls = λ i. subst (λ (ps : List Path). length ps ≤ call_limit) (B.calls i) (few_for_each r.numbers r.calls calls i);
      }

  pub past_complete : Proper r → within r ≡ false → ¬ Within rs ds
  unfolding within
  past_complete proper h W =
      let limits = limits_hold r.threads r.things (le-leb _ _ (subst (λ n. n ≤ thread_limit) (sym B.threads) W.threads))
      (λ k. le-leb _ _ (subst (λ n. n ≤ thing_limit) (sym (B.things k)) (W.things k))) in
      let calls = few_in_all 0 r.threads r.numbers r.calls proper.rising (proper.counted ∙ sym proper.all_called)
      (λ i. subst (λ (ps : List Path). length ps ≤ call_limit) (sym (B.calls i)) (W.calls i)) in
      true_is_not_false (sym (rw (limits, calls) refl) ∙ h)
