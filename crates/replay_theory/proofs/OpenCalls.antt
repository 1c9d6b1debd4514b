-- The calls that a run keeps for a thread are those that the claim finds open along its steps.
use Rattle.std.proofs.Common.{Option, None, Some, slice_get}
use Prim.Native.Nat.{ℕ, suc}
use mathlib.Core.Path.{◌≡◌, refl, sym, ◌∙◌, ap}
use mathlib.Core.Bool.{Bool, true, false, ◌&&◌}
use mathlib.Core.List.{List, [], ◌∷◌, ◌++◌, append_assoc, append-nil}
use native.Mathlib.Omega.{arith}
use lib.Dec.{eqb}
use lib.ListN.{length}
use Rattle.spec.specs.Choice.{when◌then◌else◌}
use Rattle.spec.proofs.Tests.{and_true}
use Rattle.calculus.specs.State.{Thread}
use Rattle.calculus.specs.Reduction.{◌>>=◌}
use Rattle.replay_theory.specs.Trace.{TraceLine}
use Rattle.replay_theory.specs.Paths.{Path, next_path, part_at}
use Rattle.replay_theory.specs.Run.{Run, place_of, move_of, is_open, still_open, effect, numbers_after, calls_after, after}
use Rattle.replay_theory.specs.Claim.{Reduced, part_in, open_through, takes_call, open_calls_of}
use Rattle.replay_theory.proofs.Proper.{Proper, Stepped}
use Rattle.replay_theory.proofs.Complete.{reduced}
use Rattle.replay_theory.proofs.ThreadCalls.{one_if, look_up, calls_for, open_for, placed, open_looked, is_call, after_looked}

-- ---- One step more

open_append : (o : Option Thread) (ps qs : List Path) → open_for o (ps ++ qs) ≡ open_for o ps ++ open_for o qs
unfolding open_for still_open
open_append None ps qs = refl
open_append (Some t) [] qs = refl
open_append (Some t) (p ∷ ps) qs = by_cases (is_open (part_at p t.body)) (open_append (Some t) ps qs)
  where
    by_cases : (b : Bool) → open_for (Some t) (ps ++ qs) ≡ open_for (Some t) ps ++ open_for (Some t) qs →
        (when b then (p ∷ open_for (Some t) (ps ++ qs)) else open_for (Some t) (ps ++ qs))
        ≡ (when b then (p ∷ open_for (Some t) ps) else open_for (Some t) ps) ++ open_for (Some t) qs
    by_cases true later = ap (λ (x : List Path). p ∷ x) later
    by_cases false later = later

open_one : (o : Option Thread) (b : Bool) (q : Path) → open_for o (one_if b q) ≡ one_if (b && is_open (o >>= λ t. part_at q t.body)) q
unfolding open_for still_open is_open
open_one None true q = refl
open_one None false q = refl
open_one (Some t) true q = refl
open_one (Some t) false q = refl

both_assoc : (a b c : Bool) → (a && (b && c)) ≡ ((a && b) && c)
both_assoc true b c = refl
both_assoc false b c = refl

module _ (r : Run) (d : Reduced) (i : ℕ) where
  abbrev now : Option Thread
  now = place_of i r.numbers >>= slice_get r.state.threads

  abbrev is_open_now : Path → Bool
  is_open_now q = is_open (part_in r i q)

  through_more : (rs : List Run) (q : Path) → open_through (rs ++ (r ∷ [])) i q ≡ (open_through rs i q && is_open_now q)
  unfolding open_through
  through_more [] q = and_true (is_open_now q)
  through_more (s ∷ rs) q =
      ap (λ (b : Bool). is_open (part_in s i q) && b) (through_more rs q) ∙ both_assoc (is_open (part_in s i q)) (open_through rs i q) (is_open_now q)

  -- What a step of thread i has opened, after one step more.
  goes_through : (e : Reduced) (rs : List Run) → one_if (takes_call i e && open_through (rs ++ (r ∷ [])) i e.path) e.path
      ≡ open_for now (one_if (takes_call i e && open_through rs i e.path) e.path)
  unfolding part_in
  goes_through e rs =
      ap (λ (b : Bool). one_if b e.path)
      (ap (λ (b : Bool). takes_call i e && b) (through_more rs e.path) ∙ both_assoc (takes_call i e) (open_through rs i e.path) (is_open_now e.path))
      ∙ sym (open_one now (takes_call i e && open_through rs i e.path) e.path)

  pub open_more : (ds : List Reduced) (rs : List Run) → length rs ≡ suc (length ds) →
      open_calls_of i (ds ++ (d ∷ [])) (rs ++ (r ∷ [])) ≡ open_for now (one_if (takes_call i d) d.path ++ open_calls_of i ds rs)
  unfolding open_calls_of open_through
  open_more [] [] h = absurd (omega (arith, h))
  open_more [] (s ∷ []) h =
      goes_through d []
      ∙ ap (open_for now) (ap (λ (b : Bool). one_if b d.path) (and_true (takes_call i d)) ∙ sym (append-nil (one_if (takes_call i d) d.path)))
  open_more [] (s ∷ s' ∷ rs) h = absurd (omega (arith, h))
  open_more (e ∷ ds) [] h = absurd (omega (arith, h))
  open_more (e ∷ ds) (s ∷ rs) h =
      (λ z. open_more ds rs (omega (arith, h)) z ++ goes_through e rs z)
      ∙ sym (open_append now (one_if (takes_call i d) d.path ++ open_calls_of i ds rs) (one_if (takes_call i e && open_through rs i e.path) e.path))
      ∙ ap (open_for now) (append_assoc (one_if (takes_call i d) d.path) (open_calls_of i ds rs) _)

-- ---- A step

pub step_keeps_open : {r r' : Run} {l : TraceLine} (S : Stepped r l r') → Proper r → (ds : List Reduced) (rs : List Run) → length rs ≡ suc (length ds) →
    (i : ℕ) → calls_for i r.numbers r.calls ≡ open_calls_of i ds rs →
    calls_for i r'.numbers r'.calls ≡ open_calls_of i (ds ++ (reduced S ∷ [])) (rs ++ (r' ∷ []))
unfolding after move_of takes_call is_call part_in
step_keeps_open {r} {r'} {l} S proper ds rs counted i before =
    let m = move_of r S.place S.word S.part in
    let q = next_path S.thread.body in
    let e = effect S.word in
    let ts = S.state.threads in
    sym (ap (λ (z : Run). calls_for i z.numbers z.calls) S.is_after)
    ∙ open_looked i (numbers_after r m e) ts (calls_after m q e r.calls)
    ∙ after_looked r proper m l.thread S.there q i ts e
    ∙ ap (open_for (look_up i (numbers_after r m e) ts)) (ap (λ (ps : List Path). one_if (is_call e (eqb i l.thread)) q ++ ps) before)
    ∙ ap (λ (o : Option Thread). open_for o (one_if (is_call e (eqb i l.thread)) q ++ open_calls_of i ds rs))
    (sym (placed i (numbers_after r m e) ts) ∙ ap (λ (z : Run). place_of i z.numbers >>= slice_get z.state.threads) S.is_after)
    ∙ sym (open_more r' (reduced S) i ds rs counted)
