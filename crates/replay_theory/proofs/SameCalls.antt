-- Runs that are alike have the same calls open, and a step that makes something opens none; so their limits are one.
use Rattle.std.proofs.Common.{Option, None, Some, slice_get}
use Prim.Native.Nat.{ℕ, zero, suc, ◌≤◌, ◌<◌}
use mathlib.Core.Path.{◌≡◌, refl, sym, ◌∙◌, ap, subst}
use mathlib.Core.Bool.{Bool, true, false, ◌&&◌}
use mathlib.Core.List.{List, [], ◌∷◌, ◌++◌}
use native.Mathlib.Omega.{arith}
use lib.Dec.{eqb}
use lib.ListN.{length, take}
use Rattle.spec.specs.Choice.{when◌then◌else◌}
use Rattle.calculus.specs.Expression.{choose}
use Rattle.calculus.specs.State.{Thread}
use Rattle.calculus.specs.Reduction.{◌>>=◌}
use Rattle.replay_theory.specs.Paths.{Path, part_at}
use Rattle.replay_theory.specs.Run.{ObjectKind, same_kind, Run, place_of, is_open, still_open, opens, makes, same_effect, effect, call_limit}
use Rattle.replay_theory.specs.Claim.{Reduced, part_in, open_through, takes_call, open_calls_of, Within}
use Rattle.replay_theory.specs.Exact.{Alike}
use Rattle.replay_theory.proofs.Effects.{another}
use Rattle.replay_theory.proofs.ThreadCalls.{one_if, open_for}
use Rattle.replay_theory.proofs.OpenCalls.{open_more}

-- ---- Runs that are alike have the same calls open

abbrev pub AllAlike : List Run → List Run → Type 0
AllAlike [] [] = Unit {0}
AllAlike [] (s ∷ ss) = ⊥
AllAlike (r ∷ rs) [] = ⊥
AllAlike (r ∷ rs) (s ∷ ss) = Alike r s × AllAlike rs ss

-- A list of m runs that are like the first of another.
pub alike_first : (rs ss : List Run) (m : ℕ) → length rs ≡ m → m ≤ length ss →
    ((k : ℕ) (r s : Run) → k < m → slice_get rs k ≡ Some r → slice_get ss k ≡ Some s → Alike r s) → AllAlike rs (take m ss)
alike_first [] ss zero h b same = tt
alike_first [] ss (suc m) h b same = absurd (omega (arith, h))
alike_first (r ∷ rs) ss zero h b same = absurd (omega (arith, h))
alike_first (r ∷ rs) [] (suc m) h b same = absurd (omega (arith, b))
alike_first (r ∷ rs) (s ∷ ss) (suc m) h b same =
    (same 0 r s (omega arith) refl refl, alike_first rs ss m (omega (arith, h)) (omega (arith, b)) (λ k x y c. same (suc k) x y (omega (arith, c))))

pub alike_more : {r s : Run} (rs ss : List Run) → AllAlike rs ss → Alike r s → AllAlike (rs ++ (r ∷ [])) (ss ++ (s ∷ []))
alike_more [] [] all E = (E, tt)
alike_more [] (s ∷ ss) all E = absurd all
alike_more (r ∷ rs) [] all E = absurd all
alike_more (r ∷ rs) (s ∷ ss) all E = (all.0, alike_more rs ss all.1 E)

module _ (i : ℕ) where
  through_alike : (rs ss : List Run) (q : Path) → AllAlike rs ss → open_through rs i q ≡ open_through ss i q
  unfolding open_through part_in
  through_alike [] [] q all = refl
  through_alike [] (s ∷ ss) q all = absurd all
  through_alike (r ∷ rs) [] q all = absurd all
  through_alike (r ∷ rs) (s ∷ ss) q (E, all) =
      λ z. is_open ((place_of i (E.numbers z) >>= slice_get (E.state z).threads) >>= λ t. part_at q t.body) && through_alike rs ss q all z

  open_alike : (ds : List Reduced) (rs ss : List Run) → AllAlike rs ss → open_calls_of i ds rs ≡ open_calls_of i ds ss
  unfolding open_calls_of
  open_alike [] rs ss all = refl
  open_alike (d ∷ ds) [] [] all = refl
  open_alike (d ∷ ds) [] (s ∷ ss) all = absurd all
  open_alike (d ∷ ds) (r ∷ rs) [] all = absurd all
  open_alike (d ∷ ds) (r ∷ rs) (s ∷ ss) (E, all) =
      λ z. open_alike ds rs ss all z ++ one_if (takes_call i d && through_alike rs ss d.path all z) d.path

pub within_alike : (rs ss : List Run) (ds es : List Reduced) → AllAlike rs ss → ds ≡ es → Within ss es → Within rs ds
within_alike rs ss ds es all same W =
    let W' = subst (Within ss) (sym same) W in
    record {
      threads = W'.threads;
      things = W'.things;
      calls = λ i. subst (λ (ps : List Path). length ps ≤ call_limit) (sym (open_alike i ds rs ss all)) (W'.calls i);
    }

-- ---- A step that makes something opens no call

fewer : (o : Option Thread) (ps : List Path) → length (open_for o ps) ≤ length ps
unfolding open_for still_open
fewer None ps = omega arith
fewer (Some t) [] = omega arith
fewer (Some t) (q ∷ ps) = by_cases (is_open (part_at q t.body)) (fewer (Some t) ps)
  where
    by_cases : (b : Bool) → length (open_for (Some t) ps) ≤ length ps →
        length (when b then (q ∷ open_for (Some t) ps) else open_for (Some t) ps) ≤ suc (length ps)
    by_cases true later = omega (arith, later)
    by_cases false later = omega (arith, later)

no_call : (i : ℕ) (d : Reduced) (k : ObjectKind) → effect d.word ≡ makes k → takes_call i d ≡ false
unfolding takes_call
no_call i d k is = by_cases (same_effect same_kind (effect d.word) opens)
  where
    by_cases : (same : Dec (effect d.word ≡ opens)) → choose same (eqb i d.thread) false ≡ false
    by_cases (yes p) = another (makes k) opens refl (sym is ∙ p)
    by_cases (no p) = refl

pub made_within : (rs : List Run) (r : Run) (ds es : List Reduced) (d : Reduced) (k : ObjectKind) (ss : List Run) → effect d.word ≡ makes k →
    length rs ≡ suc (length ds) → ds ++ (d ∷ []) ≡ es → Within rs ds → Within ss es → Within (rs ++ (r ∷ [])) (ds ++ (d ∷ []))
made_within rs r ds es d k ss is counted same before W =
    let W' = subst (Within ss) (sym same) W in
    record { threads = W'.threads; things = W'.things; calls = calls }
  where
    calls : (i : ℕ) → length (open_calls_of i (ds ++ (d ∷ [])) (rs ++ (r ∷ []))) ≤ call_limit
    calls i =
        let now = place_of i r.numbers >>= slice_get r.state.threads in
        let left = open_more r d i ds rs counted ∙ ap (λ (b : Bool). open_for now (one_if b d.path ++ open_calls_of i ds rs)) (no_call i d k is) in
        let few = fewer now (open_calls_of i ds rs) in
        let limit = before.calls i in
        subst (λ (ps : List Path). length ps ≤ call_limit) (sym left) (omega (arith, few, limit))
