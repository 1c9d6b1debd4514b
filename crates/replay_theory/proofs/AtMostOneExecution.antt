-- From the start of a program one list of runs follows a trace, once the names of new things are given.
use Rattle.std.proofs.Common.{Option, Some, slice_get}
use Prim.Native.Nat.{ℕ, zero, suc, ◌≤◌, ◌<◌}
use mathlib.Core.Path.{◌≡◌, refl, sym, ◌∙◌, ap, subst}
use mathlib.Core.Bool.{false}
use mathlib.Core.List.{List, [], ◌∷◌, ◌++◌}
use native.Mathlib.Decide.{dec_lt}
use native.Mathlib.Omega.{arith}
use lib.Dec.{eqb}
use lib.ListN.{take}
use Rattle.spec.specs.Text.{Line}
use Rattle.calculus.specs.Expression.{Program}
use Rattle.calculus.proofs.Laws.Maps.{some_injective, none_is_not_some}
use Rattle.replay_theory.specs.Trace.{TraceLine, trace_line}
use Rattle.replay_theory.specs.Run.{ObjectKind, Run, start_run, Effect, plain, spawns, joins, opens, makes, effect}
use Rattle.replay_theory.specs.Claim.{Reduced, LanguageStep, Within, StepDone, Stops, all_done, not_aline, cannot_step, too_many, Follows}
use Rattle.replay_theory.specs.Exact.{Alike, SameNames, OneExecution}
use Rattle.replay_theory.specs.declared.Numbers.{Numbers}
use Rattle.replay_theory.proofs.Lists.{there_below, first_of, one_more_of, all_of}
use Rattle.replay_theory.proofs.Effects.{effect_number, another}
use Rattle.replay_theory.proofs.Proper.{Rising, start_is_proper}
use Rattle.replay_theory.proofs.AtMostOneStep.{rising_apart, step_rises, one_reduced, one_after}
use Rattle.replay_theory.proofs.AtMostOneEnd.{no_step_beside, same_line, not_a_line, stepping, same_end}
use Rattle.replay_theory.proofs.SameCalls.{AllAlike, alike_first, alike_more, within_alike, made_within}

-- It makes nothing.
abbrev Other : Effect → Type 0
Other e = (k : ObjectKind) → eqb (effect_number e) (effect_number (makes k)) ≡ false

module _ (p : Program) {rs ss : List Run} {ls : List Line} {m n : ℕ} {a b : Numbers} (begins : slice_get rs 0 ≡ Some (start_run p))
    (begins' : slice_get ss 0 ≡ Some (start_run p)) (F : Follows rs ls m a) (G : Follows ss ls n b) (named : SameNames F G) where
  -- ---- As far as both go

  one_read : (k : ℕ) (i : k < m) (j : k < n) → (F.each k i).read ≡ (G.each k j).read
  one_read k i j =
      let D = F.each k i in
      let E = G.each k j in
      let line = some_injective (sym D.line_there ∙ E.line_there) in
      same_line D.line D.shown (ap trace_line line ∙ E.shown)

  so_far : (k : ℕ) → k ≤ m → k ≤ n → (r s : Run) → slice_get rs k ≡ Some r → slice_get ss k ≡ Some s → Alike r s × Rising 0 r.numbers r.threads
  so_far zero i j r s h h' =
      let first : start_run p ≡ r = some_injective (sym begins ∙ h) in
      let second : start_run p ≡ s = some_injective (sym begins' ∙ h') in
      let one : r ≡ s = sym first ∙ second in (
        record {
          procedures = ap (λ (x : Run). x.procedures) one;
          state = ap (λ (x : Run). x.state) one;
          numbers = ap (λ (x : Run). x.numbers) one;
          threads = ap (λ (x : Run). x.threads) one;
        },
        subst (λ (x : Run). Rising 0 x.numbers x.threads) first (start_is_proper p).rising,
      )
  so_far (suc k) i j r s h h' =
      let D = F.each k i in
      let E = G.each k j in
      let (alike, rising) = so_far k (omega arith) (omega arith) D.before E.before D.before_there E.before_there in
      let here : D.after ≡ r = some_injective (sym D.after_there ∙ h) in
      let there : E.after ≡ s = some_injective (sym E.after_there ∙ h') in
      let after = one_after alike (one_read k i j) D.step E.step (rising_apart 0 D.before.threads D.before.numbers rising) (named k i j) in (
        subst (λ (x : Run). Alike x s) here (subst (Alike D.after) there after),
        subst (λ (x : Run). Rising 0 x.numbers x.threads) here (step_rises D.step rising),
      )

  one_step : (k : ℕ) (i : k < m) (j : k < n) → (F.each k i).reduced ≡ (G.each k j).reduced
  one_step k i j =
      let D = F.each k i in
      let E = G.each k j in
      one_reduced (so_far k (omega arith) (omega arith) D.before E.before D.before_there E.before_there).0 (one_read k i j) D.step E.step

  steps_there : (k : ℕ) → k < m → k < n → slice_get F.reduced k ≡ slice_get G.reduced k
  steps_there k i j = (F.each k i).reduced_there ∙ ap Some (one_step k i j) ∙ sym (G.each k j).reduced_there

  -- ---- Where the one stops, the other does

  module _ (on : m < n) where
    goes : StepDone ss ls G.reduced m
    goes = G.each m on

    last_alike : Alike F.last goes.before × Rising 0 F.last.numbers F.last.threads
    last_alike = so_far m (omega arith) (omega arith) F.last goes.before F.last_there goes.before_there

    module _ (l : TraceLine) (read : l ≡ goes.read) (d : Reduced) (r : Run) (A : LanguageStep F.last l d r) where
      reduced_alike : F.reduced ++ (d ∷ []) ≡ take (suc m) G.reduced
      reduced_alike =
          let counted = F.reduced_counted in
          let before = first_of F.reduced G.reduced m (omega (arith, counted)) (λ k b. steps_there k b (omega (arith, b, on))) in
          (λ z. before z ++ (one_reduced last_alike.0 read A goes.step z ∷ [])) ∙ sym (one_more_of G.reduced m goes.reduced_there)

      passed : Within (take (suc (suc m)) ss) (take (suc m) G.reduced)
      passed = G.within (suc m) (omega (arith, on))

      runs_alike : AllAlike rs (take (suc m) ss)
      runs_alike =
          let counted = F.runs_counted in
          let counted' = G.runs_counted in
          alike_first rs ss (suc m) (omega (arith, counted)) (omega (arith, counted', on))
          (λ k x y c h h'. (so_far k (omega (arith, c)) (omega (arith, c, on)) x y h h').0)

      within_before : Within rs F.reduced
      within_before =
          let counted = F.runs_counted in
          let counted' = F.reduced_counted in
          subst (Within rs) (all_of F.reduced m (omega (arith, counted')))
          (subst (λ (xs : List Run). Within xs (take m F.reduced)) (all_of rs (suc m) (omega (arith, counted))) (F.within m (omega arith)))

      after_alike : (e : Effect) → Other e → effect d.word ≡ e → Alike r goes.after
      after_alike e other is =
          one_after last_alike.0 read A goes.step (rising_apart 0 F.last.threads F.last.numbers last_alike.1)
          (λ k h. another e (makes k) (other k) (sym is ∙ h))

      plainly : (e : Effect) → Other e → effect d.word ≡ e → Within (rs ++ (r ∷ [])) (F.reduced ++ (d ∷ []))
      plainly e other is =
          within_alike (rs ++ (r ∷ [])) (take (suc (suc m)) ss) (F.reduced ++ (d ∷ [])) (take (suc m) G.reduced)
          (subst (AllAlike (rs ++ (r ∷ []))) (sym (one_more_of ss (suc m) goes.after_there))
          (alike_more rs (take (suc m) ss) runs_alike (after_alike e other is))) reduced_alike passed

      -- The step passes no limit, since the other passes none with it.
      within_too : (e : Effect) → effect d.word ≡ e → Within (rs ++ (r ∷ [])) (F.reduced ++ (d ∷ []))
      within_too plain is = plainly plain (λ k. refl) is
      within_too spawns is = plainly spawns (λ k. refl) is
      within_too joins is = plainly joins (λ k. refl) is
      within_too opens is = plainly opens (λ k. refl) is
      within_too (makes k) is =
          let counted = F.runs_counted in
          let counted' = F.reduced_counted in
          made_within rs r F.reduced (take (suc m) G.reduced) d k (take (suc (suc m)) ss) is (omega (arith, counted, counted')) reduced_alike within_before
          passed

    stops_not : {o : Option Line} {k : ℕ} {c : Numbers} → Stops rs F.reduced F.last o k c → o ≡ Some goes.line → ⊥
    stops_not all_done there = none_is_not_some there
    stops_not (not_aline l q) there = not_a_line l q (ap trace_line (some_injective there) ∙ goes.shown)
    stops_not (cannot_step l t q none_goes) there =
        no_step_beside last_alike.0 none_goes (stepping (same_line l (ap trace_line (some_injective there) ∙ goes.shown) q) goes.step)
    stops_not (too_many l t d r q A past) there =
        past (within_too t (same_line l q (ap trace_line (some_injective there) ∙ goes.shown)) d r A (effect d.word) refl)

    pub no_further : ⊥
    no_further = stops_not F.stops goes.line_there

-- ---- The whole way

names_back : (p : Program) {rs ss : List Run} {ls : List Line} {m n : ℕ} {a b : Numbers} → slice_get rs 0 ≡ Some (start_run p) → slice_get ss 0 ≡ Some (start_run p) →
    (F : Follows rs ls m a) (G : Follows ss ls n b) → SameNames F G → SameNames G F
names_back p begins begins' F G named k i j thing is =
    sym (named k j i thing (ap (λ (d : Reduced). effect d.word) (one_step p begins begins' F G named k j i) ∙ is))

pub one_execution : OneExecution
one_execution p rs ss ls m n a b begins begins' F G named = record {
  steps = steps;
  answer = same_end F G steps (so_far p begins begins' F G named m (omega arith) (omega (arith, steps)) F.last G.last F.last_there
      (ap (slice_get ss) steps ∙ G.last_there)).0;
  reduced =
      let counted = F.reduced_counted in
      let counted' = G.reduced_counted in
      first_of F.reduced G.reduced m (omega (arith, counted)) (λ k c. steps_there p begins begins' F G named k c (omega (arith, c, steps)))
      ∙ all_of G.reduced m (omega (arith, counted', steps));
  counted = let counted = F.runs_counted in let counted' = G.runs_counted in omega (arith, counted, counted', steps);
  runs = λ k r s h h'.
      let below = there_below rs k h in
      let counted = F.runs_counted in
      (so_far p begins begins' F G named k (omega (arith, below, counted)) (omega (arith, below, counted, steps)) r s h h').0;
}
  where
    by_order : Dec (m < n) → Dec (n < m) → m ≡ n
    by_order (yes c) d = absurd (no_further p begins begins' F G named c)
    by_order (no c) (yes d) = absurd (no_further p begins' begins G F (names_back p begins begins' F G named) d)
    by_order (no c) (no d) = omega (arith, c, d)

    steps : m ≡ n
    steps = by_order (dec_lt m n) (dec_lt n m)
