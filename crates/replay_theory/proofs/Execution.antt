-- The runs on the way of a trace: each is proper, each is a state of a run of the calculus, and the report's race is the first of theirs.
use Rattle.std.proofs.Common.{Option, None, Some, slice_get}
use Prim.Native.Nat.{ℕ, zero, suc, ◌+◌, ◌<◌}
use mathlib.Core.Path.{◌≡◌, refl, sym, ◌∙◌, ap, subst}
use mathlib.Core.Bool.{Bool, true, false}
use mathlib.Core.List.{List, [], ◌∷◌}
use native.Mathlib.Omega.{arith}
use Rattle.spec.specs.Choice.{when◌then◌else◌}
use Rattle.spec.specs.Text.{Line}
use Rattle.calculus.specs.Expression.{Procedure}
use Rattle.calculus.specs.State.{State, Move}
use Rattle.calculus.specs.Reduction.{or_else, attempt, states}
use Rattle.calculus.specs.Claim.{Every}
use Rattle.calculus.proofs.Laws.Maps.{some_injective}
use Rattle.replay_theory.specs.Trace.{TraceLine, trace_line}
use Rattle.replay_theory.specs.Run.{Run, move_of, stepped, within}
use Rattle.replay_theory.specs.LowestPair.{lowest_pair}
use Rattle.replay_theory.specs.Replay.{past_limit, step, check_limits, line_outcome, continue, execution, race_or, first_race}
use Rattle.replay_theory.specs.declared.Ending.{Ending}
use Rattle.replay_theory.specs.declared.Ending.TheVariants.{TraceForm, NoStep, PastLimit}
use Rattle.replay_theory.specs.declared.Race.{Race}
use Rattle.replay_theory.proofs.Proper.{Proper, step_taken, state_after, procedures_after, step_keeps_proper}

-- ---- A line

-- What the lines from l on come to: they stop at once, for one of three reasons, or l is a step.
pub data Goes (k : ℕ) (r : Run) (l : Line) (rest : Run → List Run × Ending) : List Run × Ending → Type 0 where
  is_no_line : trace_line l ≡ None → Goes k r l rest ([], TraceForm k)
  is_no_step : (t : TraceLine) → trace_line l ≡ Some t → stepped r t ≡ None → Goes k r l rest ([], NoStep k)
  is_past_limit : (t : TraceLine) (r' : Run) → trace_line l ≡ Some t → stepped r t ≡ Some r' → within r' ≡ false → Goes k r l rest ([], PastLimit k)
  is_step : (t : TraceLine) (r' : Run) → trace_line l ≡ Some t → stepped r t ≡ Some r' → within r' ≡ true →
      Goes k r l rest (r' ∷ (rest r').0, (rest r').1)

pub line_goes : (k : ℕ) (r : Run) (l : Line) (rest : Run → List Run × Ending) → Goes k r l rest (continue k (line_outcome (stepped r) within (trace_line l)) rest)
unfolding continue line_outcome check_limits
line_goes k r l rest = by_line_lem (trace_line l) refl
  where
    by_limit : (t : TraceLine) (r' : Run) (b : Bool) → trace_line l ≡ Some t → stepped r t ≡ Some r' → within r' ≡ b →
        Goes k r l rest (continue k (when b then step r' else past_limit) rest)
    by_limit t r' true q e w = is_step t r' q e w
    by_limit t r' false q e w = is_past_limit t r' q e w

    by_step : (t : TraceLine) (o : Option Run) → trace_line l ≡ Some t → stepped r t ≡ o → Goes k r l rest (continue k (check_limits within o) rest)
    by_step t None q e = is_no_step t q e
    by_step t (Some r') q e = by_limit t r' (within r') q e refl

    by_line_lem : (o : Option TraceLine) → trace_line l ≡ o → Goes k r l rest (continue k (line_outcome (stepped r) within o) rest)
    by_line_lem None q = is_no_line q
    by_line_lem (Some t) q = by_step t (stepped r t) q refl

-- ---- What every step keeps, every run on the way has

module _ (P : Run → Type 0) (keeps : (r r' : Run) (l : TraceLine) → P r → stepped r l ≡ Some r' → P r') where
  pub every_on_the_way : (ls : List Line) (k : ℕ) (r : Run) → P r → Every P (execution k r ls).0
  unfolding execution
  every_on_the_way [] k r h = tt
  every_on_the_way (l ∷ ls) k r h = by_line_lem _ (line_goes k r l (λ r'. execution (k + 1) r' ls)) (every_on_the_way ls (k + 1))
    where
      by_line_lem : (w : List Run × Ending) → Goes k r l (λ r'. execution (k + 1) r' ls) w → ((r' : Run) → P r' → Every P (execution (k + 1) r' ls).0) → Every P w.0
      by_line_lem w (is_no_line q) later = tt
      by_line_lem w (is_no_step t q e) later = tt
      by_line_lem w (is_past_limit t r' q e b) later = tt
      by_line_lem w (is_step t r' q e b) later = let h' = keeps r r' t h e in (h', later r' h')

pub execution_is_proper : (ls : List Line) (k : ℕ) (r : Run) → Proper r → Every Proper (execution k r ls).0
execution_is_proper ls k r proper = every_on_the_way Proper step_keeps_proper ls k r proper

-- ---- Every run on the way is one of the calculus

-- Q holds in every state on the way from s, along every list of moves, with the procedures ps.
abbrev pub OnTheWay : (State → Type 0) → List Procedure → State → Type 0
OnTheWay Q ps s = (ms : List Move) → Every Q (states ps ms s)

-- So it does from the state of a run on.
abbrev pub FromHere : (State → Type 0) → Run → Type 0
FromHere Q r = OnTheWay Q r.procedures r.state

step_is_attempt : (r r' : Run) (l : TraceLine) → stepped r l ≡ Some r' → (m : Move) × (attempt r.procedures r.state m ≡ r'.state)
unfolding attempt
step_is_attempt r r' l q =
    let S = step_taken r r' l q in (move_of r S.place S.word S.part, ap (λ (o : Option State). or_else o r.state) S.reduces ∙ state_after S)

on_the_way_keeps : (Q : State → Type 0) (r r' : Run) (l : TraceLine) → FromHere Q r → stepped r l ≡ Some r' → FromHere Q r'
unfolding states
on_the_way_keeps Q r r' l h q =
    let (m, e) = step_is_attempt r r' l q in
    subst (λ (ps : List Procedure). OnTheWay Q ps r'.state) (sym (procedures_after (step_taken r r' l q)))
    (λ ms. subst (λ (s : State). Every Q (states r.procedures ms s)) e (h (m ∷ ms)).1)

pub execution_is_in_runs : (Q : State → Type 0) (ls : List Line) (k : ℕ) (r : Run) → FromHere Q r → Every (FromHere Q) (execution k r ls).0
execution_is_in_runs Q ls k r h = every_on_the_way (FromHere Q) (on_the_way_keeps Q) ls k r h

-- ---- The first race

-- The race is that of the first run with a pair, counted from k, and of its lowest pair.
pub record FirstPair (k : ℕ) (rs : List Run) (race : Race) : Type 0 where
  pub index : ℕ
  pub run : Run
  pub counted : race.state ≡ k + index
  pub there : slice_get rs index ≡ Some run
  pub pair : lowest_pair run ≡ Some (race.lower, race.other)
  pub before : (m : ℕ) (r : Run) → m < index → slice_get rs m ≡ Some r → lowest_pair r ≡ None

none_is_not_found : {A : Type 0} {race : Race} → None ≡ Some race → A
none_is_not_found h = let z : ◌≡◌ {A = ℕ} 0 1 = cc in absurd (omega (arith, z))

pub race_is_first : (rs : List Run) (k : ℕ) (race : Race) → first_race k rs ≡ Some race → FirstPair k rs race
unfolding first_race race_or
race_is_first [] k race h = none_is_not_found h
race_is_first (r ∷ rs) k race h = by_cases (lowest_pair r) refl h (race_is_first rs (k + 1) race)
  where
    by_cases : (o : Option (ℕ × ℕ)) → lowest_pair r ≡ o → race_or k o (first_race (k + 1) rs) ≡ Some race →
        (first_race (k + 1) rs ≡ Some race → FirstPair (k + 1) rs race) → FirstPair k (r ∷ rs) race
    by_cases (Some (a, b)) e q later =
        let same = some_injective q in
        let at_k = ap (λ (x : Race). x.state) same in
        record {
          index = 0;
          run = r;
          counted = omega (arith, at_k);
          there = refl;
          pair = e ∙ ap (λ (x : Race). Some (x.lower, x.other)) same;
          before = λ m x l there. absurd (omega (arith, l));
        }
    by_cases None e q later =
        let F = later q in
        let at_n = F.counted in
        record { index = suc F.index; run = F.run; counted = omega (arith, at_n); there = F.there; pair = F.pair; before = before F }
      where
        before : (F : FirstPair (k + 1) rs race) (m : ℕ) (x : Run) → m < suc F.index → slice_get (r ∷ rs) m ≡ Some x → lowest_pair x ≡ None
        before F zero x l there = ap lowest_pair (sym (some_injective there)) ∙ e
        before F (suc m) x l there = F.before m x (omega (arith, l)) there

pub no_race_is_none : (rs : List Run) (k : ℕ) → first_race k rs ≡ None → Every (λ r. lowest_pair r ≡ None) rs
unfolding first_race race_or
no_race_is_none [] k h = tt
no_race_is_none (r ∷ rs) k h = by_cases (lowest_pair r) refl h (no_race_is_none rs (k + 1))
  where
    by_cases : (o : Option (ℕ × ℕ)) → lowest_pair r ≡ o → race_or k o (first_race (k + 1) rs) ≡ None →
        (first_race (k + 1) rs ≡ None → Every (λ x. lowest_pair x ≡ None) rs) →
        (lowest_pair r ≡ None) × Every (λ x. lowest_pair x ≡ None) rs
    by_cases None e q later = (e, later q)
    by_cases (Some p) e q later = none_is_not_found (sym q)

pub none_is_no_race : (rs : List Run) (k : ℕ) → Every (λ r. lowest_pair r ≡ None) rs → first_race k rs ≡ None
unfolding first_race race_or
none_is_no_race [] k h = refl
none_is_no_race (r ∷ rs) k h = ap (λ (o : Option (ℕ × ℕ)). race_or k o (first_race (k + 1) rs)) h.0 ∙ none_is_no_race rs (k + 1) h.1
