-- What a thread does next, the body of each of its open calls does, in all runs that follow a trace from the start of a program.
-- Run by run: a step moves one thread. Its open calls go on in what it becomes, a call that it takes begins where it stood, the other threads
-- keep theirs, and a new one has none.
use Rattle.std.proofs.Common.{Option, None, Some, option_map, slice_get}
use Prim.Native.Nat.{ℕ, zero, suc, ◌≤◌}
use mathlib.Core.Path.{◌≡◌, refl, sym, ◌∙◌, ap, subst}
use mathlib.Core.Bool.{Bool, true, false, not}
use mathlib.Core.List.{List, [], ◌∷◌, ◌++◌}
use native.Mathlib.Omega.{arith}
use lib.Dec.{eqb}
use lib.ListN.{set, take}
use lib.Seq.{length-take-le}
use borrow.Author.Tests.{eqb-true, eq-eqb}
use Rattle.spec.specs.Choice.{when◌then◌else◌}
use Rattle.spec.specs.Text.{Line}
use Rattle.spec.proofs.Clashes.{true_is_not_false}
use Rattle.calculus.specs.Expression.{Exp, Redex, at_word, next_word, plug, Program}
use Rattle.calculus.specs.State.{Thread, State, Move, remove}
use Rattle.calculus.specs.Reduction.{◌>>=◌}
use Rattle.calculus.specs.Claim.{Every}
use Rattle.calculus.proofs.Laws.Maps.{some_injective, none_is_not_some}
use Rattle.calculus.proofs.Laws.Places.{set_elsewhere}
use Rattle.replay_theory.specs.Trace.{TraceLine}
use Rattle.replay_theory.specs.Paths.{Path, next_path, part_at}
use Rattle.replay_theory.specs.Run.{Run, start_run, place_of, has_finished, is_open, still_open, Effect, plain, spawns, joins, opens, makes, entries_after, numbers_after}
use Rattle.replay_theory.specs.Claim.{Reduced, LanguageStep, takes_call, open_calls_of, Follows}
use Rattle.replay_theory.specs.Exact.{RunsAt, OpenCallsRun}
use Rattle.replay_theory.specs.declared.Numbers.{Numbers}
use Rattle.replay_theory.proofs.Lists.{set_here, every_to, there_below, one_more_of}
use Rattle.replay_theory.proofs.Changes.{moved_to, Changed, goes, called, made, spawned, joined, reduct_changes}
use Rattle.replay_theory.proofs.Proper.{Rising, start_is_proper}
use Rattle.replay_theory.proofs.Calls.{body_is_there, body_goes_on, body_begins}
use Rattle.replay_theory.proofs.ThreadCalls.{one_if, look_up, open_for, placed, looked_at, left_looked, is_call}
use Rattle.replay_theory.proofs.OpenCalls.{open_more}
use Rattle.replay_theory.proofs.AtMostOneStep.{step_rises, word_reduces}

-- It runs at the path, if it is open there.
abbrev MayRun : Exp → Path → Type 0
MayRun e q = is_open (part_at q e) ≡ true → RunsAt e q

-- ---- One expression

is_going : (o : Option Exp) (d : Exp) → o ≡ Some d → is_open o ≡ true → has_finished (next_word d) ≡ false
unfolding is_open
is_going o d is opened = by_cases (has_finished (next_word d)) (sym (ap is_open is) ∙ opened)
  where
    by_cases : (b : Bool) → not b ≡ true → b ≡ false
    by_cases true h = sym h
    by_cases false h = refl

goes_on_may : (e b : Exp) (w : Redex) → next_word e ≡ at_word w → (q : Path) → RunsAt e q → MayRun (plug e b) q
goes_on_may e b w next q (d, R) opened =
    let (there, again) = body_goes_on b e q d w next R in (plug d b, again (is_going (part_at q (plug e b)) (plug d b) there opened))

begins_may : (e b : Exp) (w : Redex) → next_word e ≡ at_word w → MayRun (plug e b) (next_path e)
begins_may e b w next opened =
    (b, body_begins b e w next (is_going (part_at (next_path e) (plug e b)) b (body_is_there b e w next) opened))

open_run : (e : Exp) (ps : List Path) → Every (MayRun e) ps → Every (RunsAt e) (still_open e ps)
unfolding still_open
open_run e [] may = tt
open_run e (q ∷ ps) may = by_cases (is_open (part_at q e)) refl (open_run e ps may.1)
  where
    by_cases : (b : Bool) → is_open (part_at q e) ≡ b → Every (RunsAt e) (still_open e ps) → Every (RunsAt e) (when b then (q ∷ still_open e ps) else still_open e ps)
    by_cases true is later = (may.0 is, later)
    by_cases false is later = later

-- ---- One thread, if it is there

-- The open calls of a thread run; one that is not there has none.
abbrev RunIn : Option Thread → List Path → Type 0
RunIn None ps = ps ≡ []
RunIn (Some t) ps = Every (RunsAt t.body) ps

abbrev MayRunIn : Option Thread → List Path → Type 0
MayRunIn None ps = ps ≡ []
MayRunIn (Some t) ps = Every (MayRun t.body) ps

none_run : (o : Option Thread) (ps : List Path) → ps ≡ [] → MayRunIn o ps
none_run None ps empty = empty
none_run (Some t) ps empty = subst (Every (MayRun t.body)) (sym empty) tt

still_may : (o : Option Thread) (ps : List Path) → RunIn o ps → MayRunIn o ps
still_may None ps run = run
still_may (Some t) ps run = every_to ps (λ q R opened. R) run

open_runs : (o : Option Thread) (ps : List Path) → MayRunIn o ps → RunIn o (open_for o ps)
unfolding open_for
open_runs None ps may = refl
open_runs (Some t) ps may = open_run t.body ps may

-- ---- One thread among all

number_there : (i p : ℕ) (ns : List ℕ) → place_of i ns ≡ Some p → slice_get ns p ≡ Some i
unfolding place_of
number_there i p [] h = none_is_not_some h
number_there i p (n ∷ ns) h = by_cases (eqb i n) refl h (λ k. number_there i k ns)
  where
    later_place : (o : Option ℕ) → place_of i ns ≡ o → option_map suc o ≡ Some p → ((k : ℕ) → place_of i ns ≡ Some k → slice_get ns k ≡ Some i) →
        slice_get (n ∷ ns) p ≡ Some i
    later_place None is z later = none_is_not_some z
    later_place (Some k) is z later = ap (slice_get (n ∷ ns)) (sym (some_injective z)) ∙ later k is

    by_cases : (b : Bool) → eqb i n ≡ b → (when b then Some 0 else option_map suc (place_of i ns)) ≡ Some p →
        ((k : ℕ) → place_of i ns ≡ Some k → slice_get ns k ≡ Some i) → slice_get (n ∷ ns) p ≡ Some i
    by_cases true is z later = ap (slice_get (n ∷ ns)) (sym (some_injective z)) ∙ ap Some (sym (eqb-true i n is))
    by_cases false is z later = later_place (place_of i ns) refl z later

-- Another thread stands elsewhere.
others_stay : {A : Type 0} (i j p : ℕ) (ns : List ℕ) (xs : List A) (x : A) → place_of j ns ≡ Some p → eqb i j ≡ false →
    look_up i ns (set xs p x) ≡ look_up i ns xs
others_stay i j p ns xs x there differ = sym (placed i ns (set xs p x)) ∙ by_cases (place_of i ns) refl ∙ placed i ns xs
  where
    by_cases : (o : Option ℕ) → place_of i ns ≡ o → (o >>= slice_get (set xs p x)) ≡ (o >>= slice_get xs)
    by_cases None is = refl
    by_cases (Some k) is = set_elsewhere xs p k x (λ e. true_is_not_false
        (sym (eq-eqb i j (some_injective (sym (number_there i k ns is) ∙ ap (slice_get ns) (sym e) ∙ number_there j p ns there))) ∙ differ))

append_may : (i k : ℕ) (u : Thread) (ps : List Path) (ns : List ℕ) (ts : List Thread) → MayRunIn (look_up i ns ts) ps →
    MayRunIn (look_up i (ns ++ (k ∷ [])) (ts ++ (u ∷ []))) ps
unfolding look_up
append_may i k u ps [] ts may = none_run (look_up i (k ∷ []) (ts ++ (u ∷ []))) ps may
append_may i k u ps (n ∷ ns) [] may = none_run (look_up i (n ∷ (ns ++ (k ∷ []))) (u ∷ [])) ps may
append_may i k u ps (n ∷ ns) (t ∷ ts) may = by_cases (eqb i n) may (append_may i k u ps ns ts)
  where
    by_cases : (b : Bool) → MayRunIn (when b then Some t else look_up i ns ts) ps →
        (MayRunIn (look_up i ns ts) ps → MayRunIn (look_up i (ns ++ (k ∷ [])) (ts ++ (u ∷ []))) ps) →
        MayRunIn (when b then Some t else look_up i (ns ++ (k ∷ [])) (ts ++ (u ∷ []))) ps
    by_cases true here later = here
    by_cases false here later = later here

left_runs : (high i f : ℕ) (ns : List ℕ) (ts : List Thread) (ps : List Path) → Rising 0 ns high → MayRunIn (look_up i ns ts) ps →
    RunIn (look_up i (remove ns f) (remove ts f)) (open_for (look_up i (remove ns f) (remove ts f)) ps)
unfolding open_for
left_runs high i f ns ts ps rising may = by_cases (look_up i (remove ns f) (remove ts f)) refl
  where
    by_cases : (o : Option Thread) → look_up i (remove ns f) (remove ts f) ≡ o → RunIn o (open_for o ps)
    by_cases None is = refl
    by_cases (Some t) is =
        open_run t.body ps (subst (λ (o : Option Thread). MayRunIn o ps) (sym (left_looked 0 high i f ns (remove ts f) ts rising is) ∙ is) may)

-- ---- A step

-- Thread j, which is u, makes the move m, and its next word w stood at the path q; ps are the open calls of thread i before.
module _ (r : Run) (rising : Rising 0 r.numbers r.threads) (m : Move) (j : ℕ) (there : place_of j r.numbers ≡ Some m.thread) (u : Thread)
    (u_there : slice_get r.state.threads m.thread ≡ Some u) (w : Redex) (next : next_word u.body ≡ at_word w) (q : Path)
    (path : next_path u.body ≡ q) (i : ℕ) (ps : List Path) (run : RunIn (look_up i r.numbers r.state.threads) ps) where
  abbrev moved : Exp → List Thread
  moved b = set r.state.threads m.thread (moved_to u b)

  -- The calls that are open after the step, if their bodies are no values.
  abbrev looked : Effect → Bool → List Path
  looked e mine = one_if (is_call e mine) q ++ ps

  own_may : (e : Effect) (b : Exp) → Every (RunsAt u.body) ps → Every (MayRun (plug u.body b)) (looked e true)
  own_may e b own = by_cases (is_call e true)
    where
      kept : Every (MayRun (plug u.body b)) ps
      kept = every_to ps (goes_on_may u.body b w next) own

      by_cases : (c : Bool) → Every (MayRun (plug u.body b)) (one_if c q ++ ps)
      by_cases true = (subst (MayRun (plug u.body b)) path (begins_may u.body b w next), kept)
      by_cases false = kept

  none_taken : (e : Effect) → looked e false ≡ ps
  unfolding is_call
  none_taken plain = refl
  none_taken spawns = refl
  none_taken joins = refl
  none_taken opens = refl
  none_taken (makes k) = refl

  moved_may : (e : Effect) (b : Exp) → MayRunIn (look_up i r.numbers (moved b)) (looked e (eqb i j))
  moved_may e b = by_cases (eqb i j) refl
    where
      by_cases : (mine : Bool) → eqb i j ≡ mine → MayRunIn (look_up i r.numbers (moved b)) (looked e mine)
      by_cases true is =
          let here : place_of i r.numbers ≡ Some m.thread = ap (λ (k : ℕ). place_of k r.numbers) (eqb-true i j is) ∙ there in
          let before : look_up i r.numbers r.state.threads ≡ Some u =
          sym (placed i r.numbers r.state.threads) ∙ ap (λ (o : Option ℕ). o >>= slice_get r.state.threads) here ∙ u_there in
          let now : look_up i r.numbers (moved b) ≡ Some (moved_to u b) =
          sym (placed i r.numbers (moved b)) ∙ ap (λ (o : Option ℕ). o >>= slice_get (moved b)) here
          ∙ set_here r.state.threads m.thread (moved_to u b) u_there in
          subst (λ (o : Option Thread). MayRunIn o (looked e true)) (sym now) (own_may e b (subst (λ (o : Option Thread). RunIn o ps) before run))
      by_cases false is =
          subst (MayRunIn (look_up i r.numbers (moved b))) (sym (none_taken e))
          (subst (λ (o : Option Thread). MayRunIn o ps) (sym (others_stay i j m.thread r.numbers r.state.threads (moved_to u b) there is))
          (still_may (look_up i r.numbers r.state.threads) ps run))

  change_runs : {e : Effect} {s : State} → Changed r.state m u e s →
      RunIn (look_up i (numbers_after r m e) s.threads) (open_for (look_up i (numbers_after r m e) s.threads) (looked e (eqb i j)))
  unfolding entries_after
  change_runs (goes names b stays) = open_runs (look_up i r.numbers (moved b)) (looked plain (eqb i j)) (moved_may plain b)
  change_runs (called b) = open_runs (look_up i r.numbers (moved b)) (looked opens (eqb i j)) (moved_may opens b)
  change_runs (made k new b) = open_runs (look_up i r.numbers (moved b)) (looked (makes k) (eqb i j)) (moved_may (makes k) b)
  change_runs (spawned b v) =
      open_runs (look_up i (r.numbers ++ (r.threads ∷ [])) (moved b ++ (v ∷ []))) (looked spawns (eqb i j))
      (append_may i r.threads v (looked spawns (eqb i j)) r.numbers (moved b) (moved_may spawns b))
  change_runs (joined b v found) = left_runs r.threads i m.finished r.numbers (moved b) (looked joins (eqb i j)) rising (moved_may joins b)

abbrev thread_in : Run → (i : ℕ) → Option Thread
thread_in r i = look_up i r.numbers r.state.threads

step_runs : {r r' : Run} {l : TraceLine} {d : Reduced} (A : LanguageStep r l d r') → Rising 0 r.numbers r.threads → (i : ℕ) (ps : List Path) →
    RunIn (thread_in r i) ps → RunIn (thread_in r' i) (open_for (thread_in r' i) (one_if (takes_call i d) d.path ++ ps))
unfolding takes_call is_call
step_runs {r} {r'} {d = d} A rising i ps run =
    subst (λ (ns : List ℕ). RunIn (look_up i ns r'.state.threads) (open_for (look_up i ns r'.state.threads) (one_if (takes_call i d) d.path ++ ps)))
    (sym A.numbered)
    (change_runs r rising A.move d.thread (ap (λ (j : ℕ). place_of j r.numbers) A.taker ∙ A.listed.place) A.thread A.there d.word A.next
    d.path A.path i ps run (reduct_changes r.procedures r.state A.move A.thread d.word r'.state (word_reduces A)))

-- ---- All runs

module _ (p : Program) {rs : List Run} {ls : List Line} {m : ℕ} {a : Numbers} (begins : slice_get rs 0 ≡ Some (start_run p)) (F : Follows rs ls m a) where
  -- The calls of thread i that are open in run n.
  abbrev open_at : ℕ → (i : ℕ) → List Path
  open_at n i = open_calls_of i (take n F.reduced) (take (suc n) rs)

  one_more : (n : ℕ) → (b : suc n ≤ m) → (i : ℕ) → let D = F.each n b in
      open_at (suc n) i ≡ open_for (thread_in D.after i) (one_if (takes_call i D.reduced) D.reduced.path ++ open_at n i)
  one_more n b i =
      let D = F.each n b in
      let runs = F.runs_counted in
      let steps = F.reduced_counted in
      let so_many = length-take-le (suc n) rs (omega (arith, runs, b)) in
      let so_few = length-take-le n F.reduced (omega (arith, steps, b)) in
      (λ z. open_calls_of i (one_more_of F.reduced n D.reduced_there z) (one_more_of rs (suc n) D.after_there z))
      ∙ open_more D.after D.reduced i (take n F.reduced) (take (suc n) rs) (omega (arith, so_many, so_few))
      ∙ ap (λ (o : Option Thread). open_for o (one_if (takes_call i D.reduced) D.reduced.path ++ open_at n i))
      (placed i D.after.numbers D.after.state.threads)

  all_run : (n : ℕ) → n ≤ m → (r : Run) → slice_get rs n ≡ Some r → Rising 0 r.numbers r.threads × ((i : ℕ) → RunIn (thread_in r i) (open_at n i))
  unfolding open_calls_of
  all_run zero b r h = (
    subst (λ (x : Run). Rising 0 x.numbers x.threads) (some_injective (sym begins ∙ h)) (start_is_proper p).rising,
    λ i. nothing_open (thread_in r i),
  )
    where
      nothing_open : (o : Option Thread) → RunIn o []
      nothing_open None = refl
      nothing_open (Some t) = tt
  all_run (suc n) b r h =
      let D = F.each n b in
      let (rising, run) = all_run n (omega (arith, b)) D.before D.before_there in
      subst (λ (x : Run). Rising 0 x.numbers x.threads × ((i : ℕ) → RunIn (thread_in x i) (open_at (suc n) i)))
      (some_injective (sym D.after_there ∙ h)) (
        step_rises D.step rising,
        λ i. subst (RunIn (thread_in D.after i)) (sym (one_more n b i)) (step_runs D.step rising i (open_at n i) (run i)),
      )

pub open_calls_run : OpenCallsRun
open_calls_run p rs ls m a begins F n r h i place t there =
    let below = there_below rs n h in
    let counted = F.runs_counted in
    let (rising, run) = all_run p begins F n (omega (arith, below, counted)) r h in
    subst (λ (o : Option Thread). RunIn o (open_calls_of i (take n F.reduced) (take (suc n) rs)))
    (looked_at 0 r.threads i place r.numbers r.state.threads rising there.number there.thread) (run i)
