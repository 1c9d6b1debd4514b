-- The calls that a run keeps for one thread, told by its number, and what a step does to them.
use Rattle.std.proofs.Common.{Option, None, Some, option_map, slice_get}
use Prim.Native.Nat.{ℕ, zero, suc, ◌≤◌, ◌<◌}
use mathlib.Core.Path.{◌≡◌, refl, sym, ◌∙◌, ap}
use mathlib.Core.Bool.{Bool, true, false}
use mathlib.Core.List.{List, [], ◌∷◌, ◌++◌}
use native.Mathlib.Omega.{arith}
use lib.Dec.{eqb, leb}
use lib.ListN.{length}
use borrow.Author.Tests.{eqb-true, eq-eqb, leb-true, le-leb}
use Rattle.spec.specs.Choice.{when◌then◌else◌}
use Rattle.spec.proofs.Clashes.{true_is_not_false}
use Rattle.spec.proofs.Tests.{both_true}
use Rattle.calculus.specs.Expression.{choose}
use Rattle.calculus.specs.State.{Thread, Move, remove}
use Rattle.calculus.specs.Reduction.{◌>>=◌}
use Rattle.calculus.proofs.Laws.Maps.{some_injective, none_is_not_some}
use Rattle.replay_theory.specs.Paths.{Path}
use Rattle.replay_theory.specs.Run.{same_kind, Run, place_of, record_call, still_open, open_calls, Effect, plain, spawns, joins, opens, makes, same_effect, entries_after, numbers_after, calls_after, call_limit, calls_within}
use Rattle.replay_theory.proofs.Proper.{Rising, Proper}
use Rattle.replay_theory.proofs.Order.{rising_above}

abbrev pub one_if : Bool → Path → List Path
one_if b q = when b then (q ∷ []) else []

-- ---- What stands for thread i, by the numbers of the threads

-- what a list has for thread i, place by place
unfoldable pub look_up : {A : Type 0} → (i : ℕ) → List ℕ → List A → Option A
look_up i [] xs = None
look_up i (n ∷ ns) [] = None
look_up i (n ∷ ns) (x ∷ xs) = when eqb i n then Some x else look_up i ns xs

unfoldable pub calls_for : (i : ℕ) → List ℕ → List (List Path) → List Path
calls_for i [] calls = []
calls_for i (n ∷ ns) [] = []
calls_for i (n ∷ ns) (ps ∷ calls) = when eqb i n then ps else calls_for i ns calls

or_none : Option (List Path) → List Path
or_none None = []
or_none (Some ps) = ps

calls_looked : (i : ℕ) (ns : List ℕ) (calls : List (List Path)) → calls_for i ns calls ≡ or_none (look_up i ns calls)
unfolding calls_for look_up or_none
calls_looked i [] calls = refl
calls_looked i (n ∷ ns) [] = refl
calls_looked i (n ∷ ns) (ps ∷ calls) = by_cases (eqb i n) (calls_looked i ns calls)
  where
    by_cases : (b : Bool) → calls_for i ns calls ≡ or_none (look_up i ns calls) → (when b then ps else calls_for i ns calls) ≡ or_none (when b then Some ps else look_up i ns calls)
    by_cases true later = refl
    by_cases false later = later

-- of these calls, those that are open in a thread
unfoldable pub open_for : Option Thread → List Path → List Path
open_for None ps = []
open_for (Some t) ps = still_open t.body ps

-- ---- Threads by their numbers

nowhere_placed : {A : Type 0} (o : Option ℕ) → (o >>= slice_get {X = A} []) ≡ None
nowhere_placed None = refl
nowhere_placed (Some p) = refl

pub placed : {A : Type 0} (i : ℕ) (ns : List ℕ) (xs : List A) → (place_of i ns >>= slice_get xs) ≡ look_up i ns xs
unfolding place_of look_up
placed i [] xs = refl
placed i (n ∷ ns) [] = nowhere_placed (place_of i (n ∷ ns))
placed i (n ∷ ns) (x ∷ xs) = by_cases (eqb i n) (place_of i ns) (placed i ns xs)
  where
    by_cases : (b : Bool) (o : Option ℕ) → (o >>= slice_get xs) ≡ look_up i ns xs →
        ((when b then Some 0 else option_map suc o) >>= slice_get (x ∷ xs)) ≡ (when b then Some x else look_up i ns xs)
    by_cases true o later = refl
    by_cases false None later = later
    by_cases false (Some p) later = later

-- A number among those that rise from `low` on.
looked_above : {A : Type 0} {a : A} (low high i : ℕ) (ns : List ℕ) (xs : List A) → Rising low ns high → look_up i ns xs ≡ Some a → low ≤ i
unfolding look_up
looked_above low high i [] xs r h = none_is_not_some h
looked_above low high i (n ∷ ns) [] r h = none_is_not_some h
looked_above {a = a} low high i (n ∷ ns) (x ∷ xs) r h = by_cases (eqb i n) refl h (looked_above (suc n) high i ns xs r.1)
  where
    by_cases : (b : Bool) → eqb i n ≡ b → (when b then Some x else look_up i ns xs) ≡ Some a → (look_up i ns xs ≡ Some a → suc n ≤ i) → low ≤ i
    by_cases true is q later = let first = r.0 in let same = eqb-true i n is in omega (arith, first, same)
    by_cases false is q later = let first = r.0 in let above = later q in omega (arith, first, above)

none_below : (low high i : ℕ) (ns : List ℕ) (calls : List (List Path)) → Rising low ns high → i < low → calls_for i ns calls ≡ []
unfolding calls_for
none_below low high i [] calls r l = refl
none_below low high i (n ∷ ns) [] r l = refl
none_below low high i (n ∷ ns) (ps ∷ calls) r l =
    by_cases (eqb i n) refl (none_below (suc n) high i ns calls r.1 (let first = r.0 in omega (arith, first, l)))
  where
    by_cases : (b : Bool) → eqb i n ≡ b → calls_for i ns calls ≡ [] → (when b then ps else calls_for i ns calls) ≡ []
    by_cases true is later = let first = r.0 in let same = eqb-true i n is in absurd (omega (arith, first, same, l))
    by_cases false is later = later

pub none_either_way : (b : Bool) → ◌≡◌ {A = List Path} (when b then [] else []) []
none_either_way true = refl
none_either_way false = refl

-- What stands at the place of the thread.
pub looked_at : {A : Type 0} {x : A} (low high i p : ℕ) (ns : List ℕ) (xs : List A) → Rising low ns high → slice_get ns p ≡ Some i → slice_get xs p ≡ Some x →
    look_up i ns xs ≡ Some x
unfolding look_up
looked_at low high i p [] xs r h k = none_is_not_some h
looked_at low high i p (n ∷ ns) [] r h k = none_is_not_some k
looked_at {x = x} low high i zero (n ∷ ns) (y ∷ xs) r h k = by_cases (eqb i n) (eq-eqb i n (sym (some_injective h)))
  where
    by_cases : (b : Bool) → b ≡ true → (when b then Some y else look_up i ns xs) ≡ Some x
    by_cases true is = k
    by_cases false is = true_is_not_false (sym is)
looked_at {x = x} low high i (suc p) (n ∷ ns) (y ∷ xs) r h k = by_cases (eqb i n) refl (looked_at (suc n) high i p ns xs r.1 h k)
  where
    by_cases : (b : Bool) → eqb i n ≡ b → look_up i ns xs ≡ Some x → (when b then Some y else look_up i ns xs) ≡ Some x
    by_cases true is later =
        let above = rising_above (suc n) high ns p i r.1 h in let same = eqb-true i n is in absurd (omega (arith, above, same))
    by_cases false is later = later

-- ---- What a step does to the calls of thread i

pub open_looked : (i : ℕ) (ns : List ℕ) (ts : List Thread) (calls : List (List Path)) →
    calls_for i ns (open_calls ts calls) ≡ open_for (look_up i ns ts) (calls_for i ns calls)
unfolding calls_for open_calls look_up open_for still_open
open_looked i [] ts calls = refl
open_looked i (n ∷ ns) [] calls = refl
open_looked i (n ∷ ns) (t ∷ ts) [] = by_cases (look_up i (n ∷ ns) (t ∷ ts))
  where
    by_cases : (o : Option Thread) → [] ≡ open_for o []
    by_cases None = refl
    by_cases (Some u) = refl
open_looked i (n ∷ ns) (t ∷ ts) (ps ∷ calls) = by_cases (eqb i n) (open_looked i ns ts calls)
  where
    by_cases : (b : Bool) → calls_for i ns (open_calls ts calls) ≡ open_for (look_up i ns ts) (calls_for i ns calls) →
        (when b then still_open t.body ps else calls_for i ns (open_calls ts calls))
        ≡ open_for (when b then Some t else look_up i ns ts) (when b then ps else calls_for i ns calls)
    by_cases true later = refl
    by_cases false later = later

spawned_looked : (i k : ℕ) (ns : List ℕ) (calls : List (List Path)) → length ns ≡ length calls →
    calls_for i (ns ++ (k ∷ [])) (calls ++ ([] ∷ [])) ≡ calls_for i ns calls
unfolding calls_for
spawned_looked i k [] [] h = none_either_way (eqb i k)
spawned_looked i k [] (ps ∷ calls) h = absurd (omega (arith, h))
spawned_looked i k (n ∷ ns) [] h = absurd (omega (arith, h))
spawned_looked i k (n ∷ ns) (ps ∷ calls) h = ap (λ (qs : List Path). when eqb i n then ps else qs) (spawned_looked i k ns calls (omega (arith, h)))

-- Thread j, at place p, takes a call.
taken_looked : (i j p : ℕ) (q : Path) (ns : List ℕ) (calls : List (List Path)) → length ns ≡ length calls → place_of j ns ≡ Some p →
    calls_for i ns (record_call p q calls) ≡ one_if (eqb i j) q ++ calls_for i ns calls
unfolding place_of calls_for record_call
taken_looked i j p q [] calls h at = none_is_not_some at
taken_looked i j p q (n ∷ ns) [] h at = absurd (omega (arith, h))
taken_looked i j p q (n ∷ ns) (ps ∷ calls) h at =
    by_cases (eqb j n) refl at (λ k. taken_looked i j k q ns calls (omega (arith, h)))
  where
    same_test : (b : Bool) → (when b then (q ∷ ps) else calls_for i ns calls) ≡ one_if b q ++ (when b then ps else calls_for i ns calls)
    same_test true = refl
    same_test false = refl

    other : (a b : Bool) → eqb i n ≡ a → eqb i j ≡ b → eqb j n ≡ false → (X : List Path) → X ≡ one_if b q ++ calls_for i ns calls →
        (when a then ps else X) ≡ one_if b q ++ (when a then ps else calls_for i ns calls)
    other true true e f d X later =
        let z = eqb-true i n e in let y = eqb-true i j f in true_is_not_false (sym (eq-eqb j n (omega (arith, z, y))) ∙ d)
    other true false e f d X later = refl
    other false b e f d X later = later

    later_place : (o : Option ℕ) → option_map suc o ≡ Some p → eqb j n ≡ false → place_of j ns ≡ o →
        ((k : ℕ) → place_of j ns ≡ Some k → calls_for i ns (record_call k q calls) ≡ one_if (eqb i j) q ++ calls_for i ns calls) →
        calls_for i (n ∷ ns) (record_call p q (ps ∷ calls)) ≡ one_if (eqb i j) q ++ calls_for i (n ∷ ns) (ps ∷ calls)
    later_place None z d w later = none_is_not_some z
    later_place (Some k) z d w later =
        ap (λ (x : ℕ). calls_for i (n ∷ ns) (record_call x q (ps ∷ calls))) (sym (some_injective z))
        ∙ other (eqb i n) (eqb i j) refl refl d (calls_for i ns (record_call k q calls)) (later k w)

    by_cases : (b : Bool) → eqb j n ≡ b → (when b then Some 0 else option_map suc (place_of j ns)) ≡ Some p →
        ((k : ℕ) → place_of j ns ≡ Some k → calls_for i ns (record_call k q calls) ≡ one_if (eqb i j) q ++ calls_for i ns calls) →
        calls_for i (n ∷ ns) (record_call p q (ps ∷ calls)) ≡ one_if (eqb i j) q ++ calls_for i (n ∷ ns) (ps ∷ calls)
    by_cases true is z later =
        ap (λ (x : ℕ). calls_for i (n ∷ ns) (record_call x q (ps ∷ calls))) (sym (some_injective z))
        ∙ same_test (eqb i n)
        ∙ ap (λ (x : ℕ). one_if (eqb i x) q ++ (when eqb i n then ps else calls_for i ns calls)) (sym (eqb-true j n is))
    by_cases false is z later = later_place (place_of j ns) z is refl later

-- Without the thread at place f, of those that are left.
pub left_looked : {A B : Type 0} {b : B} (low high i f : ℕ) (ns : List ℕ) (ys : List B) (xs : List A) → Rising low ns high →
    look_up i (remove ns f) ys ≡ Some b → look_up i (remove ns f) (remove xs f) ≡ look_up i ns xs
unfolding look_up
left_looked low high i f [] ys xs r h = none_is_not_some h
left_looked {A = A} low high i zero (n ∷ ns) ys [] r h = nothing ns
  where
    nothing : (ms : List ℕ) → look_up {A = A} i ms [] ≡ None
    nothing [] = refl
    nothing (m ∷ ms) = refl
left_looked low high i zero (n ∷ ns) ys (x ∷ xs) r h = by_cases (eqb i n) refl
  where
    by_cases : (b : Bool) → eqb i n ≡ b → look_up i ns xs ≡ (when b then Some x else look_up i ns xs)
    by_cases true is = let same = eqb-true i n is in let above = looked_above (suc n) high i ns ys r.1 h in absurd (omega (arith, same, above))
    by_cases false is = refl
left_looked low high i (suc f) (n ∷ ns) [] xs r h = none_is_not_some h
left_looked low high i (suc f) (n ∷ ns) (y ∷ ys) [] r h = refl
left_looked {b = z} low high i (suc f) (n ∷ ns) (y ∷ ys) (x ∷ xs) r h = by_cases (eqb i n) h (left_looked (suc n) high i f ns ys xs r.1)
  where
    by_cases : (b : Bool) → (when b then Some y else look_up i (remove ns f) ys) ≡ Some z →
        (look_up i (remove ns f) ys ≡ Some z → look_up i (remove ns f) (remove xs f) ≡ look_up i ns xs) →
        (when b then Some x else look_up i (remove ns f) (remove xs f)) ≡ (when b then Some x else look_up i ns xs)
    by_cases true k later = refl
    by_cases false k later = later k

calls_left : {t : Thread} (high i f : ℕ) (ns : List ℕ) (ts : List Thread) (calls : List (List Path)) → Rising 0 ns high →
    look_up i (remove ns f) ts ≡ Some t → calls_for i (remove ns f) (remove calls f) ≡ calls_for i ns calls
calls_left high i f ns ts calls r is =
    calls_looked i (remove ns f) (remove calls f) ∙ ap or_none (left_looked 0 high i f ns ts calls r is) ∙ sym (calls_looked i ns calls)

joined_looked : (high i f : ℕ) (ns : List ℕ) (ts : List Thread) (calls : List (List Path)) → Rising 0 ns high →
    open_for (look_up i (remove ns f) ts) (calls_for i (remove ns f) (remove calls f)) ≡ open_for (look_up i (remove ns f) ts) (calls_for i ns calls)
unfolding open_for
joined_looked high i f ns ts calls r = by_cases (look_up i (remove ns f) ts) refl
  where
    by_cases : (o : Option Thread) → look_up i (remove ns f) ts ≡ o →
        open_for o (calls_for i (remove ns f) (remove calls f)) ≡ open_for o (calls_for i ns calls)
    by_cases None is = refl
    by_cases (Some t) is = ap (open_for (Some t)) (calls_left high i f ns ts calls r is)

unfoldable pub is_call : Effect → Bool → Bool
is_call e b = choose (same_effect same_kind e opens) b false

-- Thread j makes the move m, whose word stood at the path q.
module _ (r : Run) (proper : Proper r) (m : Move) (j : ℕ) (there : place_of j r.numbers ≡ Some m.thread) (q : Path) (i : ℕ) (ts : List Thread) where
  books_counted : length r.numbers ≡ length r.calls
  books_counted = proper.counted ∙ sym proper.all_called

  pub after_looked : (e : Effect) → open_for (look_up i (numbers_after r m e) ts) (calls_for i (numbers_after r m e) (calls_after m q e r.calls))
      ≡ open_for (look_up i (numbers_after r m e) ts) (one_if (is_call e (eqb i j)) q ++ calls_for i r.numbers r.calls)
  unfolding entries_after calls_after is_call
  after_looked plain = refl
  after_looked spawns = ap (open_for (look_up i (r.numbers ++ (r.threads ∷ [])) ts)) (spawned_looked i r.threads r.numbers r.calls books_counted)
  after_looked joins = joined_looked r.threads i m.finished r.numbers ts r.calls proper.rising
  after_looked opens = ap (open_for (look_up i r.numbers ts)) (taken_looked i j m.thread q r.numbers r.calls books_counted there)
  after_looked (makes k) = refl

-- ---- The limit

pub few_for_each : (ns : List ℕ) (calls : List (List Path)) → calls_within calls ≡ true → (i : ℕ) → length (calls_for i ns calls) ≤ call_limit
unfolding calls_for calls_within
few_for_each [] calls h i = omega arith
few_for_each (n ∷ ns) [] h i = omega arith
few_for_each (n ∷ ns) (ps ∷ calls) h i =
    let (few, rest) = both_true (leb (length ps) call_limit) (calls_within calls) h in
    by_cases (eqb i n) (leb-true _ _ few) (few_for_each ns calls rest i)
  where
    by_cases : (b : Bool) → length ps ≤ call_limit → length (calls_for i ns calls) ≤ call_limit → length (when b then ps else calls_for i ns calls) ≤ call_limit
    by_cases true here later = here
    by_cases false here later = later

pub few_in_all : (low high : ℕ) (ns : List ℕ) (calls : List (List Path)) → Rising low ns high → length ns ≡ length calls →
    ((i : ℕ) → length (calls_for i ns calls) ≤ call_limit) → calls_within calls ≡ true
unfolding calls_within calls_for
few_in_all low high [] [] r h few = refl
few_in_all low high [] (ps ∷ calls) r h few = absurd (omega (arith, h))
few_in_all low high (n ∷ ns) [] r h few = refl
few_in_all low high (n ∷ ns) (ps ∷ calls) r h few =
    rw (le-leb _ _ here, few_in_all (suc n) high ns calls r.1 (omega (arith, h)) (λ i. rest i (eqb i n) refl (few i))) refl
  where
    here : length ps ≤ call_limit
    here = by_cases (eqb n n) (eq-eqb n n refl) (few n)
      where
        by_cases : (b : Bool) → b ≡ true → length (when b then ps else calls_for n ns calls) ≤ call_limit → length ps ≤ call_limit
        by_cases true is k = k
        by_cases false is k = true_is_not_false (sym is)

    rest : (i : ℕ) (b : Bool) → eqb i n ≡ b → length (when b then ps else calls_for i ns calls) ≤ call_limit → length (calls_for i ns calls) ≤ call_limit
    rest i true is k =
        let none_there = ap length (none_below (suc n) high i ns calls r.1 (let same = eqb-true i n is in omega (arith, same))) in omega (arith, none_there)
    rest i false is k = k
