-- The lowest finished thread with an identifier: what is found, and that nothing is missed.
use Rattle.std.proofs.Common.{Option, None, Some, option_map, slice_get}
use Prim.Native.Nat.{ℕ, zero, suc}
use mathlib.Core.Path.{◌≡◌, refl, sym, ◌∙◌, ap, subst}
use mathlib.Core.Logic.{◌≢◌}
use mathlib.Core.Bool.{Bool, true, false, not, ◌&&◌}
use mathlib.Core.List.{List, [], ◌∷◌}
use native.Mathlib.Decide.{ℕ_discrete}
use lib.Dec.{eqb}
use borrow.Author.Tests.{eqb-true, eq-eqb}
use Rattle.spec.proofs.Clashes.{true_is_not_false}
use Rattle.spec.proofs.Tests.{both_true}
use Rattle.calculus.specs.Expression.{Value, next_word, choose}
use Rattle.calculus.specs.State.{Thread, State}
use Rattle.calculus.specs.Reduction.{◌>>=◌, ◌>>◌, if_equal, value_of}
use Rattle.calculus.proofs.Laws.Maps.{some_injective, none_is_not_some, some_is_not_none}
use Rattle.replay_machine.specs.Control.{Control, done, at, decode}
use Rattle.replay_machine.specs.State.{MachineThread, decode_thread, live}
use Rattle.replay_machine.specs.Step.{is_done, joinable, first_or, lowest}
use Rattle.replay_machine.proofs.Decoding.{next_decoded}
use Rattle.replay_machine.proofs.Places.{back}

-- A finished thread with that identifier, not joined.
pub record Joinable (n : ℕ) (t : MachineThread) : Type 0 where
  pub not_joined : t.joined ≡ false
  pub same : t.tid ≡ n
  pub result : Value
  pub finished : t.control ≡ done result

not_true : (a : Bool) → not a ≡ true → a ≡ false
not_true true h = true_is_not_false (sym h)
not_true false h = refl

done_tells : (b : Control) → is_done b ≡ true → (v : Value) × (b ≡ done v)
done_tells (done v) h = (v, refl)
done_tells (at σ w K) h = true_is_not_false (sym h)

pub joinable_tells : (n : ℕ) (t : MachineThread) → joinable n t ≡ true → Joinable n t
joinable_tells n t h =
    let (j, r) = both_true (not t.joined) (eqb t.tid n && is_done t.control) h in
    let (e, d) = both_true (eqb t.tid n) (is_done t.control) r in
    let (v, q) = done_tells t.control d in
    record { not_joined = not_true t.joined j; same = eqb-true t.tid n e; result = v; finished = q }

-- The thread at that place can be joined. What is found is such a place; that it is the lowest is told by lowest-is-first, in Books.
pub record JoinableAt (n : ℕ) (ts : List MachineThread) (j : ℕ) : Type 0 where
  pub thread : MachineThread
  pub there : slice_get ts j ≡ Some thread
  pub can : Joinable n thread

found_past : (b : Bool) (n : ℕ) (t : MachineThread) (ts : List MachineThread) (j : ℕ) → joinable n t ≡ b → ((k : ℕ) → lowest n ts ≡ Some k → JoinableAt n ts k) →
    first_or b (lowest n ts) ≡ Some j → JoinableAt n (t ∷ ts) j
found_past true n t ts j e rec h = subst (JoinableAt n (t ∷ ts)) (some_injective h) (record { thread = t; there = refl; can = joinable_tells n t e })
found_past false n t ts j e rec h = later (lowest n ts) refl h
  where
    later : (o : Option ℕ) → lowest n ts ≡ o → option_map suc o ≡ Some j → JoinableAt n (t ∷ ts) j
    later None q z = none_is_not_some z
    later (Some k) q z = let r = rec k q in subst (JoinableAt n (t ∷ ts)) (some_injective z) (record { thread = r.thread; there = r.there; can = r.can })

pub lowest_found : (n : ℕ) (ts : List MachineThread) (j : ℕ) → lowest n ts ≡ Some j → JoinableAt n ts j
unfolding lowest
lowest_found n [] j h = none_is_not_some h
lowest_found n (t ∷ ts) j h = found_past (joinable n t) n t ts j refl (lowest_found n ts) h

-- A thread that joins has not finished, so it is another.
pub joiner_is_another : (n : ℕ) (ts : List MachineThread) (i j : ℕ) (t : MachineThread) → slice_get ts i ≡ Some t → is_done t.control ≡ false →
    JoinableAt n ts j → i ≢ j
joiner_is_another n ts i j t there running_one L q =
    true_is_not_false (sym (ap is_done L.can.finished)
    ∙ ap (λ (u : MachineThread). is_done u.control) (some_injective (sym L.there ∙ ap (slice_get ts) (sym q) ∙ there))
    ∙ running_one)

-- Where nothing is found no thread can be joined.
none_past : (b : Bool) (o : Option ℕ) → first_or b o ≡ None → (b ≡ false) × (o ≡ None)
none_past true o h = some_is_not_none h
none_past false None h = (refl, refl)
none_past false (Some k) h = some_is_not_none h

pub lowest_none : (n : ℕ) (ts : List MachineThread) (j : ℕ) (t : MachineThread) → lowest n ts ≡ None → slice_get ts j ≡ Some t → joinable n t ≡ false
unfolding lowest
lowest_none n [] j t h k = none_is_not_some k
lowest_none n (u ∷ ts) zero t h k = ap (joinable n) (sym (some_injective k)) ∙ (none_past (joinable n u) (lowest n ts) h).0
lowest_none n (u ∷ ts) (suc j) t h k = lowest_none n ts j t (none_past (joinable n u) (lowest n ts) h).1 k

-- A thread has finished exactly when its expression is a value.
pub value_of_decoded : (b : Control) → is_done b ≡ false → value_of (next_word (decode b)) ≡ None
value_of_decoded (done v) h = true_is_not_false h
value_of_decoded (at σ w K) h = ap value_of (next_decoded σ w K)

-- ---- Where the machine finds no thread to join, the calculus has none at any place

last_test : (a b c : Bool) → a ≡ false → b ≡ true → (not a && (b && c)) ≡ false → c ≡ false
last_test true b c p q h = true_is_not_false p
last_test false true c p q h = h
last_test false false c p q h = true_is_not_false (sym q)

not_joinable : (n : ℕ) (t : MachineThread) (X : Option State) → t.joined ≡ false → joinable n t ≡ false →
    (if_equal t.tid n >> (value_of (next_word (decode t.control)) >> X)) ≡ None
not_joinable n t X live_one h = by_cases (ℕ_discrete t.tid n)
  where
    by_cases : (d : Dec (t.tid ≡ n)) → (choose d (Some (tt {0})) None >> (value_of (next_word (decode t.control)) >> X)) ≡ None
    by_cases (yes p) =
        ap (λ (o : Option Value). o >> X)
        (value_of_decoded t.control (last_test t.joined (eqb t.tid n) (is_done t.control) live_one (eq-eqb t.tid n p) h))
    by_cases (no p) = refl

pub no_join : (ts : List MachineThread) (n p : ℕ) (X : Option State) → lowest n ts ≡ None →
    (slice_get (live ts) p >>= λ u. if_equal u.tid n >> (value_of (next_word u.body) >> X)) ≡ None
no_join ts n p X h = by_cases (slice_get (live ts) p) refl
  where
    asked : Thread → Option State
    asked u = if_equal u.tid n >> (value_of (next_word u.body) >> X)

    by_cases : (o : Option Thread) → slice_get (live ts) p ≡ o → (o >>= asked) ≡ None
    by_cases None q = refl
    by_cases (Some u) q =
        let B = back (λ i t. decode_thread t) 0 ts p u q in
        subst (λ (z : Thread). asked z ≡ None) B.told
        (not_joinable n B.thread X B.live_there.not_joined (lowest_none n ts B.index B.thread h B.live_there.there))
