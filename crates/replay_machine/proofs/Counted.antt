-- Every line that is done keeps what Counted says, and what it says bounds the threads and the names.
use Rattle.std.proofs.Common.{Some, slice_get}
use Prim.Native.Nat.{ℕ, zero, suc, ◌≤◌}
use mathlib.Core.Path.{◌≡◌, refl, sym, ◌∙◌, ap, subst}
use mathlib.Core.Bool.{true, ◌&&◌}
use mathlib.Core.List.{List, [], ◌∷◌}
use native.Mathlib.Omega.{arith}
use lib.Dec.{leb}
use lib.ListN.{length}
use borrow.Author.Tests.{leb-true}
use Rattle.spec.specs.Program.{Program}
use Rattle.spec.specs.WellFormed.{WellFormedProgram}
use Rattle.spec.proofs.Tests.{both_true}
use Rattle.calculus.specs.Expression.{Redex}
use Rattle.replay_theory.specs.Trace.{TraceLine}
use Rattle.replay_theory.specs.Paths.{Path}
use Rattle.replay_theory.specs.Run.{ObjectKind, cells, locks, rwlocks, semaphores, identifiers, Effect, effect, next_name, one_more_if, things_after, thread_limit, thing_limit, within_limits, call_limit, still_open}
use Rattle.replay_machine.specs.State.{MachineThread, Machine, rank, start_machine}
use Rattle.replay_machine.specs.Replay.{Replay, start_replay, stepped, calls_in, counts_within, within}
use Rattle.replay_machine.specs.Counted.{Counted}
use Rattle.replay_theory.proofs.Proper.{name_more}
use Rattle.calculus.proofs.Laws.Maps.{some_injective, none_is_not_some}
use Rattle.replay_machine.specs.Environment.{zeros}
use Rattle.replay_machine.specs.Control.{enter, open_calls}
use Rattle.replay_machine.proofs.Marks.{calls_counted, enter_tells}
use Rattle.replay_machine.proofs.Places.{LiveAt, live_at}
use Rattle.replay_machine.proofs.After.{After, goes, called, made, spawned, joined}
use Rattle.replay_machine.proofs.Stepped.{step_taken}
use Rattle.replay_machine.proofs.Kept.{step_kept}
use Rattle.replay_machine.proofs.Start.{start_kept}

-- A name for each thing made.
names_grow : (M N : Machine) (i tid : ℕ) (ps : List Path) (q : Path) (w : Redex) (things : ObjectKind → ℕ) → M.next ≡ next_name things → After M i tid ps q w N →
    N.next ≡ next_name (things_after (effect w) things)
unfolding one_more_if things_after
names_grow M N i tid ps q w things h (goes names b e u ok tells) = h ∙ ap (λ (f : Effect). next_name (things_after f things)) (sym e)
names_grow M N i tid ps q w things h (called b e ok tells) = h ∙ ap (λ (f : Effect). next_name (things_after f things)) (sym e)
names_grow M N i tid ps q w things h (made k new b e ok tells) =
    ap suc h ∙ sym (name_more k things) ∙ ap (λ (f : Effect). next_name (things_after f things)) (sym e)
names_grow M N i tid ps q w things h (spawned n b b' e ok ok' tells tells') = h ∙ ap (λ (f : Effect). next_name (things_after f things)) (sym e)
names_grow M N i tid ps q w things h (joined n j u b e named found there ok tells) = h ∙ ap (λ (f : Effect). next_name (things_after f things)) (sym e)

pub stepped_counted : (R R' : Replay) (l : TraceLine) → Counted R → stepped R l ≡ Some R' → within R' ≡ true → Counted R'
stepped_counted R R' l C q limited =
    let S = step_taken R R' l C.kept q in
    let D = S.moved in
    let named = names_grow R.machine S.machine l.thread D.thread.tid _ _ D.word R.things C.named D.after in
    subst Counted S.is (record {
      kept = step_kept R.machine l.thread S.part S.machine C.kept S.moves;
      named = named ∙ ap (λ (x : Redex). next_name (things_after (effect x) R.things)) S.word_is;
      limited = ap within S.is ∙ limited;
    })

pub start_counted : {text : List ℕ} {P : Program} → WellFormedProgram text P → Counted (start_replay P)
unfolding start_replay start_machine next_name within within_limits thread_limit thing_limit calls_in counts_within call_limit still_open
start_counted {P = P} w = record {
  kept = start_kept w;
  named = refl;
  limited = ap (λ (n : ℕ). leb n 64 && true) (sym (calls_counted (enter zeros P.root [])) ∙ ap length (sym (enter_tells zeros P.root [])));
}

-- ---- Bounds

-- What the limits say, each by itself.
pub record Limits (threads : ℕ) (things : ObjectKind → ℕ) : Type 0 where
  pub of_threads : threads ≤ 16
  pub of_things : (k : ObjectKind) → things k ≤ 64

limits_tell : (threads : ℕ) (things : ObjectKind → ℕ) → within_limits threads things ≡ true → Limits threads things
unfolding within_limits thread_limit thing_limit
limits_tell threads things h =
    let i = both_true (leb threads 16 && leb (things cells) 64 && leb (things locks) 64 && leb (things rwlocks) 64 && leb (things semaphores) 64)
    (leb (things identifiers) 64) h in
    let s = both_true (leb threads 16 && leb (things cells) 64 && leb (things locks) 64 && leb (things rwlocks) 64) (leb (things semaphores) 64) i.0 in
    let r = both_true (leb threads 16 && leb (things cells) 64 && leb (things locks) 64) (leb (things rwlocks) 64) s.0 in
    let l = both_true (leb threads 16 && leb (things cells) 64) (leb (things locks) 64) r.0 in
    let c = both_true (leb threads 16) (leb (things cells) 64) l.0 in
    record { of_threads = leb-true threads 16 c.0; of_things = each c.1 l.1 r.1 s.1 i.1 }
  where
    each : leb (things cells) 64 ≡ true → leb (things locks) 64 ≡ true → leb (things rwlocks) 64 ≡ true → leb (things semaphores) 64 ≡ true →
        leb (things identifiers) 64 ≡ true → (k : ObjectKind) → things k ≤ 64
    each c l r s i cells = leb-true (things cells) 64 c
    each c l r s i locks = leb-true (things locks) 64 l
    each c l r s i rwlocks = leb-true (things rwlocks) 64 r
    each c l r s i semaphores = leb-true (things semaphores) 64 s
    each c l r s i identifiers = leb-true (things identifiers) 64 i

pub counted_limits : (R : Replay) → Counted R → Limits (length R.machine.threads) R.things
unfolding within
counted_limits R C =
    limits_tell (length R.machine.threads) R.things
    (both_true (within_limits (length R.machine.threads) R.things) (counts_within (calls_in R.machine)) C.limited).0

counts_tell : (ns : List ℕ) (p n : ℕ) → counts_within ns ≡ true → slice_get ns p ≡ Some n → n ≤ 64
unfolding counts_within call_limit
counts_tell [] p n h q = none_is_not_some q
counts_tell (k ∷ ns) zero n h q =
    subst (λ (z : ℕ). z ≤ 64) (some_injective q) (leb-true k 64 (both_true (leb k 64) (counts_within ns) h).0)
counts_tell (k ∷ ns) (suc p) n h q = counts_tell ns p n (both_true (leb k 64) (counts_within ns) h).1 q

-- So 64 environments are enough for the callers of a thread.
pub calls_at_most : (R : Replay) → Counted R → (i : ℕ) (t : MachineThread) → LiveAt R.machine.threads i t → open_calls t.control ≤ 64
unfolding within calls_in
calls_at_most R C i t h =
    counts_tell (calls_in R.machine) (rank R.machine.threads i) (open_calls t.control)
    (both_true (within_limits (length R.machine.threads) R.things) (counts_within (calls_in R.machine)) C.limited).1
    (live_at (λ i u. open_calls u.control) R.machine.threads 0 i t h)

pub names_at_most : (R : Replay) → Counted R → R.machine.next ≤ 321
unfolding next_name
names_at_most R C =
    let L = (counted_limits R C).of_things in
    let named = C.named in
    let c = L cells in
    let l = L locks in
    let r = L rwlocks in
    let s = L semaphores in
    let i = L identifiers in
    omega (arith, named, c, l, r, s, i)
