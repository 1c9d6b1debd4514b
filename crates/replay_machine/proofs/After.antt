-- What a step does to the machine, in five ways: a thread goes on, takes a call, makes a thing, spawns a thread, or joins one. The rows of the words
-- stand here once; Kept and Books look at the five ways alone.
use Rattle.std.proofs.Common.{Some, slice_get}
use Prim.Native.Nat.{ℕ, suc}
use mathlib.Core.Path.{◌≡◌, refl, ◌∙◌, subst}
use mathlib.Core.Logic.{◌≢◌, ◌⊎◌, inl, inr}
use mathlib.Core.Bool.{Bool, true, false}
use mathlib.Core.List.{List, [], ◌∷◌}
use native.Mathlib.Omega.{arith}
use lib.ListN.{set}
use Rattle.spec.specs.Expression.{Position, Expr}
use Rattle.calculus.specs.Expression.{Value, name, Unary, join, ref, read, lock, unlock, post, wait, hold, call, Redex, unary_redex}
use Rattle.calculus.specs.State.{Slot, unused, cell, rwlock, Part, first, second, update}
use Rattle.calculus.specs.Reduction.{name_of, if_identifier, cell_value, lock_state, if_opened, count, one_less, rw_state, inside_after, made as made_slot}
use Rattle.calculus.proofs.Laws.Maps.{some_injective, none_is_not_some, bind_is_some, update_other}
use Rattle.replay_theory.specs.Paths.{Path}
use Rattle.replay_theory.specs.Run.{ObjectKind, cells, plain, spawns, joins, opens, makes, unary_traits, kind_made, traits, effect}
use Rattle.replay_theory.proofs.Changes.{answer_means_used, used_updated}
use Rattle.replay_machine.specs.Environment.{Env, zeros}
use Rattle.replay_machine.specs.Control.{Frame, mark_frame, Word, let_word, if_word, while_word, spawn_word, write_word, unary_word, nullary_word, unrolled_word, again_word, redex, Control, done, at, next_redex, return, enter}
use Rattle.replay_machine.specs.State.{MachineThread, Machine, running}
use Rattle.replay_machine.specs.Step.{lowest, zero_value, part_of, unrolled_part, goes_to, add_thread, mark_joined, gives, leaves, creates, step_unary, step_word, step_control, step_thread, step}
use Rattle.replay_machine.specs.Scoped.{Fits, Vars, Bound, Rest, Nested, No, WordOk, WordBinds, ControlOk}
use Rattle.replay_machine.specs.Kept.{UnusedFrom, ProcedureKept, ThreadKept, Kept}
use Rattle.replay_theory.proofs.Lists.{every_at}
use Rattle.replay_machine.proofs.Places.{LiveAt}
use Rattle.replay_machine.proofs.Marks.{path_from, paths, call_paths, word_path, Tells, control_tells, return_tells, enter_tells, run_part_tells}
use Rattle.replay_machine.proofs.Scoping.{nested_fewer, return_ok, enter_ok, run_part_ok}

-- After M i tid ps q w N: thread i, with identifier tid and the open calls ps, has done the word w, which stood at the path q, and M has
-- become N.
pub data After (M : Machine) (i tid : ℕ) (ps : List Path) (q : Path) (w : Redex) : Machine → Type 0 where
  goes : (names : ℕ → Slot) (b : Control) → effect w ≡ plain → UnusedFrom names M.next → ControlOk b → Tells b ps →
      After M i tid ps q w (goes_to M i tid names b)
  called : (b : Control) → effect w ≡ opens → ControlOk b → Tells b (q ∷ ps) → After M i tid ps q w (goes_to M i tid M.names b)
  made : (k : ObjectKind) (new : Slot) (b : Control) → effect w ≡ makes k → ControlOk b → Tells b ps → After M i tid ps q w (record {
    procedures = M.procedures;
    threads = set M.threads i (running tid b);
    names = update M.names M.next new;
    next = suc M.next;
  })
  spawned : (n : ℕ) (b b' : Control) → effect w ≡ spawns → ControlOk b → ControlOk b' → Tells b ps → Tells b' [] →
      After M i tid ps q w (add_thread (running n b') (goes_to M i tid M.names b))
  joined : (n j : ℕ) (u : MachineThread) (b : Control) → effect w ≡ joins → (traits w).joining ≡ Some n → lowest n M.threads ≡ Some j →
      slice_get M.threads j ≡ Some u → ControlOk b → Tells b ps → After M i tid ps q w (mark_joined j u (goes_to M i tid M.names b))

-- ---- Names

used_kept : (names : ℕ → Slot) (next n : ℕ) (a : Slot) → UnusedFrom names next → names n ≢ unused → UnusedFrom (update names n a) next
used_kept names next n a h used k le = used_updated names n a used k (h k le)

pub next_updated : (names : ℕ → Slot) (next : ℕ) (a : Slot) → UnusedFrom names next → UnusedFrom (update names next a) (suc next)
next_updated names next a h k le = update_other names next k a (λ e. omega (arith, e, le)) ∙ h k (omega (arith, le))

-- ---- The words

module _ (M : Machine) (i tid : ℕ) (σ : Env) (K : List Frame) (kept : Kept M) where
  abbrev Done : Redex → Machine → Type 0
  Done w N = After M i tid (paths K) (path_from K []) w N

  told : {w : Redex} (N N' : Machine) → Done w N → Some N ≡ Some N' → Done w N'
  told {w} N N' h e = subst (Done w) (some_injective e) h

  module _ (B : Vars) (n : Nested B K) where
    returns : (v : Value) → ControlOk (return σ v K)
    returns v = return_ok σ v K B n

    leaves_after : {w : Redex} (m : ℕ) (slot : Slot) → effect w ≡ plain → M.names m ≢ unused → Done w (leaves M i tid σ K m slot)
    leaves_after m slot e used = goes _ _ e (used_kept M.names M.next m slot kept.unused_from used) (returns zero_value) (return_tells σ zero_value K)

    unary_after : (o : Unary) (v : Value) (N : Machine) → step_unary M i tid σ K o v ≡ Some N → Done (unary_redex o v) N
    unfolding unary_traits traits
    unary_after join v N q =
        let (m, named, q₁) = bind_is_some (name_of v) q in
        let (_, _, q₂) = bind_is_some (if_identifier (M.names m)) q₁ in
        let (j, found, q₃) = bind_is_some (lowest m M.threads) q₂ in
        let (u, there, q₄) = bind_is_some (slice_get M.threads j) q₃ in
        told (mark_joined j u (gives M i tid σ K M.names zero_value)) N (joined m j u _ refl named found there (returns zero_value) (return_tells σ zero_value K)) q₄
    unary_after ref v N q = told (creates M i tid σ K (cell v)) N (made cells (cell v) _ refl (returns (name M.next)) (return_tells σ (name M.next) K)) q
    unary_after read v N q =
        let (m, _, q₁) = bind_is_some (name_of v) q in
        let (u, _, q₂) = bind_is_some (cell_value (M.names m)) q₁ in
        told _ N (goes M.names _ refl kept.unused_from (returns u) (return_tells σ u K)) q₂
    unary_after lock v N q =
        let (m, _, q₁) = bind_is_some (name_of v) q in
        let (l, e, q₂) = bind_is_some (lock_state (M.names m)) q₁ in
        let (_, _, q₃) = bind_is_some (if_opened l) q₂ in
        told _ N (leaves_after m _ refl (answer_means_used lock_state (M.names m) refl e)) q₃
    unary_after unlock v N q =
        let (m, _, q₁) = bind_is_some (name_of v) q in
        let (l, e, q₂) = bind_is_some (lock_state (M.names m)) q₁ in
        told _ N (leaves_after m _ refl (answer_means_used lock_state (M.names m) refl e)) q₂
    unary_after post v N q =
        let (m, _, q₁) = bind_is_some (name_of v) q in
        let (c, e, q₂) = bind_is_some (count (M.names m)) q₁ in
        told _ N (leaves_after m _ refl (answer_means_used count (M.names m) refl e)) q₂
    unary_after wait v N q =
        let (m, _, q₁) = bind_is_some (name_of v) q in
        let (c, e, q₂) = bind_is_some (count (M.names m)) q₁ in
        let (_, _, q₃) = bind_is_some (one_less c) q₂ in
        told _ N (leaves_after m _ refl (answer_means_used count (M.names m) refl e)) q₃
    unary_after (hold w) v N q =
        let (m, _, q₁) = bind_is_some (name_of v) q in
        let (p, e, q₂) = bind_is_some (rw_state (M.names m)) q₁ in
        let (inside, _, q₃) = bind_is_some (inside_after p.0 w p.1) q₂ in
        told (leaves M i tid σ K m (rwlock p.0 inside)) N (leaves_after m (rwlock p.0 inside) refl (answer_means_used rw_state (M.names m) refl e)) q₃
    unary_after (call f) v N q =
        let (p, there, q₁) = bind_is_some (slice_get M.procedures f) q in
        told (goes_to M i tid M.names (enter (update zeros p.parameter v) p.body (mark_frame σ ∷ K))) N
        (called _ refl
        (enter_ok (update zeros p.parameter v) p.body (p.parameter ∷ []) (mark_frame σ ∷ K)
        (every_at ProcedureKept M.procedures f p kept.procedures_kept there) (tt, nested_fewer K B No (λ y z. absurd z) n))
        (enter_tells (update zeros p.parameter v) p.body (mark_frame σ ∷ K))) q₁

  part_ok : (c : Part) (e₁ e₂ : Expr) (I : List ℕ) → Fits I e₁ → Fits I e₂ → Nested (λ y. Bound e₁ y ⊎ Bound e₂ y) K →
      ControlOk (enter σ (part_of c e₁ e₂) K)
  part_ok first e₁ e₂ I f g n = enter_ok σ e₁ I K f (nested_fewer K _ _ (λ y b. inl b) n)
  part_ok second e₁ e₂ I f g n = enter_ok σ e₂ I K g (nested_fewer K _ _ (λ y b. inr b) n)

  unrolled_ok : (c : Part) (k : Position) (e : Expr) → Rest No e → Nested (Bound e) K → ControlOk (unrolled_part c σ k e K)
  unrolled_ok first k e r n = run_part_ok σ k e r.scope K r.fits n
  unrolled_ok second k e r n = returns _ n zero_value

  unrolled_tells : (c : Part) (k : Position) (e : Expr) → Tells (unrolled_part c σ k e K) (paths K)
  unrolled_tells first k e = run_part_tells σ k e K
  unrolled_tells second k e = return_tells σ zero_value K

  word_after : (c : Part) (w : Word) (N : Machine) → WordOk w → Nested (WordBinds w) K →
      step_word M i tid σ K c w ≡ Some N → Done (redex σ w) N
  unfolding traits
  word_after c (let_word k x v e) N r n q =
      told _ N (goes M.names _ refl kept.unused_from
      (enter_ok (update σ x v) e (x ∷ r.scope) K r.fits (nested_fewer K _ _ (λ y b. inr b) n)) (enter_tells (update σ x v) e K)) q
  word_after c (if_word k e₁ e₂) N r n q =
      told _ N (goes M.names _ refl kept.unused_from (part_ok c e₁ e₂ r.0 r.1 r.2 n) (enter_tells σ (part_of c e₁ e₂) K)) q
  word_after c (while_word k e) N r n q = told _ N (goes M.names (at σ (unrolled_word k e) K) refl kept.unused_from (r, n) (control_tells (at σ (unrolled_word k e) K))) q
  word_after c (spawn_word k v e) N r n q =
      let (m, _, q₁) = bind_is_some (name_of v) q in
      let (_, _, q₂) = bind_is_some (if_identifier (M.names m)) q₁ in
      told (add_thread (running m (enter σ e [])) (gives M i tid σ K M.names zero_value)) N
      (spawned m _ _ refl (returns _ n zero_value) (enter_ok σ e r.scope [] r.fits tt) (return_tells σ zero_value K) (enter_tells σ e [])) q₂
  word_after c (write_word k v w) N r n q =
      let (m, _, q₁) = bind_is_some (name_of v) q in
      let (u, e, q₂) = bind_is_some (cell_value (M.names m)) q₁ in
      told _ N (leaves_after _ n m _ refl (answer_means_used cell_value (M.names m) refl e)) q₂
  word_after c (unary_word k o v) N r n q = unary_after _ n o v N q
  word_after c (nullary_word k o) N r n q =
      told (creates M i tid σ K (made_slot o)) N (made (kind_made o) (made_slot o) _ refl (returns _ n (name M.next)) (return_tells σ (name M.next) K)) q
  word_after c (unrolled_word k e) N r n q =
      told _ N (goes M.names (unrolled_part c σ k e K) refl kept.unused_from (unrolled_ok c k e r n) (unrolled_tells c k e)) q
  word_after c (again_word k v e) N r n q = told _ N (goes M.names (at σ (while_word k e) K) refl kept.unused_from (r, n) (control_tells (at σ (while_word k e) K))) q

-- ---- Steps

-- The thread that has moved, and the word that it has done.
pub record Moved (M : Machine) (i : ℕ) (N : Machine) : Type 0 where
  pub thread : MachineThread
  pub live_there : LiveAt M.threads i thread
  pub word : Redex
  pub was_next : next_redex thread.control ≡ Some word
  pub after : After M i thread.tid (call_paths thread.control) (word_path thread.control) word N

control_after : (M : Machine) (i : ℕ) (c : Part) (tid : ℕ) (b : Control) (N : Machine) → Kept M → ControlOk b → step_control M i c tid b ≡ Some N →
    (w : Redex) × (next_redex b ≡ Some w) × After M i tid (call_paths b) (word_path b) w N
control_after M i c tid (done v) N kept ok q = none_is_not_some q
control_after M i c tid (at σ w K) N kept ok q =
    (redex σ w, refl, word_after M i tid σ K kept c w N ok.0 ok.1 q)

thread_after : (M : Machine) (i : ℕ) (c : Part) (t : MachineThread) (j : Bool) (N : Machine) → Kept M → slice_get M.threads i ≡ Some t → t.joined ≡ j →
    step_thread M i c t j ≡ Some N → Moved M i N
thread_after M i c t true N kept there e q = none_is_not_some q
thread_after M i c t false N kept there e q =
    let (w, next, after) = control_after M i c t.tid t.control N kept (every_at ThreadKept M.threads i t kept.threads_kept there) q in
    record { thread = t; live_there = record { there = there; not_joined = e }; word = w; was_next = next; after = after }

pub step_moves : (M : Machine) (i : ℕ) (c : Part) (N : Machine) → Kept M → step M i c ≡ Some N → Moved M i N
unfolding step
step_moves M i c N kept q = let (t, e, q₁) = bind_is_some (slice_get M.threads i) q in thread_after M i c t t.joined N kept e refl q₁
