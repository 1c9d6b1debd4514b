-- What a reduction does to the threads and the names of a state, in five ways by the effect of its word. The rows of the words stand here
-- once; Proper looks at the five ways alone.
use Rattle.std.proofs.Common.{Option, None, Some, slice_get}
use Prim.Native.Nat.{ℕ}
use mathlib.Core.Path.{◌≡◌, refl, sym, ◌∙◌, ap, subst}
use mathlib.Core.Logic.{◌≢◌}
use mathlib.Core.List.{List, [], ◌∷◌, ◌++◌}
use lib.ListN.{set}
use Rattle.calculus.specs.Expression.{Value, name, Exp, value, Unary, join, ref, read, lock, unlock, post, wait, hold, call, Redex, let_redex, if_redex, while_redex, spawn_redex, write_redex, unary_redex, nullary_redex, next_word, plug, substitute, Procedure}
use Rattle.calculus.specs.State.{Slot, unused, rwlock, Thread, State, Move, update, remove}
use Rattle.calculus.specs.Reduction.{name_of, if_unused, if_identifier, cell_value, lock_state, if_opened, count, one_less, rw_state, inside_after, if_equal, value_of, zero_exp, becomes, unary_reduct, reduct}
use Rattle.calculus.proofs.Laws.Maps.{some_injective, none_is_not_some, bind_is_some, update_other}
use Rattle.replay_theory.specs.Run.{ObjectKind, cells, Effect, plain, spawns, joins, opens, makes, unary_traits, kind_made, traits, effect}

-- Every unused name stays unused.
abbrev pub StaysUnused : (ℕ → Slot) → (ℕ → Slot) → Type 0
StaysUnused f g = (n : ℕ) → f n ≡ unused → g n ≡ unused

-- The thread with b in the place of its next word.
abbrev pub moved_to : Thread → Exp → Thread
moved_to t b = record { tid = t.tid; body = plug t.body b }

-- Changed s m t e s': a move of the thread t, with that effect, has made s into s'.
pub data Changed (s : State) (m : Move) (t : Thread) : Effect → State → Type 0 where
  goes : (names : ℕ → Slot) (b : Exp) → StaysUnused s.names names →
      Changed s m t plain (record { threads = set s.threads m.thread (moved_to t b); names = names })
  called : (b : Exp) → Changed s m t opens (record { threads = set s.threads m.thread (moved_to t b); names = s.names })
  made : (k : ObjectKind) (new : Slot) (b : Exp) →
      Changed s m t (makes k) (record { threads = set s.threads m.thread (moved_to t b); names = update s.names m.fresh new })
  spawned : (b : Exp) (u : Thread) →
      Changed s m t spawns (record { threads = set s.threads m.thread (moved_to t b) ++ (u ∷ []); names = s.names })
  joined : (b : Exp) (u : Thread) → slice_get s.threads m.finished ≡ Some u →
      Changed s m t joins (record { threads = remove (set s.threads m.thread (moved_to t b)) m.finished; names = s.names })

-- What a question of a slot tells: it is used.
pub answer_means_used : {A : Type 0} {a : A} (ask : Slot → Option A) (sl : Slot) → ask unused ≡ None → ask sl ≡ Some a → sl ≢ unused
answer_means_used ask sl silent h e = none_is_not_some (sym silent ∙ ap ask (sym e) ∙ h)

pub used_updated : (names : ℕ → Slot) (n : ℕ) (new : Slot) → names n ≢ unused → StaysUnused names (update names n new)
used_updated names n new used k h = update_other names n k new (λ e. used (sym (ap names e) ∙ h)) ∙ h

module _ (P : List Procedure) (s : State) (m : Move) (t : Thread) where
  told : {e : Effect} (a b : State) → Changed s m t e a → Some a ≡ Some b → Changed s m t e b
  told {e} a b h q = subst (Changed s m t e) (some_injective q) h

  same_names : {s' : State} (e : Exp) → Some (becomes s m t s.names e) ≡ Some s' → Changed s m t plain s'
  same_names e q = told (becomes s m t s.names e) _ (goes s.names e (λ n h. h)) q

  one_name : {s' : State} (n : ℕ) (slot : Slot) → s.names n ≢ unused → Some (becomes s m t (update s.names n slot) zero_exp) ≡ Some s' →
      Changed s m t plain s'
  one_name n slot used q = told (becomes s m t (update s.names n slot) zero_exp) _ (goes _ zero_exp (used_updated s.names n slot used)) q

  unary_changes : (o : Unary) (v : Value) (s' : State) → unary_reduct P s m t o v ≡ Some s' → Changed s m t (unary_traits o v).effect s'
  unfolding unary_traits
  unary_changes join v s' q =
      let (n, _, q₁) = bind_is_some (name_of v) q in
      let (_, _, q₂) = bind_is_some (if_identifier (s.names n)) q₁ in
      let (u, there, q₃) = bind_is_some (slice_get s.threads m.finished) q₂ in
      let (_, _, q₄) = bind_is_some (if_equal u.tid n) q₃ in
      let (_, _, q₅) = bind_is_some (value_of (next_word u.body)) q₄ in
      told _ s' (joined zero_exp u there) q₅
  unary_changes ref v s' q = let (_, _, q₁) = bind_is_some (if_unused (s.names m.fresh)) q in told _ s' (made cells _ (value (name m.fresh))) q₁
  unary_changes read v s' q =
      let (n, _, q₁) = bind_is_some (name_of v) q in
      let (_, _, q₂) = bind_is_some (cell_value (s.names n)) q₁ in
      same_names _ q₂
  unary_changes lock v s' q =
      let (n, _, q₁) = bind_is_some (name_of v) q in
      let (l, e, q₂) = bind_is_some (lock_state (s.names n)) q₁ in
      let (_, _, q₃) = bind_is_some (if_opened l) q₂ in
      one_name n _ (answer_means_used lock_state (s.names n) refl e) q₃
  unary_changes unlock v s' q =
      let (n, _, q₁) = bind_is_some (name_of v) q in
      let (_, e, q₂) = bind_is_some (lock_state (s.names n)) q₁ in
      one_name n _ (answer_means_used lock_state (s.names n) refl e) q₂
  unary_changes post v s' q =
      let (n, _, q₁) = bind_is_some (name_of v) q in
      let (_, e, q₂) = bind_is_some (count (s.names n)) q₁ in
      one_name n _ (answer_means_used count (s.names n) refl e) q₂
  unary_changes wait v s' q =
      let (n, _, q₁) = bind_is_some (name_of v) q in
      let (c, e, q₂) = bind_is_some (count (s.names n)) q₁ in
      let (_, _, q₃) = bind_is_some (one_less c) q₂ in
      one_name n _ (answer_means_used count (s.names n) refl e) q₃
  unary_changes (hold w) v s' q =
      let (n, _, q₁) = bind_is_some (name_of v) q in
      let (p, e, q₂) = bind_is_some (rw_state (s.names n)) q₁ in
      let (inside, _, q₃) = bind_is_some (inside_after p.0 w p.1) q₂ in
      one_name n (rwlock p.0 inside) (answer_means_used rw_state (s.names n) refl e) q₃
  unary_changes (call f) v s' q = let (p, _, q₁) = bind_is_some (slice_get P f) q in told _ s' (called (substitute p.parameter v p.body)) q₁

  pub reduct_changes : (w : Redex) (s' : State) → reduct P s m t w ≡ Some s' → Changed s m t (effect w) s'
  unfolding traits
  reduct_changes (let_redex x v e) s' q = same_names _ q
  reduct_changes (if_redex e₁ e₂) s' q = same_names _ q
  reduct_changes (while_redex e) s' q = same_names _ q
  reduct_changes (spawn_redex v e) s' q =
      let (n, _, q₁) = bind_is_some (name_of v) q in
      let (_, _, q₂) = bind_is_some (if_identifier (s.names n)) q₁ in
      told _ s' (spawned zero_exp _) q₂
  reduct_changes (write_redex v w) s' q =
      let (n, _, q₁) = bind_is_some (name_of v) q in
      let (_, e, q₂) = bind_is_some (cell_value (s.names n)) q₁ in
      one_name n _ (answer_means_used cell_value (s.names n) refl e) q₂
  reduct_changes (unary_redex o v) s' q = unary_changes o v s' q
  reduct_changes (nullary_redex o) s' q = let (_, _, q₁) = bind_is_some (if_unused (s.names m.fresh)) q in told _ s' (made (kind_made o) _ (value (name m.fresh))) q₁
