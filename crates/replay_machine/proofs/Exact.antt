-- A step of the machine is a step of the calculus, both when it can be taken and when it cannot.
use Rattle.std.proofs.Common.{Option, None, Some, slice_get, option_map}
use Prim.Native.Nat.{ℕ, zero, suc}
use mathlib.Core.Path.{◌≡◌, refl, sym, ◌∙◌, ap}
use mathlib.Core.Logic.{◌≢◌, ◌⊎◌, inl}
use mathlib.Core.Bool.{Bool, false}
use mathlib.Core.List.{List, [], ◌∷◌, ◌++◌, map}
use lib.ListN.{set}
use Rattle.spec.specs.Expression as sheet
use Rattle.spec.specs.Expression.{Position, Expr}
use Rattle.calculus.specs.Expression.{Value, int, name, Unary, join, ref, read, lock, unlock, post, wait, hold, call, Exp, value, let_in, while, Redex, next_word, plug, substitute, Procedure}
use Rattle.calculus.specs.State.{Slot, unused, cell, Thread, State, Part, first, second, Move, update, remove}
use Rattle.calculus.specs.Reduction.{◌>>=◌, ◌>>◌, name_of, if_unused, if_identifier, cell_value, lock_state, if_opened, count, one_less, rw_state, inside_after, if_equal, value_of, zero_exp, nowhere, part_listed, made, becomes, with_thread, without_thread, named, reduct, word_of, reduce}
use Rattle.calculus.specs.Claim.{Every}
use Rattle.calculus.proofs.Laws.Places.{set_elsewhere}
use Rattle.calculus.proofs.Laws.Questions.{equal_complete}
use Rattle.replay_machine.specs.Environment.{Env, zeros, closed, closed_under}
use Rattle.replay_machine.specs.Control.{Frame, mark_frame, fill, Word, let_word, if_word, while_word, spawn_word, write_word, unary_word, nullary_word, unrolled_word, again_word, redex, Control, done, at, decode, next_redex, return, enter}
use Rattle.replay_machine.specs.State.{MachineThread, Machine, decode_thread, live, rank, decode_state, decode_procedures, running}
use Rattle.replay_machine.specs.Step.{lowest, zero_value, part_of, unrolled_part, goes_to, add_thread, as_joined, mark_joined, gives, creates, step_word, step_control, step_thread, step}
use Rattle.replay_machine.specs.Scoped.{Nested, WordBinds, ControlOk}
use Rattle.replay_machine.specs.Kept.{ProcedureKept}
use Rattle.soundness.specs.Erasure.{erase_procedure}
use Rattle.replay_theory.proofs.Lists.{every_at}
use Rattle.replay_machine.proofs.Questions.{asks}
use Rattle.replay_machine.proofs.Closing.{substitute_hidden, substitute_closed}
use Rattle.replay_machine.proofs.Decoding.{return_keeps, enter_keeps, run_part_keeps, word_of_decoded, plug_decoded}
use Rattle.replay_machine.proofs.Agreeing.{argument_put_lem, fill_agree}
use Rattle.replay_machine.proofs.Places.{LiveAt, live_at, live_set, live_join, live_append, rank_set}
use Rattle.replay_machine.proofs.Joining.{JoinableAt, lowest_found, joiner_is_another, no_join}

ask : {A : Type 0} (o : Option A) (f : A → Option State) (g : A → Option Machine) → ((a : A) → f a ≡ option_map decode_state (g a)) →
    (o >>= f) ≡ option_map decode_state (o >>= g)
ask o f g alike = asks decode_state o f g (λ a _. alike a)

state_is : {ts us : List Thread} (f : ℕ → Slot) → ts ≡ us → ◌≡◌ {A = State} (record { threads = ts; names = f }) (record { threads = us; names = f })
state_is f h = ap (λ (l : List Thread). record { threads = l; names = f }) h

-- ---- A thread at a word

-- Thread i is at that word, and not joined.
abbrev pub AtWord : Machine → ℕ → ℕ → Env → Word → List Frame → Type 0
AtWord M i tid σ w K = slice_get M.threads i ≡ Some (running tid (at σ w K))

module _ (M : Machine) (i tid : ℕ) (σ : Env) (w : Word) (K : List Frame) (here : AtWord M i tid σ w K) (m : Move)
    (placed : m.thread ≡ rank M.threads i) where
  abbrev thread : Thread
  thread = decode_thread (running tid (at σ w K))

  live_here : LiveAt M.threads i (running tid (at σ w K))
  live_here = record { there = here; not_joined = refl }

  -- The thread goes on to b, which stands for the reduct e in the word's place.
  threads_go_on : (b : Control) (e : Exp) → decode b ≡ fill σ K e →
      set (live M.threads) m.thread (record { tid = tid; body = plug (decode (at σ w K)) e }) ≡ live (set M.threads i (running tid b))
  threads_go_on b e h =
      ap (λ (p : ℕ). set (live M.threads) p (record { tid = tid; body = plug (decode (at σ w K)) e })) placed
      ∙ ap (λ (d : Exp). set (live M.threads) (rank M.threads i) (record { tid = tid; body = d })) (plug_decoded σ w K e ∙ sym h)
      ∙ sym (live_set (λ i t. decode_thread t) M.threads 0 i (running tid (at σ w K)) (running tid b) live_here refl)

  goes_on : (names : ℕ → Slot) (b : Control) (e : Exp) → decode b ≡ fill σ K e →
      Some (becomes (decode_state M) m thread names e) ≡ Some (decode_state (goes_to M i tid names b))
  goes_on names b e h = ap Some (state_is names (threads_go_on b e h))

  gives_alike : (names : ℕ → Slot) (v : Value) →
      Some (becomes (decode_state M) m thread names (value v)) ≡ Some (decode_state (gives M i tid σ K names v))
  gives_alike names v = goes_on names (return σ v K) (value v) (return_keeps σ v K)

  enters_alike : (e : Expr) (E : Exp) → closed σ e ≡ E →
      Some (becomes (decode_state M) m thread M.names E) ≡ Some (decode_state (goes_to M i tid M.names (enter σ e K)))
  enters_alike e E h = goes_on M.names (enter σ e K) E (enter_keeps σ e K ∙ ap (fill σ K) h)

  -- A new thing.
  makes_alike : m.fresh ≡ M.next → M.names M.next ≡ unused → (new : Slot) →
      named (decode_state M) m thread new ≡ Some (decode_state (creates M i tid σ K new))
  makes_alike fresh free new =
      ap (λ (n : ℕ). if_unused (M.names n) >> Some (becomes (decode_state M) m thread (update M.names n new) (value (name n)))) fresh
      ∙ ap (λ (sl : Slot). if_unused sl >> Some (becomes (decode_state M) m thread (update M.names M.next new) (value (name M.next)))) free
      ∙ gives_alike (update M.names M.next new) (name M.next)

  -- A new thread stands last.
  spawns_alike : (e : Expr) (n : ℕ) →
      Some (with_thread (record { tid = n; body = closed σ e }) (becomes (decode_state M) m thread M.names zero_exp))
      ≡ Some (decode_state (add_thread (running n (enter σ e [])) (gives M i tid σ K M.names zero_value)))
  spawns_alike e n = ap Some (state_is M.names (
      ap (λ (l : List Thread). l ++ (record { tid = n; body = closed σ e } ∷ [])) (threads_go_on (return σ zero_value K) zero_exp (return_keeps σ zero_value K))
      ∙ ap (λ (d : Exp). live after ++ (record { tid = n; body = d } ∷ [])) (sym (enter_keeps σ e []))
      ∙ sym (live_append (λ i t. decode_thread t) after 0 (running n (enter σ e [])) refl)))
    where
      after : List MachineThread
      after = set M.threads i (running tid (return σ zero_value K))

  -- ---- Join

  abbrev joins : (n : ℕ) → Option Machine
  joins n = lowest n M.threads >>= λ j. slice_get M.threads j >>= λ u. Some (mark_joined j u (gives M i tid σ K M.names zero_value))

  abbrev joined_at : (p : ℕ) → State
  joined_at p = without_thread p (becomes (decode_state M) m thread M.names zero_exp)

  -- The thread that is joined leaves the calculus, and is marked in the machine. The one that joins is at a word, so it is another.
  joined_leaves : (n j : ℕ) (L : JoinableAt n M.threads j) →
      joined_at (rank M.threads j) ≡ decode_state (mark_joined j L.thread (gives M i tid σ K M.names zero_value))
  joined_leaves n j L = state_is M.names (
      ap (λ (l : List Thread). remove l (rank ts j)) (threads_go_on (return σ zero_value K) zero_exp (return_keeps σ zero_value K))
      ∙ ap (remove (live after)) (sym (rank_set ts i j (running tid (at σ w K)) moved live_here refl))
      ∙ sym (live_join (λ i t. decode_thread t) after 0 j L.thread (as_joined L.thread)
      (record { there = set_elsewhere ts i j moved apart ∙ L.there; not_joined = L.can.not_joined }) refl))
    where
      ts : List MachineThread
      ts = M.threads

      moved : MachineThread
      moved = running tid (return σ zero_value K)

      after : List MachineThread
      after = set ts i moved

      apart : i ≢ j
      apart = joiner_is_another n ts i j (running tid (at σ w K)) here refl L

  joins_alike : (n : ℕ) → ((j : ℕ) → lowest n M.threads ≡ Some j → m.finished ≡ rank M.threads j) →
      (slice_get (live M.threads) m.finished >>= λ u. if_equal u.tid n >> (value_of (next_word u.body) >> Some (joined_at m.finished)))
      ≡ option_map decode_state (joins n)
  joins_alike n listed = by_cases (lowest n M.threads) refl
    where
      asked : (p : ℕ) → Thread → Option State
      asked p u = if_equal u.tid n >> (value_of (next_word u.body) >> Some (joined_at p))

      by_cases : (o : Option ℕ) → lowest n M.threads ≡ o → (slice_get (live M.threads) m.finished >>= asked m.finished)
          ≡ option_map decode_state (o >>= λ j. slice_get M.threads j >>= λ u. Some (mark_joined j u (gives M i tid σ K M.names zero_value)))
      by_cases None q = no_join M.threads n m.finished (Some (joined_at m.finished)) q
      by_cases (Some j) q =
          let L = lowest_found n M.threads j q in
          ap (λ (p : ℕ). slice_get (live M.threads) p >>= asked p) (listed j q)
          ∙ ap (λ (o : Option Thread). o >>= asked (rank M.threads j))
          (live_at (λ i t. decode_thread t) M.threads 0 j L.thread (record { there = L.there; not_joined = L.can.not_joined }))
          ∙ ap (λ (o : Option (Unit {0})). o >> (value_of (next_word (decode L.thread.control)) >> Some (joined_at (rank M.threads j))))
          (equal_complete L.thread.tid n L.can.same)
          ∙ ap (λ (b : Control). value_of (next_word (decode b)) >> Some (joined_at (rank M.threads j))) L.can.finished
          ∙ ap Some (joined_leaves n j L)
          ∙ sym (ap (λ (o : Option MachineThread). option_map decode_state (o >>= λ u. Some (mark_joined j u (gives M i tid σ K M.names zero_value)))) L.there)

-- ---- The words

-- The move lists, for a join, the lowest finished thread with its identifier.
abbrev pub ListsLowest : Machine → Move → Word → Type 0
ListsLowest M m w = (k : Position) (n j : ℕ) → w ≡ unary_word k join (name n) → lowest n M.threads ≡ Some j → m.finished ≡ rank M.threads j

found_erased : (ps : List sheet.Procedure) (f : ℕ) → slice_get (map erase_procedure ps) f ≡ option_map erase_procedure (slice_get ps f)
found_erased [] f = refl
found_erased (p ∷ ps) zero = refl
found_erased (p ∷ ps) (suc f) = found_erased ps f

part_closed : (c : Part) (σ : Env) (e₁ e₂ : Expr) → closed σ (part_of c e₁ e₂) ≡ part_listed c (closed σ e₁) (closed σ e₂)
part_closed first σ e₁ e₂ = refl
part_closed second σ e₁ e₂ = refl

unrolled_keeps : (c : Part) (σ : Env) (k : Position) (e : Expr) (K : List Frame) →
    decode (unrolled_part c σ k e K) ≡ fill σ K (part_listed c (let_in nowhere (closed σ e) (while (closed σ e))) zero_exp)
unrolled_keeps first σ k e K = run_part_keeps σ k e K
unrolled_keeps second σ k e K = return_keeps σ zero_value K

module _ (M : Machine) (i tid : ℕ) (σ : Env) (K : List Frame) (m : Move) (placed : m.thread ≡ rank M.threads i)
    (fresh : m.fresh ≡ M.next) (free : M.names M.next ≡ unused) (fit : Every ProcedureKept M.procedures) where
  abbrev pub Row : Word → Type 0
  Row w = AtWord M i tid σ w K → ListsLowest M m w → reduct (decode_procedures M) (decode_state M) m (decode_thread (running tid (at σ w K))) (redex σ w)
      ≡ option_map decode_state (step_word M i tid σ K m.part w)

  module _ {w : Word} (here : AtWord M i tid σ w K) where
    gives_row : (names : ℕ → Slot) (v : Value) →
        Some (becomes (decode_state M) m (decode_thread (running tid (at σ w K))) names (value v)) ≡ Some (decode_state (gives M i tid σ K names v))
    gives_row names v = gives_alike M i tid σ w K here m placed names v

    goes_row : (names : ℕ → Slot) (b : Control) (e : Exp) → decode b ≡ fill σ K e →
        Some (becomes (decode_state M) m (decode_thread (running tid (at σ w K))) names e) ≡ Some (decode_state (goes_to M i tid names b))
    goes_row names b e h = goes_on M i tid σ w K here m placed names b e h

    makes_row : (new : Slot) → named (decode_state M) m (decode_thread (running tid (at σ w K))) new ≡ Some (decode_state (creates M i tid σ K new))
    makes_row new = makes_alike M i tid σ w K here m placed fresh free new

  unary_alike : (k : Position) (o : Unary) (v : Value) → Row (unary_word k o v)
  unary_alike k join (int c) here listed = refl
  unary_alike k join (name n) here listed = ask (if_identifier (M.names n)) _ _ (λ _. joins_alike M i tid σ _ K here m placed n (λ j. listed k n j refl))
  unary_alike k ref v here listed = makes_row here (cell v)
  unary_alike k read v here listed = ask (name_of v) _ _ (λ n. ask (cell_value (M.names n)) _ _ (λ u. gives_row here M.names u))
  unary_alike k lock v here listed =
      ask (name_of v) _ _ (λ n. ask (lock_state (M.names n)) _ _ (λ l. ask (if_opened l) _ _ (λ _. gives_row here _ zero_value)))
  unary_alike k unlock v here listed =
      ask (name_of v) _ _ (λ n. ask (lock_state (M.names n)) _ _ (λ _. gives_row here _ zero_value))
  unary_alike k post v here listed = ask (name_of v) _ _ (λ n. ask (count (M.names n)) _ _ (λ c. gives_row here _ zero_value))
  unary_alike k wait v here listed =
      ask (name_of v) _ _ (λ n. ask (count (M.names n)) _ _ (λ c. ask (one_less c) _ _ (λ _. gives_row here _ zero_value)))
  unary_alike k (hold w) v here listed =
      ask (name_of v) _ _ (λ n. ask (rw_state (M.names n)) _ _ (λ p. ask (inside_after p.0 w p.1) _ _ (λ _. gives_row here _ zero_value)))
  unary_alike k (call f) v here listed =
      ap (λ (o : Option Procedure). o >>= λ p. Some (becomes (decode_state M) m (decode_thread (running tid (at σ (unary_word k (call f) v) K))) M.names
      (substitute p.parameter v p.body))) (found_erased M.procedures f)
      ∙ by_cases (slice_get M.procedures f) refl
    where
      by_cases : (o : Option sheet.Procedure) → slice_get M.procedures f ≡ o →
          (option_map erase_procedure o >>= λ p. Some (becomes (decode_state M) m (decode_thread (running tid (at σ (unary_word k (call f) v) K))) M.names
          (substitute p.parameter v p.body)))
          ≡ option_map decode_state (o >>= λ p. Some (goes_to M i tid M.names (enter (update zeros p.parameter v) p.body (mark_frame σ ∷ K))))
      by_cases None q = refl
      by_cases (Some p) q = goes_row here M.names (enter (update zeros p.parameter v) p.body (mark_frame σ ∷ K)) _
          (enter_keeps (update zeros p.parameter v) p.body (mark_frame σ ∷ K)
          ∙ ap (fill σ K) (argument_put_lem zeros p.parameter v p.body (every_at ProcedureKept M.procedures f p fit q)))

  -- A `let` changes the environment of all that is still to run. What is in the frames does not use it.
  let_keeps : (k : Position) (x : ℕ) (v : Value) (e : Expr) → Nested (WordBinds (let_word k x v e)) K →
      decode (enter (update σ x v) e K) ≡ fill σ K (substitute x v (closed_under σ x e))
  let_keeps k x v e n =
      enter_keeps (update σ x v) e K
      ∙ sym (fill_agree σ x v K (λ y. (y ≡ x) ⊎ _) (inl refl) n (closed (update σ x v) e))
      ∙ ap (fill σ K) (sym (substitute_hidden e σ x v))

  pub word_alike : (w : Word) → Nested (WordBinds w) K → Row w
  word_alike (let_word k x v e) n here listed = goes_row here M.names _ _ (let_keeps k x v e n)
  word_alike (if_word k e₁ e₂) n here listed = enters_alike M i tid σ _ K here m placed (part_of m.part e₁ e₂) _ (part_closed m.part σ e₁ e₂)
  word_alike (while_word k e) n here listed = goes_row here M.names (at σ (unrolled_word k e) K) _ refl
  word_alike (spawn_word k v e) n here listed = ask (name_of v) _ _ (λ c. ask (if_identifier (M.names c)) _ _ (λ _. spawns_alike M i tid σ _ K here m placed e c))
  word_alike (write_word k v u) n here listed =
      ask (name_of v) _ _ (λ c. ask (cell_value (M.names c)) _ _ (λ _. gives_row here _ zero_value))
  word_alike (unary_word k o v) n here listed = unary_alike k o v here listed
  word_alike (nullary_word k o) n here listed = makes_row here (made o)
  word_alike (unrolled_word k e) n here listed =
      goes_row here M.names (unrolled_part m.part σ k e K) _ (unrolled_keeps m.part σ k e K)
  word_alike (again_word k v e) n here listed =
      goes_row here M.names (at σ (while_word k e) K) _ (sym (ap (λ (d : Exp). fill σ K (while d)) (substitute_closed e σ nowhere v)))

-- ---- Steps

control_alike : (M : Machine) (i tid : ℕ) (b : Control) (m : Move) → Every ProcedureKept M.procedures → ControlOk b → M.names M.next ≡ unused →
    slice_get M.threads i ≡ Some (running tid b) → m.thread ≡ rank M.threads i → m.fresh ≡ M.next →
    ((σ : Env) (w : Word) (K : List Frame) → b ≡ at σ w K → ListsLowest M m w) →
    (next_redex b >>= λ r. reduct (decode_procedures M) (decode_state M) m (decode_thread (running tid b)) r) ≡ option_map decode_state (step_control M i m.part tid b)
control_alike M i tid (done v) m fit ok free here placed fresh listed = refl
control_alike M i tid (at σ w K) m fit ok free here placed fresh listed = word_alike M i tid σ K m placed fresh free fit w ok.1 here (listed σ w K refl)

pub live_is : (t : MachineThread) → t.joined ≡ false → t ≡ running t.tid t.control
live_is t h = ap (λ (b : Bool). record { tid = t.tid; joined = b; control = t.control }) h

pub step_of_live : (M : Machine) (i : ℕ) (c : Part) (t : MachineThread) → LiveAt M.threads i t → step M i c ≡ step_control M i c t.tid t.control
unfolding step
step_of_live M i c t h =
    ap (λ (o : Option MachineThread). o >>= λ u. step_thread M i c u u.joined) h.there ∙ ap (step_thread M i c t) h.not_joined

-- What the calculus does with a move of that thread.
pub reduce_of_live : (M : Machine) (i : ℕ) (t : MachineThread) (m : Move) → LiveAt M.threads i t → m.thread ≡ rank M.threads i →
    reduce (decode_procedures M) (decode_state M) m ≡ (next_redex t.control >>= λ r. reduct (decode_procedures M) (decode_state M) m (decode_thread t) r)
unfolding reduce
reduce_of_live M i t m h placed =
    ap (λ (p : ℕ). slice_get (live M.threads) p >>= λ u. word_of (next_word u.body) >>= λ r. reduct (decode_procedures M) (decode_state M) m u r) placed
    ∙ ap (λ (o : Option Thread). o >>= λ u. word_of (next_word u.body) >>= λ r. reduct (decode_procedures M) (decode_state M) m u r) (live_at (λ i t. decode_thread t) M.threads 0 i t h)
    ∙ ap (λ (o : Option Redex). o >>= λ r. reduct (decode_procedures M) (decode_state M) m (decode_thread t) r) (word_of_decoded t.control)

pub step_exact : (M : Machine) (i : ℕ) (t : MachineThread) (m : Move) → Every ProcedureKept M.procedures → ControlOk t.control → M.names M.next ≡ unused → LiveAt M.threads i t →
    m.thread ≡ rank M.threads i → m.fresh ≡ M.next → ((σ : Env) (w : Word) (K : List Frame) → t.control ≡ at σ w K → ListsLowest M m w) →
    reduce (decode_procedures M) (decode_state M) m ≡ option_map decode_state (step M i m.part)
step_exact M i t m fit ok free h placed fresh listed =
    reduce_of_live M i t m h placed
    ∙ control_alike M i t.tid t.control m fit ok free (h.there ∙ ap Some (live_is t h.not_joined)) placed fresh listed
    ∙ ap (option_map decode_state) (sym (step_of_live M i m.part t h))
