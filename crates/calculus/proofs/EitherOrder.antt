-- Two steps on cells, of different threads, give the same state in either order: with no race they are on different cells, or both read.
use Rattle.std.proofs.Common.{Some}
use Prim.Native.Nat.{ℕ}
use mathlib.Core.Path.{◌≡◌, refl, sym, ap, ◌∙◌}
use mathlib.Core.Logic.{◌≢◌, ◌⊎◌, inl, inr}
use mathlib.Core.List.{List, ◌∷◌, ◌++◌}
use native.Mathlib.Decide.{ℕ_discrete}
use Rattle.calculus.specs.Expression.{Value, name, read, Exp, value, write_redex, unary_redex, Next, at_word, next_word, choose, Procedure, Program}
use Rattle.calculus.specs.State.{Slot, cell, Thread, State, Move, update}
use Rattle.calculus.specs.Reduction.{◌>>=◌, cell_value, zero_exp, becomes, word_of, reduct, reduce, or_else, attempt, run, start_state}
use Rattle.calculus.specs.Claim.{ThreadAt, AboutToRead, about_to_read, AboutToWrite, about_to_write, race, RaceFree, Safe, reached, AboutToUse, about_to_use, SameEitherWay, CellStepsSwap, InEitherOrder}
use Rattle.calculus.proofs.Laws.Maps.{update_other, updates_swap}
use Rattle.calculus.proofs.Laws.Places.{set_elsewhere, sets_swap}
use Rattle.calculus.proofs.Laws.Runs.{last_is_on_the_way, run_of_both, run_goes_on}

-- ---- One step

-- A step of thread t, by the move m, on the cell n that holds v: in every state with that thread and that cell the word becomes e, and the
-- names change so.
record CellStep (P : List Procedure) (m : Move) (t : Thread) (n : ℕ) (v : Value) (change : (ℕ → Slot) → ℕ → Slot) : Type 0 where
  e : Exp
  goes : (s : State) → ThreadAt s m.thread t → s.names n ≡ cell v → reduce P s m ≡ Some (becomes s m t (change s.names) e)

word_found : (P : List Procedure) (s : State) (m : Move) (t : Thread) {q : Next} → ThreadAt s m.thread t → next_word t.body ≡ q →
    reduce P s m ≡ (word_of q >>= reduct P s m t)
unfolding reduce
word_found P s m t there word =
    ap (λ o. o >>= λ u. word_of (next_word u.body) >>= reduct P s m u) there ∙ ap (λ q. word_of q >>= reduct P s m t) word

read_step : (P : List Procedure) (m : Move) (t : Thread) (n : ℕ) (v : Value) → next_word t.body ≡ at_word (unary_redex read (name n)) →
    CellStep P m t n v (λ names. names)
read_step P m t n v word = record {
  e = value v;
  goes = λ s there holds. word_found P s m t there word ∙ ap (λ sl. cell_value sl >>= λ w. Some (becomes s m t s.names (value w))) holds;
}

write_step : (P : List Procedure) (m : Move) (t : Thread) (n : ℕ) (v w : Value) → next_word t.body ≡ at_word (write_redex (name n) w) →
    CellStep P m t n v (λ names. update names n (cell w))
write_step P m t n v w word = record {
  e = zero_exp;
  goes = λ s there holds. word_found P s m t there word
      ∙ ap (λ sl. cell_value sl >>= λ z. Some (becomes s m t (update s.names n (cell w)) zero_exp)) holds;
}

-- ---- Two steps

same_state : {a b : State} → a.threads ≡ b.threads → a.names ≡ b.names → a ≡ b
same_state p q = λ i. record { threads = p i; names = q i }

cells_differ : {s : State} {t u : Thread} {n l : ℕ} (i j : ℕ) → RaceFree s → i ≢ j → ThreadAt s i t → ThreadAt s j u → AboutToWrite s t n →
    AboutToRead s u l ⊎ AboutToWrite s u l → l ≢ n
cells_differ i j free apart at_t at_u writes uses z = free (race i j _ _ _ apart at_t at_u writes (rw z at uses))

module _ (P : List Procedure) (s : State) (m k : Move) (t u : Thread) (apart : m.thread ≢ k.thread) (at_t : ThreadAt s m.thread t)
    (at_u : ThreadAt s k.thread u) where
  -- Neither changes the cell of the other, and the changes themselves may be made in either order.
  steps_swap : {n l : ℕ} {v w : Value} {f g : (ℕ → Slot) → ℕ → Slot} → CellStep P m t n v f → CellStep P k u l w g →
      s.names n ≡ cell v → s.names l ≡ cell w → g s.names n ≡ s.names n → f s.names l ≡ s.names l →
      g (f s.names) ≡ f (g s.names) → SameEitherWay P s m k
  steps_swap {f} {g} a b holds_v holds_w n_stays l_stays swap =
      let s₁ = becomes s m t (f s.names) a.e in
      let s₂ = becomes s k u (g s.names) b.e in
      let m_first = a.goes s at_t holds_v in
      let k_first = b.goes s at_u holds_w in
      let then_k = b.goes s₁ (set_elsewhere s.threads m.thread k.thread _ apart ∙ at_u) (l_stays ∙ holds_w) in
      let then_m = a.goes s₂ (set_elsewhere s.threads k.thread m.thread _ (λ z. apart (sym z)) ∙ at_t) (n_stays ∙ holds_v) in
      let same = same_state (sets_swap s.threads m.thread k.thread _ _ apart) swap in
      record {
        after = becomes s₁ k u (g (f s.names)) b.e;
        one_way = ap (λ o. o >>= λ z. reduce P z k) m_first ∙ then_k;
        other_way = ap (λ o. o >>= λ z. reduce P z m) k_first ∙ then_m ∙ ap Some (sym same);
      }

  race_free_swap : {n l : ℕ} → RaceFree s → AboutToRead s t n ⊎ AboutToWrite s t n → AboutToRead s u l ⊎ AboutToWrite s u l → SameEitherWay P s m k
  race_free_swap {n} {l} free (inl (about_to_read v c e)) (inl (about_to_read v' c' e')) =
      steps_swap (read_step P m t n v e) (read_step P k u l v' e') c c' refl refl refl
  race_free_swap {n} {l} free (inl (about_to_read v c e)) (inr (about_to_write v' w' c' e')) =
      let d : n ≢ l = cells_differ _ _ free (λ z. apart (sym z)) at_u at_t (about_to_write v' w' c' e') (inl (about_to_read v c e)) in
      steps_swap (read_step P m t n v e) (write_step P k u l v' w' e') c c' (update_other s.names l n _ d) refl refl
  race_free_swap {n} {l} free (inr (about_to_write v w c e)) (inl (about_to_read v' c' e')) =
      let d : l ≢ n = cells_differ _ _ free apart at_t at_u (about_to_write v w c e) (inl (about_to_read v' c' e')) in
      steps_swap (write_step P m t n v w e) (read_step P k u l v' e') c c' refl (update_other s.names n l _ d) refl
  race_free_swap {n} {l} free (inr (about_to_write v w c e)) (inr (about_to_write v' w' c' e')) =
      let d : l ≢ n = cells_differ _ _ free apart at_t at_u (about_to_write v w c e) (inr (about_to_write v' w' c' e')) in
      let d' : n ≢ l = λ z. d (sym z) in
      steps_swap (write_step P m t n v w e) (write_step P k u l v' w' e') c c' (update_other s.names l n _ d')
      (update_other s.names n l _ d) (updates_swap s.names n l _ _ d')

pub cell_steps_swap : {s : State} (P : List Procedure) → RaceFree s → CellStepsSwap P s
cell_steps_swap {s} P free m k t u apart at_t at_u (about_to_use n a) (about_to_use l b) = race_free_swap P s m k t u apart at_t at_u free a b

-- ---- The claim

-- It follows from safety alone: no typing is looked at.
pub safe_is_in_either_order : (p : Program) → Safe p → InEitherOrder p
safe_is_in_either_order p safe s (reached ms) =
    cell_steps_swap p.procedures (last_is_on_the_way p.procedures _ ms (start_state p) (safe ms)).0

-- ---- Two neighbouring moves of a list

-- A thread that can use a cell in s' could in s, if every cell of s' is one of s.
uses_before : {s s' : State} {u : Thread} → ((l : ℕ) (v : Value) → s'.names l ≡ cell v → (w : Value) × (s.names l ≡ cell w)) →
    AboutToUse s' u → AboutToUse s u
uses_before cells (about_to_use l (inl (about_to_read v c e))) = let (w, h) = cells l v c in about_to_use l (inl (about_to_read w h e))
uses_before cells (about_to_use l (inr (about_to_write v x c e))) = let (w, h) = cells l v c in about_to_use l (inr (about_to_write w x h e))

-- A write makes no new cell.
written_was_cell : {v : Value} (names : ℕ → Slot) (n : ℕ) (w : Value) → names n ≡ cell v → (l : ℕ) (z : Value) → update names n (cell w) l ≡ cell z →
    (y : Value) × (names l ≡ cell y)
written_was_cell {v} names n w holds l z = by_cases (ℕ_discrete l n)
  where
    by_cases : (d : Dec (l ≡ n)) → choose d (cell w) (names l) ≡ cell z → (y : Value) × (names l ≡ cell y)
    by_cases (yes p) h = (v, ap names p ∙ holds)
    by_cases (no p) h = (z, h)

-- What another thread can do after a step on a cell, it could do before it.
module _ (P : List Procedure) (s : State) (m k : Move) (t u : Thread) (apart : m.thread ≢ k.thread) (at_t : ThreadAt s m.thread t)
    (at_u : ThreadAt (attempt P s m) k.thread u) (uses_u : AboutToUse (attempt P s m) u) where
  before_step : {n : ℕ} {v : Value} {f : (ℕ → Slot) → ℕ → Slot} → CellStep P m t n v f → s.names n ≡ cell v →
      ((l : ℕ) (z : Value) → f s.names l ≡ cell z → (y : Value) × (s.names l ≡ cell y)) → ThreadAt s k.thread u × AboutToUse s u
  unfolding attempt
  before_step {f} a holds cells =
      let done : attempt P s m ≡ becomes s m t (f s.names) a.e = ap (λ o. or_else o s) (a.goes s at_t holds) in
      (sym (set_elsewhere s.threads m.thread k.thread _ apart) ∙ rw done at at_u, uses_before cells (rw done at uses_u))

  before_use : AboutToUse s t → ThreadAt s k.thread u × AboutToUse s u
  before_use (about_to_use n (inl (about_to_read v c e))) = before_step (read_step P m t n v e) c (λ l z h. (z, h))
  before_use (about_to_use n (inr (about_to_write v w c e))) = before_step (write_step P m t n v w e) c (written_was_cell s.names n w c)

-- What the claim gives for a list of moves: where a step on a cell comes right after one of another thread, the two may be swapped, and the
-- list ends in the same state, whatever stands before and behind them.
pub neighbours_swap : {p : Program} {t u : Thread} (ms rest : List Move) (m k : Move) → InEitherOrder p → m.thread ≢ k.thread →
    let P = p.procedures in
    let s = run P ms (start_state p) in
    ThreadAt s m.thread t → AboutToUse s t → ThreadAt (attempt P s m) k.thread u → AboutToUse (attempt P s m) u →
    run P (ms ++ (m ∷ k ∷ rest)) (start_state p) ≡ run P (ms ++ (k ∷ m ∷ rest)) (start_state p)
neighbours_swap {p} {t} {u} ms rest m k claim apart at_t uses_t at_u uses_u =
    let P = p.procedures in
    let s = run P ms (start_state p) in
    let (was_at_u, could_use_u) = before_use P s m k t u apart at_t at_u uses_u uses_t in
    let same = claim s (reached ms) m k t u apart at_t was_at_u uses_t could_use_u in
    run_of_both P ms (m ∷ k ∷ rest) (start_state p)
    ∙ run_goes_on P s same.after m k rest same.one_way
    ∙ sym (run_goes_on P s same.after k m rest same.other_way)
    ∙ sym (run_of_both P ms (k ∷ m ∷ rest) (start_state p))
