-- The lowest pair that the numbers show is the machine's.
use Rattle.std.proofs.Common.{Option, None, Some, slice_get}
use Prim.Native.Nat.{ℕ, zero, suc, ◌+◌, ◌-◌}
use mathlib.Core.Path.{◌≡◌, refl, sym, ◌∙◌, ap, subst}
use mathlib.Core.Bool.{Bool, true, false, ◌||◌}
use mathlib.Core.List.{List, [], ◌∷◌}
use native.Mathlib.Omega.{arith}
use native.Mathlib.Decide.{ℕ_discrete}
use borrow.Author.Tests.{eq-eqb, ne_eqb}
use lib.Dec.{eqb}
use lib.ListN.{length}
use Rattle.spec.specs.Choice.{when◌then◌else◌}
use Rattle.spec.specs.Expression.{Position}
use Rattle.spec.specs.declared.Word.{Word}
use Rattle.spec.specs.declared.Word.TheVariants.{Unary, Binary}
use Rattle.spec.specs.declared.BinaryWord.TheVariants.{Write as WriteWord}
use Rattle.calculus.specs.Expression as calculus
use Rattle.calculus.specs.Expression.{Value, int, name, read, Redex}
use Rattle.calculus.specs.State as state
use Rattle.calculus.specs.State.{unused, identifier, cell, a_lock, opened, closed, semaphore, rwlock, readers, writer}
use Rattle.calculus.specs.Reduction.{◌>>◌, cell_value}
use Rattle.workspace.specs.Layout.{rule_of, code_of, touch_of, printed}
use Rattle.workspace.specs.declared.Touch.{Touch}
use Rattle.workspace.specs.declared.Touch.TheVariants.{Nothing, Reads}
use Rattle.threads.specs.declared.Threads.{Threads}
use Rattle.replay_control.specs.declared.ControlPoint.{ControlPoint}
use Rattle.replay_control.specs.Control.{kept, ready_at}
use Rattle.replay_objects.specs.declared.Thing.{Thing}
use Rattle.replay_objects.specs.declared.Thing.TheVariants.{Unused}
use Rattle.replay_engine.specs.declared.races.Access.{Access}
use Rattle.replay_engine.specs.declared.races.Access.TheVariants.{Read, Write}
use Rattle.replay_step.specs.Slots.{thing_at}
use Rattle.replay_engine.specs.ControlPoints.{control_point_at}
use Rattle.replay_engine.specs.Races.{is_cell, names_cell, access_by, access_at, access_of, reads, writes, clash, partner_of, partner_from, pair_with, pair_of, lowest_pair}
use Rattle.replay_theory.specs.Run.{unary_traits, traits}
use Rattle.replay_theory.proofs.Traits.{unary_plain}
use Rattle.replay_theory.specs.LowestPair as uses
use Rattle.replay_theory.specs.LowestPair.{Uses, uses_of, if_cell, same_cell, clashing, pair_or, lowest_among}
use Rattle.replay_machine.specs.Control as machine
use Rattle.replay_machine.specs.Control.{Control, done, at, redex, next_redex}
use Rattle.replay_machine.specs.State.{MachineThread, unless, of_live}
use Rattle.replay_machine.specs.Step.{is_done}
use Rattle.replay_machine.specs.Replay as replay
use Rattle.replay_machine.specs.Replay.{Replay, uses_in}
use Rattle.replay_simulation.proofs.Held.{code_value, part_word, RowOf, WordAt, ControlAt}
use Rattle.replay_simulation.proofs.Holds.{coded, Holds}
use Rattle.replay_simulation.proofs.Naming.{slot_decodes}

-- ------------------------------------------------------------------ two threads

-- what a thread is about to use, as the numbers show it
abbrev pub AccessIs : Option Access → Uses → Type 0
AccessIs None u = (u.reading ≡ None) × (u.writing ≡ None)
AccessIs (Some (Read zero)) u = ⊥
AccessIs (Some (Read (suc n))) u = (u.reading ≡ Some n) × (u.writing ≡ None)
AccessIs (Some (Write zero)) u = ⊥
AccessIs (Some (Write (suc n))) u = (u.reading ≡ None) × (u.writing ≡ Some n)

eqb_swap : (m n : ℕ) → eqb (suc m) (suc n) ≡ eqb n m
eqb_swap m n = go (ℕ_discrete m n)
  where
    go : Dec (m ≡ n) → eqb (suc m) (suc n) ≡ eqb n m
    go (yes e) = eq-eqb (suc m) (suc n) (ap suc e) ∙ sym (eq-eqb n m (sym e))
    go (no f) = ne_eqb (suc m) (suc n) (λ e. f (omega (arith, e))) ∙ sym (ne_eqb n m (λ e. f (sym e)))

or_none_lem : (b : Bool) → b ≡ (b || (false || false))
or_none_lem true = refl
or_none_lem false = refl

or_last : (b : Bool) → (when b then true else false) ≡ (b || false)
or_last true = refl
or_last false = refl

abbrev uses_both : (reading writing : Option ℕ) → Uses
uses_both r w = record { reading = r; writing = w }

-- two threads, by what they are about to use
told : {x y : Uses} {r w r' w' : Option ℕ} → (x.reading ≡ r) × (x.writing ≡ w) → (y.reading ≡ r') × (y.writing ≡ w') → uses.clash (uses_both r w) (uses_both r' w') ≡ uses.clash x y
told (a, b) (c, d) = sym (λ i. uses.clash (uses_both (a i) (b i)) (uses_both (c i) (d i)))

clash_alike : (a b : Option Access) (x y : Uses) → AccessIs a x → AccessIs b y → clash a b ≡ uses.clash x y
unfolding clash reads writes uses.clash same_cell
clash_alike None None x y h k = told h k
clash_alike None (Some (Read (suc m))) x y h k = told h k
clash_alike None (Some (Write (suc m))) x y h k = told h k
clash_alike (Some (Read (suc n))) None x y h k = told h k
clash_alike (Some (Read (suc n))) (Some (Read (suc m))) x y h k = told h k
clash_alike (Some (Read (suc n))) (Some (Write (suc m))) x y h k = eqb_swap m n ∙ told h k
clash_alike (Some (Write (suc n))) None x y h k = told h k
clash_alike (Some (Write (suc n))) (Some (Read (suc m))) x y h k = eqb_swap m n ∙ or_none_lem (eqb n m) ∙ told h k
clash_alike (Some (Write (suc n))) (Some (Write (suc m))) x y h k = ap (λ (b : Bool). when b then true else false) (eqb_swap m n) ∙ or_last (eqb n m) ∙ told h k
clash_alike None (Some (Read zero)) x y h k = elim k [ ]
clash_alike None (Some (Write zero)) x y h k = elim k [ ]
clash_alike (Some (Read zero)) b x y h k = elim h [ ]
clash_alike (Some (Read (suc n))) (Some (Read zero)) x y h k = elim k [ ]
clash_alike (Some (Read (suc n))) (Some (Write zero)) x y h k = elim k [ ]
clash_alike (Some (Write zero)) b x y h k = elim h [ ]
clash_alike (Some (Write (suc n))) (Some (Read zero)) x y h k = elim k [ ]
clash_alike (Some (Write (suc n))) (Some (Write zero)) x y h k = elim k [ ]

-- ------------------------------------------------------------------ all threads

clash_none : (a : Option Access) → clash a None ≡ false
unfolding clash reads writes
clash_none None = refl
clash_none (Some (Read v)) = refl
clash_none (Some (Write v)) = refl

module _ (p s : List ℕ) (uses_at : ℕ → MachineThread → ℕ × Uses) (numbered : (i : ℕ) (th : MachineThread) → (uses_at i th).0 ≡ i) where
  -- what the numbers show of a thread: nothing of a joined one
  abbrev Shown : (i : ℕ) → MachineThread → Type 0
  Shown i th = (th.joined ≡ true → access_of p s i ≡ None) × (th.joined ≡ false → AccessIs (access_of p s i) (uses_at i th).1)

  abbrev AllShown : (i : ℕ) → List MachineThread → Type 0
  AllShown i ts = (m : ℕ) (th : MachineThread) → slice_get ts m ≡ Some th → Shown (i + m) th

  later_shown : (i : ℕ) (th : MachineThread) (ts : List MachineThread) → AllShown i (th ∷ ts) → AllShown (i + 1) ts
  later_shown i th ts all m u h = subst (λ (j : ℕ). Shown j u) (let e : i + suc m ≡ i + 1 + m = omega arith in e) (all (suc m) u h)

  first_shown : (i : ℕ) (th : MachineThread) (ts : List MachineThread) → AllShown i (th ∷ ts) → Shown i th
  first_shown i th ts all = subst (λ (j : ℕ). Shown j th) (let e : i + 0 ≡ i = omega arith in e) (all 0 th refl)

  next_live : (i : ℕ) (ts : List MachineThread) → of_live uses_at (i + 1) ts ≡ of_live uses_at (suc i) ts
  next_live i ts = ap (λ (j : ℕ). of_live uses_at j ts) (let e : i + 1 ≡ suc i = omega arith in e)

  partner_alike : (a : Option Access) (u : Uses) → AccessIs a u → (ts : List MachineThread) (i : ℕ) → AllShown i ts → (partner_of p s a i (length ts)) ≡ clashing u (of_live uses_at i ts)
  unfolding partner_of clashing
  partner_alike a u is [] i all = refl
  partner_alike a u is (th ∷ ts) i all =
      by_record th.joined refl (partner_alike a u is ts (i + 1) (later_shown i th ts all) ∙ ap (clashing u) (next_live i ts))
    where
      by_record : (j : Bool) → th.joined ≡ j → (partner_of p s a (i + 1) (length ts)) ≡ clashing u (of_live uses_at (suc i) ts) →
          (when clash a (access_of p s i) then Some i else partner_of p s a (i + 1) (length ts)) ≡ clashing u (unless j (λ l. uses_at i th ∷ l) (of_live uses_at (suc i) ts))
      by_record true e rest = rw ((first_shown i th ts all).0 e, clash_none a) rest
      by_record false e rest = rw (clash_alike a (access_of p s i) u (uses_at i th).1 is ((first_shown i th ts all).1 e)) (by_clash (uses.clash u (uses_at i th).1))
        where
          by_clash : (b : Bool) → (when b then Some i else partner_of p s a (i + 1) (length ts)) ≡ (when b then Some (uses_at i th).0 else clashing u (of_live uses_at (suc i) ts))
          by_clash true = ap Some (sym (numbered i th))
          by_clash false = rest

  -- a thread that shows nothing has no partner
  none_alone : (n j : ℕ) → partner_of p s None j n ≡ None
  unfolding partner_of clash
  none_alone zero j = refl
  none_alone (suc n) j = none_alone n (j + 1)

  pairs_alike : (ts : List MachineThread) (i : ℕ) → AllShown i ts → (count : ℕ) → count ≡ i + length ts → (pair_of p s count i (length ts)) ≡ lowest_among (of_live uses_at i ts)
  unfolding pair_of lowest_among partner_from pair_with pair_or
  pairs_alike [] i all count e = refl
  pairs_alike (th ∷ ts) i all count e =
      by_record th.joined refl (pairs_alike ts (i + 1) (later_shown i th ts all) count (omega (arith, e)) ∙ ap lowest_among (next_live i ts))
    where
      left : count - (i + 1) ≡ length ts
      left = omega (arith, e)

      with_partner : (a : Option ℕ) (later o : Option (ℕ × ℕ)) → later ≡ o → pair_with i a later ≡ pair_or i (a) o
      with_partner None later o h = h
      with_partner (Some j) later o h = refl

      by_record : (j : Bool) → th.joined ≡ j → (pair_of p s count (i + 1) (length ts)) ≡ lowest_among (of_live uses_at (suc i) ts) →
          (pair_with i (partner_of p s (access_of p s i) (i + 1) (count - (i + 1))) (pair_of p s count (i + 1) (length ts))) ≡ lowest_among (unless j (λ l. uses_at i th ∷ l) (of_live uses_at (suc i) ts))
      by_record true f rest = rw ((first_shown i th ts all).0 f, none_alone (count - (i + 1)) (i + 1)) rest
      by_record false f rest =
          with_partner (partner_of p s (access_of p s i) (i + 1) (count - (i + 1))) (pair_of p s count (i + 1) (length ts)) (lowest_among (of_live uses_at (suc i) ts)) rest
          ∙ (λ z. pair_or (sym (numbered i th) z) (partnered z) (lowest_among (of_live uses_at (suc i) ts)))
        where
          partnered : (partner_of p s (access_of p s i) (i + 1) (count - (i + 1))) ≡ clashing (uses_at i th).1 (of_live uses_at (suc i) ts)
          partnered =
              ap (λ (n : ℕ). (partner_of p s (access_of p s i) (i + 1) n)) left
              ∙ partner_alike (access_of p s i) (uses_at i th).1 ((first_shown i th ts all).1 f) ts (i + 1) (later_shown i th ts all)
              ∙ ap (clashing (uses_at i th).1) (next_live i ts)

-- ------------------------------------------------------------------ one thread

-- the cell that a value names is shown as the access f to it
abbrev CellShown : Thing → (ℕ → Access) → (n : ℕ) → Uses → Type 0
CellShown x f n u = AccessIs (when is_cell x then Some (f (suc n)) else None) u

module _ (n : ℕ) where
  reads_cell : (sl : state.Slot) → CellShown (coded sl) Read n (uses_both (cell_value sl >> Some n) None)
  reads_cell unused = (refl, refl)
  reads_cell identifier = (refl, refl)
  reads_cell (cell v) = (refl, refl)
  reads_cell (a_lock opened) = (refl, refl)
  reads_cell (a_lock closed) = (refl, refl)
  reads_cell (semaphore c) = (refl, refl)
  reads_cell (rwlock N (readers k)) = (refl, refl)
  reads_cell (rwlock N writer) = (refl, refl)

  writes_cell : (sl : state.Slot) → CellShown (coded sl) Write n (uses_both None (cell_value sl >> Some n))
  writes_cell unused = (refl, refl)
  writes_cell identifier = (refl, refl)
  writes_cell (cell v) = (refl, refl)
  writes_cell (a_lock opened) = (refl, refl)
  writes_cell (a_lock closed) = (refl, refl)
  writes_cell (semaphore c) = (refl, refl)
  writes_cell (rwlock N (readers k)) = (refl, refl)
  writes_cell (rwlock N writer) = (refl, refl)

-- what a word does with a cell
abbrev touched : Word → Touch
touched w = touch_of (rule_of (code_of w))

module _ (p s : List ℕ) (row : ℕ) {q : Position} {w : Word} {n : ℕ} (r : RowOf p q w n) where
  -- a word that has its last value
  ready_access : (x : ℕ) → access_at p s (ready_at row q.index x) ≡ access_by (touched w) s (ready_at row q.index x)
  unfolding access_at
  ready_access x = rw r.code

  quiet : (x : ℕ) → touched w ≡ Nothing → access_at p s (ready_at row q.index x) ≡ None
  unfolding access_by
  quiet x e = ready_access x ∙ ap (λ (u : Touch). access_by u s (ready_at row q.index x)) e

module _ (p s : List ℕ) (row : ℕ) (names : ℕ → state.Slot) (slot_of : (n : ℕ) → thing_at s (suc n) ≡ coded (names n)) (constant : thing_at s 0 ≡ Unused) where
  -- the thread shows what its word is about to use
  abbrev ShowsUse : ControlPoint → Redex → Type 0
  ShowsUse f w = AccessIs (access_at p s f) (uses_of names (Some w))

  silent : (f : ControlPoint) (u : Uses) → access_at p s f ≡ None → (u.reading ≡ None) × (u.writing ≡ None) → AccessIs (access_at p s f) u
  silent f u e h = subst (λ (a : Option Access). AccessIs a u) (sym e) h

  read_shows : (σ : _) (q : Position) (v : Value) {n : ℕ} → RowOf p q (Unary (part_word read)) n → ShowsUse (ready_at row q.index (code_value v)) (redex σ (machine.unary_word q read v))
  unfolding unary_traits traits uses_of if_cell access_by names_cell rule_of printed
  read_shows σ q v r =
      subst (λ (a : Option Access). AccessIs a (uses_of names (Some (redex σ (machine.unary_word q read v))))) (sym (ready_access p s row r (code_value v))) (by_value v)
    where
      by_value : (v : Value) → AccessIs (access_by Reads s (ready_at row q.index (code_value v))) (uses_of names (Some (redex σ (machine.unary_word q read v))))
      by_value (int k) = rw constant (refl, refl)
      by_value (name m) = rw (slot_of m) (reads_cell m (names m))

  write_shows : (σ : _) (q : Position) (v w : Value) {n : ℕ} → RowOf p q (Binary WriteWord) n → kept s row q.index ≡ code_value v → ShowsUse (ready_at row q.index (code_value w)) (redex σ (machine.write_word q v w))
  unfolding traits uses_of if_cell access_by names_cell rule_of printed
  write_shows σ q v w r held =
      subst (λ (a : Option Access). AccessIs a (uses_of names (Some (redex σ (machine.write_word q v w))))) (sym (ready_access p s row r (code_value w))) (rw held (by_value v))
    where
      by_value : (v : Value) → AccessIs (when names_cell s (code_value v) then Some (Write (code_value v)) else None) (uses_of names (Some (redex σ (machine.write_word q v w))))
      by_value (int k) = rw constant (refl, refl)
      by_value (name m) = rw (slot_of m) (writes_cell m (names m))

  -- any other word with one part
  part_silent : (σ : _) (q : Position) (o : calculus.Unary) (v : Value) {n : ℕ} → RowOf p q (Unary (part_word o)) n → touched (Unary (part_word o)) ≡ Nothing → ((x : Value) → (unary_traits o x).reading ≡ None) →
      ShowsUse (ready_at row q.index (code_value v)) (redex σ (machine.unary_word q o v))
  unfolding traits uses_of if_cell
  part_silent σ q o v r no_touch no_read =
      silent (ready_at row q.index (code_value v)) (uses_of names (Some (redex σ (machine.unary_word q o v)))) (quiet p s row r (code_value v) no_touch)
      (ap (if_cell names) (no_read v), ap (if_cell names) (unary_plain o v).1)

  part_shows : (σ : _) (q : Position) (o : calculus.Unary) (v : Value) {n : ℕ} → RowOf p q (Unary (part_word o)) n → ShowsUse (ready_at row q.index (code_value v)) (redex σ (machine.unary_word q o v))
  unfolding unary_traits rule_of printed
  part_shows σ q read v r = read_shows σ q v r
  part_shows σ q calculus.join v r = part_silent σ q calculus.join v r refl (λ x. refl)
  part_shows σ q calculus.ref v r = part_silent σ q calculus.ref v r refl (λ x. refl)
  part_shows σ q calculus.lock v r = part_silent σ q calculus.lock v r refl (λ x. refl)
  part_shows σ q calculus.unlock v r = part_silent σ q calculus.unlock v r refl (λ x. refl)
  part_shows σ q calculus.post v r = part_silent σ q calculus.post v r refl (λ x. refl)
  part_shows σ q calculus.wait v r = part_silent σ q calculus.wait v r refl (λ x. refl)
  part_shows σ q (calculus.hold calculus.rdlock) v r = part_silent σ q (calculus.hold calculus.rdlock) v r refl (λ x. refl)
  part_shows σ q (calculus.hold calculus.rdunlock) v r = part_silent σ q (calculus.hold calculus.rdunlock) v r refl (λ x. refl)
  part_shows σ q (calculus.hold calculus.wrlock) v r = part_silent σ q (calculus.hold calculus.wrlock) v r refl (λ x. refl)
  part_shows σ q (calculus.hold calculus.wrunlock) v r = part_silent σ q (calculus.hold calculus.wrunlock) v r refl (λ x. refl)
  part_shows σ q (calculus.call called) v r = part_silent σ q (calculus.call called) v r refl (λ x. refl)

  word_shows : (σ : _) (w : machine.Word) (f : ControlPoint) → WordAt p s row f w → ShowsUse f (redex σ w)
  unfolding traits uses_of if_cell access_at rule_of printed
  word_shows σ (machine.let_word q x v e) f (z, r, S) = subst (λ (g : ControlPoint). ShowsUse g (redex σ (machine.let_word q x v e))) (sym z) (silent (ready_at row q.index (code_value v)) (uses_both None None) (quiet p s row r (code_value v) refl) (refl, refl))
  word_shows σ (machine.if_word q e₁ e₂) f (z, n, r, S₁, S₂) = subst (λ (g : ControlPoint). ShowsUse g (redex σ (machine.if_word q e₁ e₂))) (sym z) (refl, refl)
  word_shows σ (machine.while_word q e) f (z, n, r, S) = subst (λ (g : ControlPoint). ShowsUse g (redex σ (machine.while_word q e))) (sym z) (refl, refl)
  word_shows σ (machine.spawn_word q v e) f (z, n, r, S) = subst (λ (g : ControlPoint). ShowsUse g (redex σ (machine.spawn_word q v e))) (sym z) (silent (ready_at row q.index (code_value v)) (uses_both None None) (quiet p s row r (code_value v) refl) (refl, refl))
  word_shows σ (machine.write_word q v w) f (z, n, r, held) = subst (λ (g : ControlPoint). ShowsUse g (redex σ (machine.write_word q v w))) (sym z) (write_shows σ q v w r held)
  word_shows σ (machine.unary_word q o v) f (z, n, r, N) = subst (λ (g : ControlPoint). ShowsUse g (redex σ (machine.unary_word q o v))) (sym z) (part_shows σ q o v r)
  word_shows σ (machine.nullary_word q o) f (z, n, r, N) = subst (λ (g : ControlPoint). ShowsUse g (redex σ (machine.nullary_word q o))) (sym z) (refl, refl)
  word_shows σ (machine.unrolled_word q e) f (z, n, r, S) = subst (λ (g : ControlPoint). ShowsUse g (redex σ (machine.unrolled_word q e))) (sym z) (refl, refl)
  word_shows σ (machine.again_word q v e) f (z, n, r, S) = subst (λ (g : ControlPoint). ShowsUse g (redex σ (machine.again_word q v e))) (sym z) (silent (ready_at row q.index (code_value v)) (uses_both None None) (quiet p s row r (code_value v) refl) (refl, refl))

-- ------------------------------------------------------------------ the lowest pair

module _ (p s : List ℕ) (T : Threads) (R : Replay) (H : Holds p s T R) where
  abbrev uses_at : ℕ → MachineThread → ℕ × Uses
  uses_at i th = (i, uses_of R.machine.names (next_redex th.control))

  done_shows : (i : ℕ) (d : Control) → is_done d ≡ true → ControlAt p s i (control_point_at s i) d → access_of p s i ≡ None
  unfolding access_of access_at
  done_shows i (done v) e C = ap (access_at p s) C
  done_shows i (at σ w K) e C = absurd (let z : ◌≡◌ {A = ℕ} 0 1 = cc in omega arith)

  control_shows : (i : ℕ) (d : Control) → ControlAt p s i (control_point_at s i) d → AccessIs (access_of p s i) (uses_of R.machine.names (next_redex d))
  unfolding access_of uses_of if_cell
  control_shows i (done v) C = subst (λ (a : Option Access). AccessIs a (uses_both None None)) (sym (done_shows i (done v) refl C)) (refl, refl)
  control_shows i (at σ w K) (values, W, F) = word_shows p s (control_point_at s i).row R.machine.names (λ n. slot_decodes H.names (name n)) H.names.constant σ w (control_point_at s i) W

  pub lowest_pair_alike : (lowest_pair p s T.count) ≡ replay.lowest_pair R
  unfolding lowest_pair replay.lowest_pair uses_in
  lowest_pair_alike =
      ap (λ (n : ℕ). (pair_of p s n 0 n)) H.sized.count
      ∙ pairs_alike p s uses_at (λ i th. refl) R.machine.threads 0 shown (length R.machine.threads) (omega arith)
    where
      shown : (m : ℕ) (th : MachineThread) → slice_get R.machine.threads m ≡ Some th → (th.joined ≡ true → access_of p s (0 + m) ≡ None) × (th.joined ≡ false → AccessIs (access_of p s (0 + m)) (uses_at (0 + m) th).1)
      shown m th h =
          let held = H.threads m th h in
          let z : 0 + m ≡ m = omega arith in (
            λ e. ap (access_of p s) z ∙ done_shows m th.control (held.settled e) held.control,
            λ e. subst (λ (a : Option Access). AccessIs a (uses_of R.machine.names (next_redex th.control))) (sym (ap (access_of p s) z)) (control_shows m th.control held.control),
          )
