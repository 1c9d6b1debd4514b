-- The loop on numbers finds the word that the machine finds: by recursion on the expression entered, with what follows once it is a value
-- (`Follows`), as the machine's own `seek` goes. A value may end
-- open calls, each in the row before. Turns are counted: three a step and one an open call are enough.
use Prim.Native.Nat.{ℕ, suc, ◌+◌, ◌*◌, ◌-◌, ◌<◌, ◌≤◌}
use mathlib.Core.Path.{◌≡◌, refl, sym, ◌∙◌, ap, subst}
use mathlib.Core.Bool.{false}
use mathlib.Core.List.{List, [], ◌∷◌}
use native.Mathlib.Omega.{arith}
use lib.ListN.{length, set, length-set}
use lib.Seq.{get_or-set_same, get_or-set_other}
use Rattle.spec.specs.Expression.{Position, Expr, leaf, unary, binary, size}
use Rattle.spec.specs.Words.{largest_value}
use Rattle.spec.specs.declared.Word.{Word}
use Rattle.spec.specs.declared.Word.TheVariants.{Unary}
use Rattle.spec.specs.declared.LeafWord.TheVariants.{Var, Int, Newtid, Newlock, Newsem, Newrwlock}
use Rattle.spec.specs.declared.UnaryWord.TheVariants.{While, Join, Ref, Read, Lock, Unlock, Post, Wait, Rdlock, Rdunlock, Wrlock, Wrunlock, Call}
use Rattle.spec.specs.declared.BinaryWord.TheVariants.{Let, If, Spawn, Write}
use Rattle.calculus.specs.Expression as calculus
use Rattle.calculus.specs.Expression.{Value, int, join, ref, read, lock, unlock, post, wait, hold, rdlock, rdunlock, wrlock, wrunlock, call}
use Rattle.workspace.specs.Layout.{rule_of, code_of, printed, shape_of}
use Rattle.replay_control.specs.Layout.{second_part, finish, leave, kept_values_at, open_calls_at, space_size}
use Rattle.replay_control.specs.declared.ControlPoint.{ControlPoint}
use Rattle.replay_control.specs.Shapes.{is_write}
use Rattle.replay_control.specs.Control.{variable, kept, called_from, continuation, second, behind, entering, returning, stopped_at, ready_at, done_with, entered_by, found}
use Rattle.replay_control.proofs.Advances.{found_stop}
use Rattle.replay_machine.specs.Environment.{Env}
use Rattle.replay_machine.specs.Control as machine
use Rattle.replay_machine.specs.Control.{FrameForm, let_part, spawn_part, write_first, write_second, unary_part, again_part, Frame, step_frame, mark_frame, let_word, if_word, while_word, spawn_word, write_word, unary_word, nullary_word, again_word, Control, done, at, seek_part, seek, return, enter, run_part, marks}
use Rattle.replay_simulation.proofs.Held.{code_value, part_word, PartNumber, Row, RowOf, Stands, Values, PartAt, Frames, WordAt, place_of, ControlAt}
use Rattle.replay_simulation.proofs.Advancing.{row_of, by_position, behind_is, go, enters, to_first, to_second, to_other, to_end, to_caller, SameBut, RowIn, same_but_one}

-- ------------------------------------------------------------------ frames

module _ (p : List ℕ) (t : ℕ) where
  -- a higher bound
  pub frames_up : (s : List ℕ) (row b b' c : ℕ) (K : List Frame) → b ≤ b' → Frames p s t row b c K → Frames p s t row b' c K
  frames_up s row b b' c [] h F = F
  frames_up s row b b' c (step_frame q f ∷ K) h ((l, P), F) = ((omega (arith, l, h), P), F)
  frames_up s row b b' c (mark_frame σ ∷ K) h F = F

  -- in a space where the same is kept for the steps below b of a row and for the rows before it, which have the same variables and calls
  pub record RowsSame (row b : ℕ) (s s' : List ℕ) : Type 0 where
    pub here : (j : ℕ) → j < b → kept s' row j ≡ kept s row j
    pub before : (i j : ℕ) → 66 * t ≤ i → i < row → j < 256 → kept s' i j ≡ kept s i j
    pub variables : (i x : ℕ) → 66 * t ≤ i → i < row → x < 256 → variable s' i x ≡ variable s i x
    pub called : (i : ℕ) → 66 * t < i → i ≤ row → called_from s' i ≡ called_from s i

  -- of fewer steps
  rows_fewer : (s s' : List ℕ) (row b b' : ℕ) → b' ≤ b → RowsSame row b s s' → RowsSame row b' s s'
  rows_fewer s s' row b b' l h = record { here = λ j m. h.here j (omega (arith, l, m)); before = h.before; variables = h.variables; called = h.called }

  -- of the row before
  rows_before : (s s' : List ℕ) (row b b' : ℕ) → 66 * t < row → b' ≤ 256 → RowsSame row b s s' → RowsSame (row - 1) b' s s'
  rows_before s s' row b b' l m h = record {
    here = λ j n. h.before (row - 1) j (omega (arith, l)) (omega (arith, l)) (omega (arith, m, n));
    before = λ i j a n z. h.before i j a (omega (arith, n)) z;
    variables = λ i x a n z. h.variables i x a (omega (arith, n)) z;
    called = λ i a n. h.called i a (omega (arith, n));
  }

  -- only the first value of a `write` is kept
  part_same : (s s' : List ℕ) (row c : ℕ) (q : Position) (f : FrameForm) → kept s' row q.index ≡ kept s row q.index → PartAt p s row c q f → PartAt p s' row c q f
  part_same s s' row c q (let_part x e) h P = P
  part_same s s' row c q (spawn_part e) h P = P
  part_same s s' row c q (write_first e) h P = P
  part_same s s' row c q (write_second v) h (is, n, r, x) = (is, n, r, h ∙ x)
  part_same s s' row c q (unary_part o) h P = P
  part_same s s' row c q (again_part e) h P = P

  pub frames_same : (s s' : List ℕ) (row b c : ℕ) (K : List Frame) → RowsSame row b s s' → Frames p s t row b c K → Frames p s' t row b c K
  frames_same s s' row b c [] h F = F
  frames_same s s' row b c (step_frame q f ∷ K) h ((l, P), F) = (
    (l, part_same s s' row c q f (h.here q.index l) P),
    frames_same s s' row q.index (continuation p q.index) K (rows_fewer s s' row b q.index (omega (arith, l)) h) F,
  )
  frames_same s s' row b c (mark_frame σ ∷ K) h ((l, is, low, values), F) =
      let e = h.called row l (omega arith) in (
        (l, is, omega (arith, e, low), λ x m. h.variables (row - 1) x (omega (arith, l)) (omega (arith, l)) m ∙ values x m),
        subst (λ (k : ℕ). Frames p s' t (row - 1) k (continuation p k) K) (sym e)
            (frames_same s s' (row - 1) (called_from s row) (continuation p (called_from s row)) K (rows_before s s' row b (called_from s row) l (omega (arith, low)) h) F),
      )

  -- the value of step k is kept
  pub kept_other : (s : List ℕ) (row k x : ℕ) → t < 16 → RowIn t row → k < 256 → RowsSame row k s (set s (kept_values_at + 256 * row + k) x)
  unfolding kept variable called_from
  kept_other s row k x small (lo, hi) low = record {
    here = λ j l. get_or-set_other s (kept_values_at + 256 * row + k) (kept_values_at + 256 * row + j) x 0 (λ e. omega (arith, e, l));
    before = λ i j a l m. get_or-set_other s (kept_values_at + 256 * row + k) (kept_values_at + 256 * i + j) x 0 (λ e. omega (arith, e, l, m));
    variables = λ i y a l m. get_or-set_other s (kept_values_at + 256 * row + k) (0 + 256 * i + y) x 0 (λ e. omega (arith, e, l, m, hi, small));
    called = λ i a l. get_or-set_other s (kept_values_at + 256 * row + k) (open_calls_at + i) x 0 (λ e. omega (arith, e, hi, small, low));
  }

  pub kept_here : (s : List ℕ) (row k x : ℕ) → kept_values_at + 256 * row + k < length s → kept (set s (kept_values_at + 256 * row + k) x) row k ≡ x
  unfolding kept
  kept_here s row k x h = get_or-set_same s (kept_values_at + 256 * row + k) x 0 h

  -- the row of frames tells how many calls are open in them
  pub frames_row : (s : List ℕ) (K : List Frame) (row b c : ℕ) → Frames p s t row b c K → row ≡ 66 * t + marks K
  unfolding marks
  frames_row s [] row b c F = omega (arith, F.0)
  frames_row s (step_frame q f ∷ K) row b c F = frames_row s K row q.index (continuation p q.index) F.1
  frames_row s (mark_frame σ ∷ K) row b c ((l, is, low, values), F) =
      let h = frames_row s K (row - 1) (called_from s row) (continuation p (called_from s row)) F in omega (arith, l, h)

  pub frames_inside : (s : List ℕ) (K : List Frame) (row b c : ℕ) → marks K ≤ 65 → Frames p s t row b c K → RowIn t row
  frames_inside s K row b c few F = let h = frames_row s K row b c F in (omega (arith, h), omega (arith, h, few))

-- ------------------------------------------------------------------ finding

-- the turns that a value may take: one an open call that ends with it, and those at the frame behind
abbrev pub cost : List Frame → ℕ
cost [] = 1
cost (step_frame q (let_part x e) ∷ K) = 1
cost (step_frame q (spawn_part e) ∷ K) = 1
cost (step_frame q (write_first e) ∷ K) = 3 * size e + 2
cost (step_frame q (write_second v) ∷ K) = 1
cost (step_frame q (unary_part o) ∷ K) = 1
cost (step_frame q (again_part e) ∷ K) = 1
cost (mark_frame σ ∷ K) = suc (cost K)

module _ (p : List ℕ) (t : ℕ) (s₀ : List ℕ) where
  -- the thread stands there, and only what it keeps for its writes has changed
  abbrev pub Finds : Control → ControlPoint × List ℕ → Type 0
  Finds d r = ControlAt p r.1 t r.0 d × SameBut t s₀ r.1

  -- one turn, and what it finds from there
  takes_turn : (d : Control) (m : ℕ) (s : List ℕ) (f : ControlPoint) {r : ControlPoint × List ℕ} → 1 ≤ m → found (suc (m - 1)) p s f ≡ r → Finds d r →
      Finds d (found m p s f)
  takes_turn d m s f h e F = subst (λ (z : ℕ). Finds d (found z p s f)) back (subst (Finds d) (sym e) F)
    where
      back : suc (m - 1) ≡ m
      back = omega (arith, h)

  module _ (σ : Env) (row : ℕ) where
    -- the space while the loop runs in that row, within frames whose steps are below b
    pub record Ready (s : List ℕ) (b c : ℕ) (K : List Frame) : Type 0 where
      pub low : t < 16
      pub same : SameBut t s₀ s
      pub long : length s ≡ space_size
      pub inside : RowIn t row
      pub values : Values p s row σ
      pub frames : Frames p s t row b c K

    -- the same within other frames
    framed : {s : List ℕ} {b b' c c' : ℕ} {K K' : List Frame} → Ready s b c K → Frames p s t row b' c' K' → Ready s b' c' K'
    framed R F = record { low = R.low; same = R.same; long = R.long; inside = R.inside; values = R.values; frames = F }

    -- what follows once what has continuation c is a value, with n turns left
    abbrev pub Follows : (c : ℕ) → List Frame → (n : ℕ) → (Value → Control) → Type 0
    Follows c K n κ = (v : Value) (b m : ℕ) (s : List ℕ) → n ≤ m → Ready s b c K → Finds (κ v) (go p row m s (returning row c (code_value v)))

    abbrev Sought : (c k : ℕ) → Expr → Type 0
    Sought c k e = (K : List Frame) (κ : Value → Control) (n m : ℕ) (s : List ℕ) → n + 3 * size e ≤ m → Ready s k c K → Follows c K n κ →
        Finds (seek σ e K κ) (go p row m s (entering row k))

    -- ---------------------------------------------------------------- landing at a word

    not_write : (o : calculus.Unary) → is_write (shape_of (rule_of (code_of (Unary (part_word o))))) ≡ false
    unfolding is_write rule_of printed
    not_write join = refl
    not_write ref = refl
    not_write read = refl
    not_write lock = refl
    not_write unlock = refl
    not_write post = refl
    not_write wait = refl
    not_write (hold rdlock) = refl
    not_write (hold rdunlock) = refl
    not_write (hold wrlock) = refl
    not_write (hold wrunlock) = refl
    not_write (call f) = refl

    lands : (d : Control) {q : Position} {w : Word} {v : ℕ} (c x m : ℕ) (s : List ℕ) → c ≡ q.index → RowOf p q w v →
        is_write (shape_of (rule_of (code_of w))) ≡ false → 1 ≤ m → Finds d (ready_at row q.index x, s) → Finds d (go p row m s (returning row c x))
    lands d {q = q} c x m s e r h le F =
        subst (λ (j : ℕ). Finds d (go p row m s (returning row j x))) (sym e)
        (takes_turn d m s (returning row q.index x) le (to_first p row (m - 1) q.index x s r h) F)

    let_lands : (q : Position) (x : ℕ) (e : Expr) (c : ℕ) (K : List Frame) → Follows c (step_frame q (let_part x e) ∷ K) 1 (λ v. at σ (let_word q x v e) K)
    unfolding is_write rule_of printed
    let_lands q x e c K v b m s le R =
        let ((l, (is, r, S)), F) = R.frames in
        lands (at σ (let_word q x v e) K) c (code_value v) m s is r refl le ((R.values, (refl, r, S), F), R.same)

    spawn_lands : (q : Position) (e : Expr) (c : ℕ) (K : List Frame) → Follows c (step_frame q (spawn_part e) ∷ K) 1 (λ v. at σ (spawn_word q v e) K)
    unfolding is_write rule_of printed
    spawn_lands q e c K v b m s le R =
        let ((l, (is, n, r, S)), F) = R.frames in
        lands (at σ (spawn_word q v e) K) c (code_value v) m s is r refl le ((R.values, (refl, n, r, S), F), R.same)

    unary_lands : (q : Position) (o : calculus.Unary) (c : ℕ) (K : List Frame) → Follows c (step_frame q (unary_part o) ∷ K) 1 (λ v. at σ (unary_word q o v) K)
    unary_lands q o c K v b m s le R =
        let ((l, (is, n, r, N)), F) = R.frames in
        lands (at σ (unary_word q o v) K) c (code_value v) m s is r (not_write o) le ((R.values, (refl, n, r, N), F), R.same)

    pub again_lands : (q : Position) (e : Expr) (c : ℕ) (K : List Frame) → Follows c (step_frame q (again_part e) ∷ K) 1 (λ v. at σ (again_word q v e) K)
    unfolding is_write rule_of printed
    again_lands q e c K v b m s le R =
        let ((l, (is, n, r, S)), F) = R.frames in
        lands (at σ (again_word q v e) K) c (code_value v) m s is r refl le ((R.values, (refl, n, r, S), F), R.same)

    write_lands : (q : Position) (w : Value) (c : ℕ) (K : List Frame) → Follows c (step_frame q (write_second w) ∷ K) 1 (λ u. at σ (write_word q w u) K)
    write_lands q w c K u b m s le R =
        let ((l, (is, n, r, held)), F) = R.frames in
        subst (λ (j : ℕ). Finds (at σ (write_word q w u) K) (go p row m s (returning row j (code_value u)))) (sym is)
        (takes_turn (at σ (write_word q w u) K) m s (returning row (second_part + q.index) (code_value u)) le (to_second p row (m - 1) q.index (code_value u) s r.below)
        ((R.values, (refl, n, r, held), F), R.same))

    -- ---------------------------------------------------------------- the second part of a `write`

    -- its first part's value is kept
    other_ready : (q : Position) (e : Expr) (w : Value) (b c : ℕ) (K : List Frame) (s : List ℕ) → Ready s b c (step_frame q (write_first e) ∷ K) →
        Ready (set s (kept_values_at + 256 * row + q.index) (code_value w)) (second p q.index) (second_part + q.index) (step_frame q (write_second w) ∷ K)
    unfolding variable
    other_ready q e w b c K s R =
        let ((l, (is, n, r, S)), F) = R.frames in
        let at_kept = kept_values_at + 256 * row + q.index in
        record {
          low = R.low;
          same = same_but_one t row q.index (code_value w) s₀ s R.inside r.below R.same;
          long = length-set s at_kept (code_value w) ∙ R.long;
          inside = R.inside;
          values = λ x h. get_or-set_other s at_kept (0 + 256 * row + x) (code_value w) 0 (λ z. omega (arith, z, h, R.low, R.inside.1)) ∙ R.values x h;
          frames = (
            (r.far, (refl, n, r, kept_here p t s row q.index (code_value w) (omega (arith, R.long, R.low, r.below, R.inside.1)))),
            frames_same p t s (set s at_kept (code_value w)) row q.index (continuation p q.index) K
                (kept_other p t s row q.index (code_value w) R.low R.inside r.below) F,
          );
        }

    other_sought : (q : Position) (e : Expr) (c : ℕ) (K : List Frame) → ((d k : ℕ) → Stands p d k e → Sought d k e) →
        Follows c (step_frame q (write_first e) ∷ K) (3 * size e + 2) (λ w. seek σ e (step_frame q (write_second w) ∷ K) (λ u. at σ (write_word q w u) K))
    other_sought q e c K rec w b m s le R =
        let ((l, (is, n, r, S)), F) = R.frames in
        subst (λ (j : ℕ). Finds (seek σ e (step_frame q (write_second w) ∷ K) κ) (go p row m s (returning row j (code_value w)))) (sym is)
        (takes_turn (seek σ e (step_frame q (write_second w) ∷ K) κ) m s (returning row q.index (code_value w)) (omega (arith, le))
        (to_other p row (m - 1) q.index (code_value w) s r)
        (rec (second_part + q.index) (second p q.index) S (step_frame q (write_second w) ∷ K) κ 1 (m - 1) _ (omega (arith, le)) (other_ready q e w b c K s R)
        (write_lands q w (second_part + q.index) K)))
      where
        κ : Value → Control
        κ u = at σ (write_word q w u) K

    -- ---------------------------------------------------------------- the theorem

    -- a step whose first part is entered, within a frame of the step
    first_sought : {k : ℕ} {q : Position} {w : Word} {v c : ℕ} (r : Row p k q w v c) → ((x : ℕ) → entered_by (shape_of (rule_of (code_of w))) row k c x ≡ entering row (behind k)) →
        (e : Expr) → Sought k (k + 1) e → (K : List Frame) (f : FrameForm) (κ : Value → Control) (n m : ℕ) (s : List ℕ) → n + 3 * size e + 1 ≤ m → Ready s k c K →
        PartAt p s row k q f → Follows k (step_frame q f ∷ K) n κ → Finds (seek σ e (step_frame q f ∷ K) κ) (go p row m s (entering row k))
    first_sought {k} {q} {v = v} r waits e rec K f κ n m s fuel R P next =
        takes_turn (seek σ e (step_frame q f ∷ K) κ) m s (entering row k) (omega (arith, fuel))
        (enters p row (m - 1) k s r ∙ ap (go p row (m - 1) s) (waits (variable s row v) ∙ ap (entering row) (behind_is k r.below)))
        (rec (step_frame q f ∷ K) κ n (m - 1) s (omega (arith, fuel))
        (framed R ((let i = r.index in omega arith, P), by_position r (λ c k. Frames p s t row k c K) R.frames)) next)

    -- a step that is the next word as it is
    stops : (w' : machine.Word) {k : ℕ} {q : Position} {w : Word} {v c : ℕ} (r : Row p k q w v c) → ((x : ℕ) → entered_by (shape_of (rule_of (code_of w))) row k c x ≡ stopped_at row k) →
        (K : List Frame) (m : ℕ) (s : List ℕ) → 1 ≤ m → Ready s k c K → place_of p s w' ≡ q.index → WordAt p s row (stopped_at row q.index) w' →
        Finds (at σ w' K) (go p row m s (entering row k))
    stops w' {k} {v = v} r here K m s le R is W =
        takes_turn (at σ w' K) m s (entering row k) le
        (enters p row (m - 1) k s r ∙ ap (go p row (m - 1) s) (here (variable s row v)) ∙ found_stop p s (stopped_at row k) (m - 1) refl) (
          (
            R.values,
            subst (λ (j : ℕ). WordAt p s row (stopped_at row j) w') r.index W,
            subst (λ (j : ℕ). Frames p s t row j (continuation p j) K) (sym is) (by_position r (λ c k. Frames p s t row k c K) R.frames),
          ),
          R.same,
        )

    -- a word with one part that must be a value
    part_sought : (o : calculus.Unary) {k : ℕ} {q : Position} {v c : ℕ} (r : Row p k q (Unary (part_word o)) v c) → PartNumber o v →
        ((x : ℕ) → entered_by (shape_of (rule_of (code_of (Unary (part_word o))))) row k c x ≡ entering row (behind k)) →
        (e : Expr) → Sought k (k + 1) e → (K : List Frame) (n m : ℕ) (s : List ℕ) → n + 3 * suc (size e) ≤ m → Ready s k c K →
        Finds (seek_part σ q o K (seek σ e)) (go p row m s (entering row k))
    part_sought o {k} {q} {v} r N waits e rec K n m s fuel R =
        first_sought r waits e rec K (unary_part o) (λ u. at σ (unary_word q o u) K) 1 m s (omega (arith, fuel)) R (sym r.index, v, row_of r, N) (unary_lands q o k K)

    pub seek_simulated : (e : Expr) (c k : ℕ) → Stands p c k e → Sought c k e
    unfolding size entered_by rule_of printed largest_value
    seek_simulated (leaf Var q x) c k r K κ n m s fuel R next =
        takes_turn (κ (σ x)) m s (entering row k) (omega (arith, fuel))
        (enters p row (m - 1) k s r ∙ ap (λ (z : ℕ). go p row (m - 1) s (returning row c z)) (R.values x (omega (arith, r.small.0))))
        (next (σ x) k (m - 1) s (omega (arith, fuel)) R)
    seek_simulated (leaf Int q v) c k r K κ n m s fuel R next =
        takes_turn (κ (int v)) m s (entering row k) (omega (arith, fuel)) (enters p row (m - 1) k s r) (next (int v) k (m - 1) s (omega (arith, fuel)) R)
    seek_simulated (leaf Newtid q v) c k r K κ n m s fuel R next =
        stops (nullary_word q calculus.newtid) r (λ x. refl) K m s (omega (arith, fuel)) R refl (refl, v, row_of r, tt)
    seek_simulated (leaf Newlock q v) c k r K κ n m s fuel R next =
        stops (nullary_word q calculus.newlock) r (λ x. refl) K m s (omega (arith, fuel)) R refl (refl, v, row_of r, tt)
    seek_simulated (leaf Newsem q v) c k r K κ n m s fuel R next =
        stops (nullary_word q calculus.newsem) r (λ x. refl) K m s (omega (arith, fuel)) R refl (refl, v, row_of r, tt)
    seek_simulated (leaf Newrwlock q v) c k r K κ n m s fuel R next =
        stops (nullary_word q (calculus.newrwlock v)) r (λ x. refl) K m s (omega (arith, fuel)) R refl (refl, v, row_of r, refl)
    seek_simulated (unary While q v e) c k (r, S) K κ n m s fuel R next =
        stops (while_word q e) r (λ x. refl) K m s (omega (arith, fuel)) R refl (refl, v, row_of r, by_position r (λ c k. Stands p k (k + 1) e) S)
    seek_simulated (unary Join q v e) c k (r, S) K κ n m s fuel R next = part_sought join r tt (λ x. refl) e (seek_simulated e k (k + 1) S) K n m s fuel R
    seek_simulated (unary Ref q v e) c k (r, S) K κ n m s fuel R next = part_sought ref r tt (λ x. refl) e (seek_simulated e k (k + 1) S) K n m s fuel R
    seek_simulated (unary Read q v e) c k (r, S) K κ n m s fuel R next = part_sought read r tt (λ x. refl) e (seek_simulated e k (k + 1) S) K n m s fuel R
    seek_simulated (unary Lock q v e) c k (r, S) K κ n m s fuel R next = part_sought lock r tt (λ x. refl) e (seek_simulated e k (k + 1) S) K n m s fuel R
    seek_simulated (unary Unlock q v e) c k (r, S) K κ n m s fuel R next = part_sought unlock r tt (λ x. refl) e (seek_simulated e k (k + 1) S) K n m s fuel R
    seek_simulated (unary Post q v e) c k (r, S) K κ n m s fuel R next = part_sought post r tt (λ x. refl) e (seek_simulated e k (k + 1) S) K n m s fuel R
    seek_simulated (unary Wait q v e) c k (r, S) K κ n m s fuel R next = part_sought wait r tt (λ x. refl) e (seek_simulated e k (k + 1) S) K n m s fuel R
    seek_simulated (unary Rdlock q v e) c k (r, S) K κ n m s fuel R next = part_sought (hold rdlock) r tt (λ x. refl) e (seek_simulated e k (k + 1) S) K n m s fuel R
    seek_simulated (unary Rdunlock q v e) c k (r, S) K κ n m s fuel R next = part_sought (hold rdunlock) r tt (λ x. refl) e (seek_simulated e k (k + 1) S) K n m s fuel R
    seek_simulated (unary Wrlock q v e) c k (r, S) K κ n m s fuel R next = part_sought (hold wrlock) r tt (λ x. refl) e (seek_simulated e k (k + 1) S) K n m s fuel R
    seek_simulated (unary Wrunlock q v e) c k (r, S) K κ n m s fuel R next = part_sought (hold wrunlock) r tt (λ x. refl) e (seek_simulated e k (k + 1) S) K n m s fuel R
    seek_simulated (unary Call q v e) c k (r, S) K κ n m s fuel R next = part_sought (call v) r refl (λ x. refl) e (seek_simulated e k (k + 1) S) K n m s fuel R
    seek_simulated (binary Let q x e₁ e₂) c k (r, S₁, z, S₂) K κ n m s fuel R next =
        first_sought r (λ y. refl) e₁ (seek_simulated e₁ k (k + 1) S₁) K (let_part x e₂) (λ v. at σ (let_word q x v e₂) K) 1 m s (omega (arith, fuel)) R
        (sym r.index, row_of r, by_position r (λ c k. Stands p c (second p k) e₂) S₂) (let_lands q x e₂ k K)
    seek_simulated (binary If q v e₁ e₂) c k (r, S₁, z, S₂) K κ n m s fuel R next =
        stops (if_word q e₁ e₂) r (λ x. refl) K m s (omega (arith, fuel)) R refl
        (refl, v, row_of r, by_position r (λ c k. Stands p c (k + 1) e₁) S₁, by_position r (λ c k. Stands p c (second p k) e₂) S₂)
    seek_simulated (binary Spawn q v e₁ e₂) c k (r, S₁, z, S₂) K κ n m s fuel R next =
        first_sought r (λ y. refl) e₁ (seek_simulated e₁ k (k + 1) S₁) K (spawn_part e₂) (λ u. at σ (spawn_word q u e₂) K) 1 m s (omega (arith, fuel)) R
        (sym r.index, v, row_of r, by_position r (λ c k. Stands p finish (second p k) e₂) S₂) (spawn_lands q e₂ k K)
    seek_simulated (binary Write q v e₁ e₂) c k (r, S₁, z, S₂) K κ n m s fuel R next =
        first_sought r (λ y. refl) e₁ (seek_simulated e₁ k (k + 1) S₁) K (write_first e₂) (λ w. seek σ e₂ (step_frame q (write_second w) ∷ K) (λ u. at σ (write_word q w u) K))
        (3 * size e₂ + 2) m s (omega (arith, fuel)) R (sym r.index, v, row_of r, by_position r (λ c k. Stands p (second_part + k) (second p k) e₂) S₂)
        (other_sought q e₂ k K (λ d j. seek_simulated e₂ d j))

  -- ---------------------------------------------------------------- a value is handed back

  pub return_simulated : (K : List Frame) (σ : Env) (row : ℕ) (c : ℕ) → Follows σ row c K (cost K) (λ v. return σ v K)
  return_simulated [] σ row c = λ v b m s le R.
      subst (λ (j : ℕ). Finds (done v) (go p row m s (returning row j (code_value v)))) (sym R.frames.1)
      (takes_turn (done v) m s (returning row finish (code_value v)) le (to_end p row (m - 1) (code_value v) s)
      (ap (λ (i : ℕ). done_with i (code_value v)) R.frames.0, R.same))
  return_simulated (step_frame q (let_part x e) ∷ K) σ row c = let_lands σ row q x e c K
  return_simulated (step_frame q (spawn_part e) ∷ K) σ row c = spawn_lands σ row q e c K
  return_simulated (step_frame q (write_first e) ∷ K) σ row c = other_sought σ row q e c K (λ d j. seek_simulated σ row e d j)
  return_simulated (step_frame q (write_second w) ∷ K) σ row c = write_lands σ row q w c K
  return_simulated (step_frame q (unary_part o) ∷ K) σ row c = unary_lands σ row q o c K
  return_simulated (step_frame q (again_part e) ∷ K) σ row c = again_lands σ row q e c K
  return_simulated (mark_frame σ' ∷ K) σ row c = λ v b m s le R.
      let ((l, is, low, values), F) = R.frames in
      subst (λ (j : ℕ). Finds (return σ' v K) (go p row m s (returning row j (code_value v)))) (sym is)
      (takes_turn (return σ' v K) m s (returning row leave (code_value v)) (omega (arith, le)) (to_caller p row (m - 1) (code_value v) s)
      (return_simulated K σ' (row - 1) (continuation p (called_from s row)) v (called_from s row) (m - 1) s (omega (arith, le))
      (record { low = R.low; same = R.same; long = R.long; inside = (omega (arith, l), omega (arith, R.inside.1)); values = values; frames = F })))

-- ------------------------------------------------------------------ turns enough

module _ (p : List ℕ) (t : ℕ) where
  pub stands_size : (e : Expr) (c k : ℕ) → Stands p c k e → k + size e ≤ 256
  unfolding size
  stands_size (leaf w q v) c k r = omega (arith, r.below)
  stands_size (unary w q v e) c k (r, S) = let h = stands_size e k (k + 1) S in omega arith
  stands_size (binary Let q v e₁ e₂) c k (r, S₁, z, S₂) = let h = stands_size e₂ c (second p k) S₂ in omega (arith, z)
  stands_size (binary If q v e₁ e₂) c k (r, S₁, z, S₂) = let h = stands_size e₂ c (second p k) S₂ in omega (arith, z)
  stands_size (binary Spawn q v e₁ e₂) c k (r, S₁, z, S₂) = let h = stands_size e₂ finish (second p k) S₂ in omega (arith, z)
  stands_size (binary Write q v e₁ e₂) c k (r, S₁, z, S₂) = let h = stands_size e₂ (second_part + k) (second p k) S₂ in omega (arith, z)

  cost_small : (s : List ℕ) (K : List Frame) (row b c : ℕ) → 66 * t ≤ row → Frames p s t row b c K → cost K + 66 * t ≤ 770 + row
  cost_small s [] row b c lo F = omega (arith, lo)
  cost_small s (step_frame q (let_part x e) ∷ K) row b c lo F = omega (arith, lo)
  cost_small s (step_frame q (spawn_part e) ∷ K) row b c lo F = omega (arith, lo)
  cost_small s (step_frame q (write_first e) ∷ K) row b c lo ((l, (is, n, r, S)), F) = let h = stands_size e (second_part + q.index) (second p q.index) S in omega (arith, lo)
  cost_small s (step_frame q (write_second v) ∷ K) row b c lo F = omega (arith, lo)
  cost_small s (step_frame q (unary_part o) ∷ K) row b c lo F = omega (arith, lo)
  cost_small s (step_frame q (again_part e) ∷ K) row b c lo F = omega (arith, lo)
  cost_small s (mark_frame σ ∷ K) row b c lo ((l, is, low, values), F) =
      let h = cost_small s K (row - 1) (called_from s row) (continuation p (called_from s row)) (omega (arith, l)) F in omega (arith, l)

module _ {p : List ℕ} {t : ℕ} {s : List ℕ} {σ : Env} {row : ℕ} {K : List Frame} where
  pub enters_word : {c k : ℕ} → Ready p t s σ row s k c K → (e : Expr) → Stands p c k e → Finds p t s (enter σ e K) (go p row 2048 s (entering row k))
  enters_word {c} {k} R e S =
      let h = stands_size p t e c k S in
      let l = cost_small p t s K row k c R.inside.0 R.frames in
      seek_simulated p t s σ row e c k S K (λ v. return σ v K) (cost K) 2048 s (omega (arith, R.inside.1)) R (return_simulated p t s K σ row c)

  pub returns_word : {b c : ℕ} → Ready p t s σ row s b c K → (v : Value) → Finds p t s (return σ v K) (go p row 2048 s (returning row c (code_value v)))
  returns_word {b} {c} R v =
      return_simulated p t s K σ row c v b 2048 s (let l = cost_small p t s K row b c R.inside.0 R.frames in omega (arith, R.inside.1)) R

  -- the part of a `while` runs
  pub runs_part : {q : Position} {v : ℕ} → Ready p t s σ row s q.index (continuation p q.index) K → (e : Expr) → RowOf p q (Unary While) v →
      Stands p q.index (q.index + 1) e → Finds p t s (run_part σ q e K) (go p row 2048 s (entering row (q.index + 1)))
  runs_part {q} {v} R e r S =
      let h = stands_size p t e q.index (q.index + 1) S in
      seek_simulated p t s σ row e q.index (q.index + 1) S (step_frame q (again_part e) ∷ K) (λ u. at σ (again_word q u e) K) 1 2048 s (omega arith)
      (framed p t s σ row R ((omega arith, (refl, v, r, S)), R.frames)) (again_lands p t s σ row q e q.index K)
