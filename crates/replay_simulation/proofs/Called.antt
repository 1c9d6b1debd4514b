-- A call on numbers is the machine's: the body of the procedure is entered in the next row, which holds its argument alone and the step
-- of the call.
use Rattle.std.proofs.Common.{Some, slice_get, Ok}
use Prim.Native.Nat.{ℕ, zero, suc, ◌+◌, ◌*◌, ◌-◌, ◌<◌, ◌≤◌}
use mathlib.Core.Path.{◌≡◌, refl, sym, ◌∙◌, ap, subst}
use mathlib.Core.Logic.{◌≢◌, ◌⊎◌, inl, inr}
use mathlib.Core.List.{List, [], ◌∷◌}
use native.Mathlib.Omega.{arith}
use native.Mathlib.Decide.{ℕ_discrete}
use borrow.Author.Tests.{lt-ltb}
use lib.ListN.{length, get_or, set, length-set}
use lib.Seq.{get_or-set_same, get_or-set_other}
use Rattle.spec.specs.Expression.{Position, Procedure}
use Rattle.spec.specs.Words.{role, calls}
use Rattle.spec.specs.declared.Word.TheVariants.{Unary}
use Rattle.spec.specs.declared.UnaryWord.TheVariants.{Call}
use Rattle.calculus.specs.Expression.{Value, int, call, choose}
use Rattle.calculus.specs.State.{first, update}
use Rattle.workspace.specs.Layout.{rule_of, printed}
use Rattle.threads.specs.declared.Threads.{Threads}
use Rattle.replay_control.specs.Layout.{leave, procedures_at, kept_values_at, open_calls_at, control_point_modes_at, control_point_places_at, control_point_values_at, control_point_rows_at, space_size}
use Rattle.replay_control.specs.Modes.{mode_of}
use Rattle.replay_control.specs.declared.ControlPoint.{ControlPoint}
use Rattle.replay_control.specs.Shapes.{shape_at}
use Rattle.replay_control.specs.Control.{variable, kept, called_from, continuation, first_of, control_point, entering, ready_at}
use Rattle.replay_step.specs.declared.words.Act.TheVariants.{Go}
use Rattle.replay_step.specs.Calls.{above, row_cleared_from, row_cleared, callee_of, call_entered, argument_put, called_space}
use Rattle.replay_step.specs.Words.{acted_by, acted}
use Rattle.replay_engine.specs.ControlPoints.{control_point_at}
use Rattle.replay_machine.specs.Environment.{Env, zeros}
use Rattle.replay_machine.specs.Control.{Frame, mark_frame, unary_word, Control, enter}
use Rattle.replay_machine.specs.State.{Machine}
use Rattle.replay_machine.specs.Step.{goes_to}
use Rattle.replay_machine.specs.Replay.{Replay}
use Rattle.replay_simulation.proofs.Held.{code_value, RowOf, BodyStands, Values, Frames}
use Rattle.replay_simulation.proofs.Advancing.{same_all, RowIn}
use Rattle.replay_simulation.proofs.Finding.{RowsSame, frames_same, frames_row, Ready, enters_word}
use Rattle.replay_simulation.proofs.Agreeing.{Agree, SharedSame, less_or_more}
use Rattle.replay_simulation.proofs.Proceeding.{names_same}
use Rattle.replay_simulation.proofs.Moving.{moves}
use Rattle.replay_simulation.proofs.AtWord.{AtWord, Answers, Goes, pausing}

-- ------------------------------------------------------------------ a row is cleared

module _ (b : ℕ) where
  abbrev one : (s : List ℕ) (x : ℕ) → List ℕ
  one s x = set s (0 + 256 * b + x) 0

  cleared_length : (n : ℕ) (s : List ℕ) (x : ℕ) → length (row_cleared_from s b x n) ≡ length s
  unfolding row_cleared_from
  cleared_length zero s x = refl
  cleared_length (suc n) s x = cleared_length n (one s x) (x + 1) ∙ length-set s (0 + 256 * b + x) 0

  cleared_outside : (n : ℕ) (s : List ℕ) (x j : ℕ) → (j < 256 * b + x) ⊎ (256 * b + x + n ≤ j) → get_or (row_cleared_from s b x n) j 0 ≡ get_or s j 0
  unfolding row_cleared_from
  cleared_outside zero s x j o = refl
  cleared_outside (suc n) s x j (inl l) = cleared_outside n (one s x) (x + 1) j (inl (omega (arith, l))) ∙ get_or-set_other s (0 + 256 * b + x) j 0 0 (λ e. omega (arith, e, l))
  cleared_outside (suc n) s x j (inr l) = cleared_outside n (one s x) (x + 1) j (inr (omega (arith, l))) ∙ get_or-set_other s (0 + 256 * b + x) j 0 0 (λ e. omega (arith, e, l))

  cleared_row : (n : ℕ) (s : List ℕ) (x y : ℕ) → length s ≡ space_size → b < 1056 → x + n ≤ 256 → x ≤ y → y < x + n → ◌≡◌ {A = ℕ} (get_or (row_cleared_from s b x n) (0 + 256 * b + y) 0) 0
  unfolding row_cleared_from
  cleared_row zero s x y long low h m l = absurd (omega (arith, m, l))
  cleared_row (suc n) s x y long low h m l = go (ℕ_discrete x y) (cleared_row n (one s x) (x + 1) y (length-set s (0 + 256 * b + x) 0 ∙ long) low (omega (arith, h)))
    where
      go : Dec (x ≡ y) → (x + 1 ≤ y → y < x + 1 + n → ◌≡◌ {A = ℕ} (get_or (row_cleared_from (one s x) b (x + 1) n) (0 + 256 * b + y) 0) 0) →
          ◌≡◌ {A = ℕ} (get_or (row_cleared_from (one s x) b (x + 1) n) (0 + 256 * b + y) 0) 0
      go (yes e) rec =
          cleared_outside n (one s x) (x + 1) (0 + 256 * b + y) (inl (omega (arith, e)))
          ∙ ap (λ (j : ℕ). get_or (one s x) (0 + 256 * b + j) 0) (sym e)
          ∙ get_or-set_same s (0 + 256 * b + x) 0 0 (omega (arith, long, low, h))
      go (no f) rec = rec (omega (arith, f, m)) (omega (arith, l))

-- ------------------------------------------------------------------ the space of a call

-- the row b, the variable x with the number v, the step k of the call
record Entry (s : List ℕ) (b x v k : ℕ) : Type 0 where
  long : length s ≡ space_size
  low : b < 1056
  x_low : x < 256

module _ {s : List ℕ} {b x v k : ℕ} (E : Entry s b x v k) where
  abbrev s₀ : List ℕ
  s₀ = row_cleared_from s b 0 256

  abbrev s₁ : List ℕ
  s₁ = set s₀ (0 + 256 * b + x) v

  abbrev s₂ : List ℕ
  s₂ = set s₁ (open_calls_at + b) k

  long₀ : length s₀ ≡ space_size
  long₀ = cleared_length b 256 s 0 ∙ E.long

  long₁ : length s₁ ≡ space_size
  long₁ = length-set s₀ (0 + 256 * b + x) v ∙ long₀

  long₂ : length s₂ ≡ space_size
  long₂ = length-set s₁ (open_calls_at + b) k ∙ long₁

  elsewhere : (j : ℕ) → (j < 256 * b) ⊎ (256 * b + 256 ≤ j) → j ≢ open_calls_at + b → get_or s₂ j 0 ≡ get_or s j 0
  elsewhere j (inl l) n =
      get_or-set_other s₁ (open_calls_at + b) j k 0 n ∙ get_or-set_other s₀ (0 + 256 * b + x) j v 0 (λ e. omega (arith, e, l)) ∙ cleared_outside b 256 s 0 j (inl (omega (arith, l)))
  elsewhere j (inr l) n =
      get_or-set_other s₁ (open_calls_at + b) j k 0 n ∙ get_or-set_other s₀ (0 + 256 * b + x) j v 0 (λ e. omega (arith, e, l, E.x_low)) ∙ cleared_outside b 256 s 0 j (inr (omega (arith, l)))

  call_here_lem : called_from s₂ b ≡ k
  unfolding called_from
  call_here_lem = get_or-set_same s₁ (open_calls_at + b) k 0 (omega (arith, long₁, E.low))

  -- the body's variables
  argument_values : (p : List ℕ) (u : Value) → code_value u ≡ v → Values p s₂ b (update zeros x u)
  unfolding variable
  argument_values p u e y h =
      get_or-set_other s₁ (open_calls_at + b) (0 + 256 * b + y) k 0 (λ z. omega (arith, z, E.low, h)) ∙ by_name (ℕ_discrete y x)
    where
      by_name : (d : Dec (y ≡ x)) → get_or s₁ (0 + 256 * b + y) 0 ≡ code_value (choose d u (int 0))
      by_name (yes z) = ap (λ (j : ℕ). get_or s₁ (0 + 256 * b + j) 0) z ∙ get_or-set_same s₀ (0 + 256 * b + x) v 0 (omega (arith, long₀, E.low, E.x_low)) ∙ sym e
      by_name (no n) = get_or-set_other s₀ (0 + 256 * b + x) (0 + 256 * b + y) v 0 (λ z. n (omega (arith, z))) ∙ cleared_row b 256 s 0 y E.long E.low (omega arith) (omega arith) (omega (arith, h))

  -- the rows before
  rows_before_same : (p : List ℕ) (t c : ℕ) → (row : ℕ) → b ≡ row + 1 → c ≤ 256 → RowsSame p t row c s s₂
  unfolding kept variable called_from
  rows_before_same p t c row is h = record {
    here = λ j l. elsewhere (kept_values_at + 256 * row + j) (inr (omega (arith, E.low))) (λ e. omega (arith, e, E.low, is, l, h));
    before = λ i j a l m. elsewhere (kept_values_at + 256 * i + j) (inr (omega (arith, E.low))) (λ e. omega (arith, e, E.low, is, l, m));
    variables = λ i y a l m. elsewhere (0 + 256 * i + y) (inl (omega (arith, is, l, m))) (λ e. omega (arith, e, E.low, is, l, m));
    called = λ i a l. elsewhere (open_calls_at + i) (inr (omega (arith, E.low))) (λ e. omega (arith, e, is, l));
  }

  row_before_same : (row y : ℕ) → b ≡ row + 1 → y < 256 → variable s₂ row y ≡ variable s row y
  unfolding variable
  row_before_same row y is h = elsewhere (0 + 256 * row + y) (inl (omega (arith, is, h))) (λ e. omega (arith, e, E.low, is, h))

  -- the other threads
  agree_called : (t i : ℕ) → RowIn t b → i < 16 → i ≢ t → Agree i s s₂
  unfolding variable kept called_from control_point_at
  agree_called t i (lo, hi) h n = record {
    rows = record {
      variables = λ r y in_row m. elsewhere (0 + 256 * r + y) (beside r y in_row m (less_or_more i t n)) (λ e. omega (arith, e, m, h, in_row.1));
      kepts = λ r j in_row m. elsewhere (kept_values_at + 256 * r + j) (inr (omega (arith, E.low))) (λ e. omega (arith, e, m, h, in_row.1));
      calls = λ r in_row. elsewhere (open_calls_at + r) (inr (omega (arith, E.low))) (λ e. other r in_row (less_or_more i t n) (omega (arith, e)));
    };
    focused = λ z. control_point
        (mode_of (elsewhere (control_point_modes_at + i) (inr (omega (arith, E.low))) (λ e. omega (arith, e, E.low)) z))
        (elsewhere (control_point_places_at + i) (inr (omega (arith, E.low))) (λ e. omega (arith, e, E.low)) z)
        (elsewhere (control_point_values_at + i) (inr (omega (arith, E.low))) (λ e. omega (arith, e, E.low)) z)
        (elsewhere (control_point_rows_at + i) (inr (omega (arith, E.low))) (λ e. omega (arith, e, E.low)) z);
    mode = elsewhere (control_point_modes_at + i) (inr (omega (arith, E.low))) (λ e. omega (arith, e, E.low));
  }
    where
      beside : (r y : ℕ) → RowIn i r → y < 256 → (i < t) ⊎ (t < i) → (0 + 256 * r + y < 256 * b) ⊎ (256 * b + 256 ≤ 0 + 256 * r + y)
      beside r y (from, to) m (inl l) = inl (omega (arith, l, m, to, lo))
      beside r y (from, to) m (inr l) = inr (omega (arith, l, from, hi))

      other : (r : ℕ) → RowIn i r → (i < t) ⊎ (t < i) → r ≡ b → ⊥
      other r (from, to) (inl l) e = omega (arith, e, l, to, lo)
      other r (from, to) (inr l) e = omega (arith, e, l, from, hi)

  shared_called : SharedSame s s₂
  shared_called j h = elsewhere j (inr (omega (arith, E.low, h))) (λ e. omega (arith, e, E.low, h))

-- ------------------------------------------------------------------ the machine's word

place_found : {A : Type 0} (xs : List A) (i : ℕ) → i < length xs → (a : A) × (slice_get xs i ≡ Some a)
place_found [] i h = absurd (omega (arith, h))
place_found (x ∷ xs) zero h = (x, refl)
place_found (x ∷ xs) (suc i) h = place_found xs i (omega (arith, h))

module _ {p s : List ℕ} {T : Threads} {R : Replay} {t row tid : ℕ} {σ : Env} {q : Position} {g : ℕ} {v : Value} {K : List Frame}
    (A : AtWord p s T R t row tid σ (unary_word q (call g) v) K) {n : ℕ} (r : RowOf p q (Unary Call) n) (is : n ≡ g) where
  abbrev M : Machine
  M = R.machine

  abbrev word : ControlPoint
  word = ready_at row q.index (code_value v)

  row_low : row ≤ 66 * t + 64
  row_low = let e = frames_row p t s K row q.index (continuation p q.index) A.frames in omega (arith, e, A.few)

  new_low : row + 1 < 1056
  new_low = let l = row_low in omega (arith, A.low)

  called : g < length M.procedures
  unfolding role calls
  called = let c = A.holds.bodies.counted in let l : n < get_or p procedures_at 0 = r.small.1 in omega (arith, c, l, is)

  module _ (body : Procedure) (listed : slice_get M.procedures g ≡ Some body) where
    B : BodyStands p g body
    B = A.holds.bodies.each g body listed

    E : Entry s (row + 1) body.parameter (code_value v) q.index
    E = record { long = A.holds.long; low = new_low; x_low = B.low }

    abbrev after : List ℕ
    after = s₂ E

    abbrev entered : Control
    entered = enter (update zeros body.parameter v) body.body (mark_frame σ ∷ K)

    acts : acted p s word 0 ≡ (Ok (Go (entering (row + 1) (first_of p g))), after)
    unfolding acted acted_by call_entered called_space argument_put row_cleared callee_of above shape_at rule_of printed
    acts = rw (r.code, r.number, is, lt-ltb row 1056 (let l = new_low in omega arith), B.parameter)

    frames_after : Frames p after t (row + 1) (first_of p g) leave (mark_frame σ ∷ K)
    frames_after =
        let here = call_here_lem E in
        let back : row + 1 - 1 ≡ row = omega arith in (
          (omega (arith, A.inside.0), refl, omega (arith, here, r.below), λ x h. ap (λ (i : ℕ). variable after i x) back ∙ row_before_same E row x refl h ∙ A.values x h),
          subst (λ (i : ℕ). Frames p after t i (called_from after (row + 1)) (continuation p (called_from after (row + 1))) K) (sym back)
              (subst (λ (k : ℕ). Frames p after t row k (continuation p k) K) (sym here)
              (frames_same p t s after row q.index (continuation p q.index) K (rows_before_same E p t q.index row refl (let l = r.below in omega arith)) A.frames)),
        )

    body_ready : Ready p t after (update zeros body.parameter v) (row + 1) after (first_of p g) leave (mark_frame σ ∷ K)
    body_ready = record {
      low = A.low;
      same = same_all t after;
      long = long₂ E;
      inside = (omega (arith, A.inside.0), let l = row_low in omega arith);
      values = argument_values E p v refl;
      frames = frames_after;
    }

    body_goes : Answers A word (Some (goes_to M t tid M.names entered)) (acted p s word 0)
    body_goes =
        subst (Answers A word (Some (goes_to M t tid M.names entered))) (sym acts)
        (moves (pausing A (long₂ E) (λ i h m. agree_called E t i body_ready.inside h m) (names_same s after (shared_called E) A.holds.names))
        word (entering (row + 1) (first_of p g)) entered (enters_word body_ready body.body B.stands))

  pub call_goes : Goes A first word 0
  call_goes =
      let (body, listed) = place_found M.procedures g called in
      rw listed (body_goes body listed)
