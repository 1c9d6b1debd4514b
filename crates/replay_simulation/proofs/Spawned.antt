-- A spawn on numbers is the machine's: the new thread gets a copy of the variables and goes to its first word, then the word becomes 0.
use Rattle.std.proofs.Common.{Some, slice_get}
use Prim.Native.Nat.{ℕ, zero, suc, ◌+◌, ◌*◌, ◌<◌, ◌≤◌}
use mathlib.Core.Path.{◌≡◌, refl, sym, ◌∙◌, ap, subst}
use mathlib.Core.Logic.{◌≢◌, ◌⊎◌, inl, inr}
use mathlib.Core.List.{List, [], ◌∷◌, ◌++◌}
use native.Mathlib.Omega.{arith}
use native.Mathlib.Decide.{ℕ_discrete, dec_lt}
use borrow.Author.Tests.{lt-ltb, le-leb, lt-leb}
use lib.Dec.{leb}
use lib.ListN.{length, get_or, set, length-set, length-append}
use lib.Seq.{get_or-set_same, get_or-set_other, set-append_seam, set-append_left}
use Rattle.spec.specs.Choice.{when◌then◌else◌}
use Rattle.spec.specs.Expression.{Position, Expr}
use Rattle.spec.specs.declared.Word.TheVariants.{Binary}
use Rattle.spec.specs.declared.BinaryWord.TheVariants.{Spawn}
use Rattle.calculus.specs.Expression.{int, name}
use Rattle.calculus.proofs.Laws.Maps.{none_is_not_some}
use Rattle.calculus.proofs.Laws.Places.{set_elsewhere}
use Rattle.replay_theory.specs.declared.Status.TheVariants.{Running}
use Rattle.threads.specs.declared.Record.{Record}
use Rattle.threads.specs.declared.Threads.{Threads}
use Rattle.threads.specs.Records.{no_record}
use Rattle.threads.specs.Threads.{spawned}
use Rattle.replay_control.specs.Layout.{finish, kept_values_at, open_calls_at, control_point_modes_at, control_point_places_at, control_point_values_at, control_point_rows_at, space_size}
use Rattle.replay_control.specs.Modes.{mode_of}
use Rattle.replay_control.specs.declared.ControlPoint.{ControlPoint}
use Rattle.replay_control.specs.Control.{variable, kept, called_from, continuation, second, control_point, entering, returning, ready_at}
use Rattle.replay_engine.specs.ControlPoints.{control_point_at}
use Rattle.replay_step.specs.Words.{given}
use Rattle.replay_step.specs.declared.words.Halt.TheVariants.{Past}
use Rattle.replay_engine.specs.Steps.{proceeded, halted, copied_from, copied, act_step, after_act, gives_zero, spawned_step}
use Rattle.replay_theory.specs.Run.{thread_limit, within_limits, still_open}
use Rattle.replay_theory.specs.Replay.{check_limits}
use Rattle.replay_machine.specs.Environment.{Env}
use Rattle.replay_machine.specs.Control.{Frame, spawn_word, done, at, return, enter, open_calls}
use Rattle.replay_machine.specs.State.{MachineThread, Machine, running}
use Rattle.replay_machine.specs.Step.{zero_value, add_thread, gives}
use Rattle.replay_machine.specs.Replay.{Replay, within}
use Rattle.replay_simulation.proofs.Held.{RowOf, Stands, Values, ControlAt}
use Rattle.replay_machine.proofs.Marks.{calls_counted, enter_tells}
use Rattle.replay_simulation.proofs.Advancing.{same_all, RowIn}
use Rattle.replay_simulation.proofs.Finding.{frames_row, enters_word, returns_word}
use Rattle.replay_simulation.proofs.Agreeing.{Agree, SharedSame, control_same, less_or_more}
use Rattle.replay_simulation.proofs.Holds.{Sized, Holds}
use Rattle.replay_simulation.proofs.Proceeding.{names_same, place_below, Paused, gone_to, proceeds}
use Rattle.replay_simulation.proofs.Moving.{Answered}
use Rattle.replay_simulation.proofs.AtWord.{AtWord, with_threads, goes, ready, at_word_lem}

-- ------------------------------------------------------------------ the copy of the variables

-- from row a to row b
module _ (a b : ℕ) (apart : a ≢ b) where
  abbrev one : (s : List ℕ) (x : ℕ) → List ℕ
  one s x = set s (0 + 256 * b + x) (variable s a x)

  copied_length : (n : ℕ) (s : List ℕ) (x : ℕ) → length (copied_from s a b x n) ≡ length s
  unfolding copied_from
  copied_length zero s x = refl
  copied_length (suc n) s x = copied_length n (one s x) (x + 1) ∙ length-set s (0 + 256 * b + x) (variable s a x)

  -- only row b
  copied_outside : (n : ℕ) (s : List ℕ) (x : ℕ) (j : ℕ) → (j < 256 * b + x) ⊎ (256 * b + x + n ≤ j) → get_or (copied_from s a b x n) j 0 ≡ get_or s j 0
  unfolding copied_from
  copied_outside zero s x j o = refl
  copied_outside (suc n) s x j (inl l) = copied_outside n (one s x) (x + 1) j (inl (omega (arith, l))) ∙ get_or-set_other s (0 + 256 * b + x) j (variable s a x) 0 (λ e. omega (arith, e, l))
  copied_outside (suc n) s x j (inr l) = copied_outside n (one s x) (x + 1) j (inr (omega (arith, l))) ∙ get_or-set_other s (0 + 256 * b + x) j (variable s a x) 0 (λ e. omega (arith, e, l))

  -- its variables are those of row a
  copied_row : (n : ℕ) (s : List ℕ) (x y : ℕ) → length s ≡ space_size → b < 1056 → x + n ≤ 256 → x ≤ y → y < x + n → variable (copied_from s a b x n) b y ≡ variable s a y
  unfolding copied_from variable
  copied_row zero s x y long low h m l = absurd (omega (arith, m, l))
  copied_row (suc n) s x y long low h m l = go (ℕ_discrete x y) (copied_row n (one s x) (x + 1) y (length-set s (0 + 256 * b + x) (variable s a x) ∙ long) low (omega (arith, h)))
    where
      go : Dec (x ≡ y) → (x + 1 ≤ y → y < x + 1 + n → get_or (copied_from (one s x) a b (x + 1) n) (0 + 256 * b + y) 0 ≡ get_or (one s x) (0 + 256 * a + y) 0) →
          get_or (copied_from (one s x) a b (x + 1) n) (0 + 256 * b + y) 0 ≡ get_or s (0 + 256 * a + y) 0
      go (yes e) rec =
          copied_outside n (one s x) (x + 1) (0 + 256 * b + y) (inl (omega (arith, e)))
          ∙ ap (λ (j : ℕ). get_or (one s x) (0 + 256 * b + j) 0) (sym e)
          ∙ get_or-set_same s (0 + 256 * b + x) (variable s a x) 0 (omega (arith, long, low, h))
          ∙ ap (λ (j : ℕ). get_or s (0 + 256 * a + j) 0) e
      go (no f) rec =
          rec (omega (arith, f, m)) (omega (arith, l))
          ∙ get_or-set_other s (0 + 256 * b + x) (0 + 256 * a + y) (variable s a x) 0 (λ e. apart (rows a b y x (omega (arith, l, h)) (omega (arith, h)) e))
        where
          rows : (i j y x : ℕ) → y < 256 → x < 256 → 0 + 256 * i + y ≡ 0 + 256 * j + x → i ≡ j
          rows i j y x hy hx e = omega (arith, e, hy, hx)

-- row b is the first of thread u
module _ (s : List ℕ) (a b : ℕ) (apart : a ≢ b) (u : ℕ) (is : b ≡ 66 * u) (low : u < 16) where
  agree_copied : (i : ℕ) → i < 16 → i ≢ u → Agree i s (copied s a b)
  unfolding copied variable kept called_from control_point_at
  agree_copied i h n = record {
    rows = record {
      variables = λ r y in_row hy. copied_outside a b apart 256 s 0 (0 + 256 * r + y) (beside r y in_row hy (less_or_more i u n));
      kepts = λ r j in_row hj. copied_outside a b apart 256 s 0 (kept_values_at + 256 * r + j) (inr (omega (arith, low, is)));
      calls = λ r in_row. copied_outside a b apart 256 s 0 (open_calls_at + r) (inr (omega (arith, low, is)));
    };
    focused = λ z. control_point
        (mode_of (copied_outside a b apart 256 s 0 (control_point_modes_at + i) (inr (omega (arith, low, is))) z))
        (copied_outside a b apart 256 s 0 (control_point_places_at + i) (inr (omega (arith, low, is))) z)
        (copied_outside a b apart 256 s 0 (control_point_values_at + i) (inr (omega (arith, low, is))) z)
        (copied_outside a b apart 256 s 0 (control_point_rows_at + i) (inr (omega (arith, low, is))) z);
    mode = copied_outside a b apart 256 s 0 (control_point_modes_at + i) (inr (omega (arith, low, is)));
  }
    where
      beside : (r y : ℕ) → RowIn i r → y < 256 → (i < u) ⊎ (u < i) → (0 + 256 * r + y < 256 * b + 0) ⊎ (256 * b + 0 + 256 ≤ 0 + 256 * r + y)
      beside r y (lo, hi) hy (inl l) = inl (omega (arith, l, hy, hi, is))
      beside r y (lo, hi) hy (inr l) = inr (omega (arith, l, lo, is))

  shared_copied : SharedSame s (copied s a b)
  unfolding copied
  shared_copied j h = copied_outside a b apart 256 s 0 j (inr (omega (arith, low, h, is)))

-- ------------------------------------------------------------------ one more thread

last_other : {A : Type 0} (xs : List A) (a b : A) (i : ℕ) → i ≢ length xs → slice_get (xs ++ (a ∷ [])) i ≡ Some b → slice_get xs i ≡ Some b
last_other [] a b zero n h = absurd (n refl)
last_other [] a b (suc i) n h = none_is_not_some h
last_other (x ∷ xs) a b zero n h = h
last_other (x ∷ xs) a b (suc i) n h = last_other xs a b i (λ e. n (ap suc e)) h

first_kept : {A : Type 0} (xs : List A) (a b : A) (i : ℕ) → slice_get xs i ≡ Some b → slice_get (xs ++ (a ∷ [])) i ≡ Some b
first_kept [] a b i h = none_is_not_some h
first_kept (x ∷ xs) a b zero h = h
first_kept (x ∷ xs) a b (suc i) h = first_kept xs a b i h

module _ {T : Threads} {ts : List MachineThread} (sized : Sized T ts) (room : length ts < 16) (tid : ℕ) where
  count_low : T.count < 16
  count_low = let e = sized.count in omega arith

  spawned_here : get_or (spawned T (suc tid)).records (length ts) no_record ≡ record { state = Running; tid = suc tid }
  unfolding spawned
  spawned_here = rw (lt-ltb T.count 16 count_low, sized.count) (get_or-set_same T.records (length ts) _ no_record (let l = sized.records in omega (arith, l, room)))

  spawned_there : (i : ℕ) → i ≢ length ts → get_or (spawned T (suc tid)).records i no_record ≡ get_or T.records i no_record
  unfolding spawned
  spawned_there i n = rw (lt-ltb T.count 16 count_low, sized.count) (get_or-set_other T.records (length ts) i _ no_record n)

  spawned_sized : (a : MachineThread) → Sized (spawned T (suc tid)) (ts ++ (a ∷ []))
  unfolding spawned
  spawned_sized a =
      let e = length-append ts (a ∷ []) in
      record {
        count = rw (lt-ltb T.count 16 count_low) (let c = sized.count in omega (arith, c, e));
        fits = omega (arith, e, room);
        records = rw (lt-ltb T.count 16 count_low) (length-set T.records T.count (record { state = Running; tid = suc tid }) ∙ sized.records);
        behind = λ i l h. ap (λ (r : Record). r.state) (spawned_there i (λ q. omega (arith, q, l, e))) ∙ sized.behind i (omega (arith, l, e)) h;
      }

-- ------------------------------------------------------------------ the machine's word

module _ {p s : List ℕ} {T : Threads} {R : Replay} {t row tid : ℕ} {σ : Env} {q : Position} {n : ℕ} {e : Expr} {K : List Frame} (A : AtWord p s T R t row tid σ (spawn_word q (name n) e) K)
    {m : ℕ} (r : RowOf p q (Binary Spawn) m) (S : Stands p finish (second p q.index) e) where
  abbrev M : Machine
  M = R.machine

  abbrev u : ℕ
  u = length M.threads

  abbrev Spawns : Replay
  Spawns = record { machine = add_thread (running n (enter σ e [])) (gives M t tid σ K M.names zero_value); things = R.things }

  abbrev word : ControlPoint
  word = ready_at row q.index (suc n)

  t_below : t < u
  t_below = place_below M.threads t (running tid (at σ (spawn_word q (name n) e) K)) A.there

  module _ (room : u < 16) where
    abbrev ph : MachineThread
    ph = running n (done (int 0))

    abbrev s₁ : List ℕ
    s₁ = copied s row (66 * u)

    apart : row ≢ 66 * u
    apart z = let l = t_below in omega (arith, z, l, A.inside.1)

    other : t ≢ u
    other z = let l = t_below in omega (arith, z, l)

    long₁ : length s₁ ≡ space_size
    unfolding copied
    long₁ = copied_length row (66 * u) apart 256 s 0 ∙ A.holds.long

    values₁ : Values p s₁ (66 * u) σ
    unfolding copied
    values₁ x h = copied_row row (66 * u) apart 256 s 0 x A.holds.long (omega (arith, room)) (omega arith) (omega arith) (omega (arith, h)) ∙ A.values x h

    abbrev Added : Replay
    Added = record { machine = add_thread ph M; things = R.things }

    paused : Paused p s₁ (spawned T (suc n)) Added u n
    paused = record {
      long = long₁;
      bodies = A.holds.bodies;
      names = names_same s s₁ (shared_copied s row (66 * u) apart u refl room) A.holds.names;
      sized = spawned_sized A.holds.sized room n ph;
      there = let l = length-append M.threads (ph ∷ []) in omega (arith, l);
      was = spawned_here A.holds.sized room n;
      others = λ i th d h.
          let g = last_other M.threads ph th i d h in
          let l = place_below M.threads i th g in
          let a = agree_copied s row (66 * u) apart u refl room i (omega (arith, l, room)) d in
          let held = A.holds.threads i th g in
          record {
            recorded = spawned_there A.holds.sized room n i d ∙ held.recorded;
            control = subst (λ (f : ControlPoint). ControlAt p s₁ i f th.control) (sym a.focused) (control_same p i s s₁ a.rows (control_point_at s i) th.control (let c = held.calls in omega arith) held.control);
            plain = rw a.mode held.plain;
            settled = held.settled;
            calls = held.calls;
          };
    }

    abbrev after : Threads × List ℕ
    after = proceeded p s₁ (spawned T (suc n)) u (entering (66 * u) (second p q.index))

    abbrev ts₁ : List MachineThread
    ts₁ = set (M.threads ++ (ph ∷ [])) u (running n (enter σ e []))

    abbrev R₁ : Replay
    R₁ = gone_to Added u n (enter σ e [])

    -- the new thread has no open call
    none_open : open_calls (enter σ e []) ≤ 64
    unfolding still_open
    none_open = let z = sym (calls_counted (enter σ e [])) ∙ ap length (sym (enter_tells σ e [])) in omega (arith, z)

    child_held : Holds p after.1 after.0 R₁
    child_held =
        proceeds paused (entering (66 * u) (second p q.index)) (enter σ e []) none_open
        (enters_word {c = finish} (record { low = room; same = same_all u s₁; long = long₁; inside = (omega arith, omega arith); values = values₁; frames = (refl, refl) }) e S)

    -- thread t still stands at its spawn
    there₁ : slice_get ts₁ t ≡ Some (running tid (at σ (spawn_word q (name n) e) K))
    there₁ = set_elsewhere (M.threads ++ (ph ∷ [])) u t (running n (enter σ e [])) (λ z. other (sym z)) ∙ first_kept M.threads ph (running tid (at σ (spawn_word q (name n) e) K)) t A.there

    threads_after : set ts₁ t (running tid (return σ zero_value K)) ≡ set M.threads t (running tid (return σ zero_value K)) ++ (running n (enter σ e []) ∷ [])
    threads_after =
        ap (λ (ts : List MachineThread). set ts t (running tid (return σ zero_value K))) (set-append_seam M.threads ph [] (running n (enter σ e [])))
        ∙ set-append_left M.threads (running n (enter σ e []) ∷ []) t (running tid (return σ zero_value K)) t_below

    still_at : AtWord p after.1 after.0 R₁ t row tid σ (spawn_word q (name n) e) K
    still_at =
        let B = at_word_lem child_held there₁ in
        let same_row = frames_row p t after.1 K (control_point_at after.1 t).row q.index (continuation p q.index) B.frames ∙ sym (frames_row p t s K row q.index (continuation p q.index) A.frames) in
        subst (λ (i : ℕ). AtWord p after.1 after.0 R₁ t i tid σ (spawn_word q (name n) e) K) same_row B

    spawns_one : Answered p (check_limits within (Some Spawns)) (gives_zero p t word after)
    unfolding gives_zero given after_act act_step
    spawns_one =
        subst (λ (ts : List MachineThread). Answered p (check_limits within (Some (with_threads R ts))) (gives_zero p t word after)) threads_after
        (goes still_at word (returning row (continuation p q.index) 0) (return σ zero_value K) (returns_word (ready still_at q.index (omega arith)) zero_value))

    with_room : Answered p (check_limits within (Some Spawns)) (spawned_step p s T t word (suc n))
    unfolding spawned_step
    with_room =
        subst (λ (c : ℕ). Answered p (check_limits within (Some Spawns)) (when leb 16 c then (halted Past T, s) else gives_zero p t word (proceeded p (copied s row (66 * c)) (spawned T (suc n)) c (entering (66 * c) (second p q.index)))))
        (sym A.holds.sized.count) (rw (lt-leb 16 u room) spawns_one)

  no_room : 16 ≤ u → Answered p (check_limits within (Some Spawns)) (spawned_step p s T t word (suc n))
  unfolding spawned_step check_limits within within_limits thread_limit
  no_room full =
      let a = length-append (set M.threads t (running tid (return σ zero_value K))) (running n (enter σ e []) ∷ []) in
      let b = length-set M.threads t (running tid (return σ zero_value K)) in
      let c = A.holds.sized.count in
      rw (le-leb 16 T.count (omega (arith, c, full)), lt-leb (length (set M.threads t (running tid (return σ zero_value K)) ++ (running n (enter σ e []) ∷ []))) 16 (omega (arith, a, b, full))) (T, refl)

  pub spawning_goes : Answered p (check_limits within (Some Spawns)) (spawned_step p s T t word (suc n))
  spawning_goes = go (dec_lt u 16)
    where
      go : Dec (u < 16) → Answered p (check_limits within (Some Spawns)) (spawned_step p s T t word (suc n))
      go (yes l) = with_room l
      go (no f) = no_room (omega (arith, f))
