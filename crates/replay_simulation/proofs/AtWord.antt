-- Thread t stands at its next word, in a space that holds the machine; and how it goes on from there.
use Rattle.std.proofs.Common.{Option, Some, Result, Ok, slice_get}
use Prim.Native.Nat.{ℕ, ◌<◌, ◌≤◌}
use mathlib.Core.Path.{◌≡◌, sym, ◌∙◌, subst}
use mathlib.Core.Logic.{◌≢◌}
use mathlib.Core.List.{List}
use native.Mathlib.Omega.{arith}
use lib.ListN.{length}
use Rattle.calculus.specs.Expression.{Value}
use Rattle.calculus.specs.State as state
use Rattle.calculus.specs.State.{Part}
use Rattle.calculus.specs.Reduction.{◌>>=◌}
use Rattle.threads.specs.declared.Threads.{Threads}
use Rattle.replay_control.specs.Layout.{space_size}
use Rattle.replay_control.specs.declared.ControlPoint.{ControlPoint}
use Rattle.replay_control.specs.Control.{continuation, found}
use Rattle.replay_step.specs.declared.words.Act.{Act}
use Rattle.replay_step.specs.declared.words.Act.TheVariants.{Go}
use Rattle.replay_step.specs.declared.words.Halt.{Halt}
use Rattle.replay_engine.specs.ControlPoints.{control_point_at}
use Rattle.replay_step.specs.Words.{given, acted}
use Rattle.replay_engine.specs.Steps.{after_act}
use Rattle.replay_theory.specs.Run.{ObjectKind}
use Rattle.replay_theory.specs.Replay.{check_limits}
use Rattle.replay_machine.specs.Environment.{Env}
use Rattle.replay_machine.specs.Control.{Frame, Word, Control, at, return, marks, open_calls}
use Rattle.replay_machine.specs.State.{MachineThread, Machine, running}
use Rattle.replay_machine.specs.Step.{goes_to, step_word}
use Rattle.replay_machine.specs.Replay.{Replay, within}
use Rattle.replay_simulation.proofs.Held.{code_value, Values, Frames, place_of, ControlAt}
use Rattle.replay_simulation.proofs.Advancing.{same_all, RowIn}
use Rattle.replay_simulation.proofs.Finding.{frames_up, frames_same, frames_inside, Finds, Ready, returns_word}
use Rattle.replay_simulation.proofs.Agreeing.{RowsAgree, Agree, rows_same, control_same, agree_all}
use Rattle.replay_simulation.proofs.Holds.{NamesHeld, Holds}
use Rattle.replay_simulation.proofs.Proceeding.{place_below, Paused, gone_to}
use Rattle.replay_simulation.proofs.Moving.{Answered, moves}

-- in row `row`, with the identifier tid: at the word w, in the environment σ and the frames K
pub record AtWord (p s : List ℕ) (T : Threads) (R : Replay) (t row tid : ℕ) (σ : Env) (w : Word) (K : List Frame) : Type 0 where
  pub holds : Holds p s T R
  pub there : slice_get R.machine.threads t ≡ Some (running tid (at σ w K))
  pub low : t < 16
  pub inside : RowIn t row
  pub few : marks K ≤ 64
  pub values : Values p s row σ
  pub frames : Frames p s t row (place_of p s w) (continuation p (place_of p s w)) K

-- these names have been given out
abbrev pub renamed : Replay → (ℕ → state.Slot) → (next : ℕ) → (ObjectKind → ℕ) → Replay
renamed R names next things =
    record { machine = record { procedures = R.machine.procedures; threads = R.machine.threads; names = names; next = next }; things = things }

-- these are its threads
abbrev pub with_threads : Replay → List MachineThread → Replay
with_threads R ts =
    record { machine = record { procedures = R.machine.procedures; threads = ts; names = R.machine.names; next = R.machine.next }; things = R.things }

module _ {p s : List ℕ} {T : Threads} {R : Replay} {t row tid : ℕ} {σ : Env} {w : Word} {K : List Frame}
    (A : AtWord p s T R t row tid σ w K) where
  -- what the code hands back answers the machine's step, in which nothing is made
  abbrev pub Answers : ControlPoint → Option Machine → Result Act Halt × List ℕ → Type 0
  Answers f o r = Answered p (check_limits within (o >>= λ N. Some (record { machine = N; things = R.things }))) (after_act p T t f r)

  -- the machine's step that takes that part of an `if`, and the code's act with that choice
  abbrev pub Goes : Part → ControlPoint → (choice : ℕ) → Type 0
  Goes part f c = Answers f (step_word R.machine t tid σ K part w) (acted p s f c)

  pub by_act : (part : Part) (f : ControlPoint) (c : ℕ) {a : Result Act Halt × List ℕ} → acted p s f c ≡ a → Answers f (step_word R.machine t tid σ K part w) a → Goes part f c
  by_act part f c e G = subst (Answers f (step_word R.machine t tid σ K part w)) (sym e) G

  -- on its way, in a space that differs in nothing of the other threads', with these names
  pub pausing : {s₁ : List ℕ} → length s₁ ≡ space_size → ((i : ℕ) → i < 16 → i ≢ t → Agree i s s₁) →
      {names : ℕ → state.Slot} {next : ℕ} {things : ObjectKind → ℕ} → NamesHeld s₁ names next things → Paused p s₁ T (renamed R names next things) t tid
  pausing {s₁} long agree N = record {
    long = long;
    bodies = A.holds.bodies;
    names = N;
    sized = A.holds.sized;
    there = place_below R.machine.threads t (running tid (at σ w K)) A.there;
    was = (A.holds.threads t (running tid (at σ w K)) A.there).recorded;
    others = λ i th n h.
        let held = A.holds.threads i th h in
        let l = place_below R.machine.threads i th h in
        let f = A.holds.sized.fits in
        let a = agree i (omega arith) n in
        record {
          recorded = held.recorded;
          control = subst (λ (f : ControlPoint). ControlAt p s₁ i f th.control) (sym a.focused)
              (control_same p i s s₁ a.rows (control_point_at s i) th.control (let c = held.calls in omega arith) held.control);
          plain = rw a.mode held.plain;
          settled = held.settled;
          calls = held.calls;
        };
  }

  -- to d, in the space as it is
  pub goes : (f g : ControlPoint) (d : Control) → Finds p t s d (found 2048 p s g) →
      Answers f (Some (goes_to R.machine t tid R.machine.names d)) (Ok (Go g), s)
  goes f g d F = moves (pausing A.holds.long (λ i l n. agree_all i s) A.holds.names) f g d F

  pub ready : (b : ℕ) → place_of p s w ≤ b → Ready p t s σ row s b (continuation p (place_of p s w)) K
  ready b h = record {
    low = A.low;
    same = same_all t s;
    long = A.holds.long;
    inside = A.inside;
    values = A.values;
    frames = frames_up p t s row (place_of p s w) b (continuation p (place_of p s w)) K h A.frames;
  }

  -- in a space in which the thread's rows are as they were
  ready_in : (s₁ : List ℕ) → length s₁ ≡ space_size → RowsAgree t s s₁ → place_of p s w < 256 →
      Ready p t s₁ σ row s₁ (place_of p s w) (continuation p (place_of p s w)) K
  ready_in s₁ long same below = record {
    low = A.low;
    same = same_all t s₁;
    long = long;
    inside = A.inside;
    values = λ x h. same.variables row x A.inside h ∙ A.values x h;
    frames = frames_same p t s s₁ row (place_of p s w) (continuation p (place_of p s w)) K
        (rows_same p t s s₁ same row (place_of p s w) A.inside (omega (arith, below))) A.frames;
  }

  -- the word becomes a value, in a space in which all threads stand as they stood
  pub becomes : (s₁ : List ℕ) → length s₁ ≡ space_size → ((i : ℕ) → i < 16 → Agree i s s₁) →
      {names : ℕ → state.Slot} {next : ℕ} {things : ObjectKind → ℕ} → NamesHeld s₁ names next things → place_of p s w < 256 → (f : ControlPoint) (v : Value) →
      Answered p (check_limits within (Some (gone_to (renamed R names next things) t tid (return σ v K))))
      (after_act p T t f (Ok (Go (given p row (place_of p s w) (code_value v))), s₁))
  unfolding given
  becomes s₁ long agree N below f v =
      moves (pausing long (λ i l n. agree i l) N) f (given p row (place_of p s w) (code_value v)) (return σ v K)
      (returns_word (ready_in s₁ long (agree t A.low).rows below) v)

-- so stands each thread of the machine that has a word
pub at_word_lem : {p s : List ℕ} {T : Threads} {R : Replay} {t tid : ℕ} {σ : Env} {w : Word} {K : List Frame} →
    Holds p s T R → slice_get R.machine.threads t ≡ Some (running tid (at σ w K)) → AtWord p s T R t (control_point_at s t).row tid σ w K
unfolding open_calls
at_word_lem {p} {s} {R = R} {t} {tid} {σ} {w} {K} H there =
    let held = H.threads t (running tid (at σ w K)) there in
    let (values, W, F) = held.control in
    let few : marks K ≤ 64 = held.calls in
    let l = place_below R.machine.threads t (running tid (at σ w K)) there in
    let f = H.sized.fits in
    record {
      holds = H;
      there = there;
      low = omega arith;
      inside = frames_inside p t s K _ (place_of p s w) (continuation p (place_of p s w)) (omega (arith, few)) F;
      few = few;
      values = values;
      frames = F;
    }
