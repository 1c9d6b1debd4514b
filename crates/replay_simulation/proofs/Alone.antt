-- The words of a thread alone are the machine's: let, if, while.
use Rattle.std.proofs.Common.{Ok}
use Prim.Native.Nat.{ℕ, ◌+◌, ◌*◌, ◌<◌}
use mathlib.Core.Path.{◌≡◌, refl, sym, ◌∙◌, ap, subst}
use mathlib.Core.Logic.{◌≢◌}
use mathlib.Core.Bool.{false}
use mathlib.Core.List.{List}
use native.Mathlib.Omega.{arith}
use native.Mathlib.Decide.{ℕ_discrete}
use lib.ListN.{length, get_or, set, length-set}
use lib.Seq.{get_or-set_same, get_or-set_other}
use Rattle.spec.specs.Expression.{Position, Expr}
use Rattle.spec.specs.Words.{largest_value}
use Rattle.spec.specs.declared.Word.TheVariants.{Unary, Binary}
use Rattle.spec.specs.declared.UnaryWord.TheVariants.{While}
use Rattle.spec.specs.declared.BinaryWord.TheVariants.{Let, If}
use Rattle.calculus.specs.Expression.{Value, choose}
use Rattle.calculus.specs.State.{first, second as second_of_two, update}
use Rattle.workspace.specs.Layout.{rule_of, printed}
use Rattle.threads.specs.declared.Threads.{Threads}
use Rattle.replay_control.specs.Layout.{kept_values_at, open_calls_at, space_size}
use Rattle.replay_control.specs.declared.ControlPoint.{ControlPoint}
use Rattle.replay_control.specs.Shapes.{shape_at}
use Rattle.replay_control.specs.Control.{variable, kept, called_from, continuation, second, entering, stopped_at, ready_at, unrolled_at, found}
use Rattle.replay_control.specs.Modes.{on_its_way}
use Rattle.replay_control.proofs.Advances.{found_stop}
use Rattle.replay_step.specs.declared.words.Act.TheVariants.{Go}
use Rattle.replay_step.specs.Words.{given, branched, looped, bound, acted_by, acted}
use Rattle.replay_machine.specs.Environment.{Env}
use Rattle.replay_machine.specs.Control.{Frame, let_word, if_word, while_word, unrolled_word, again_word, Control, at, return, enter, run_part}
use Rattle.replay_machine.specs.Step.{zero_value}
use Rattle.replay_machine.specs.Replay.{Replay}
use Rattle.replay_simulation.proofs.Held.{code_value, RowOf, Stands, Values, ControlAt}
use Rattle.replay_simulation.proofs.Advancing.{behind_is, same_all}
use Rattle.replay_simulation.proofs.Finding.{frames_up, RowsSame, frames_same, Finds, Ready, enters_word, returns_word, runs_part}
use Rattle.replay_simulation.proofs.Agreeing.{agree_variable}
use Rattle.replay_simulation.proofs.Proceeding.{names_same}
use Rattle.replay_simulation.proofs.Moving.{moves}
use Rattle.replay_simulation.proofs.AtWord.{AtWord, Goes, by_act, pausing, goes, ready}

-- ------------------------------------------------------------------ what the code does

module _ (p s : List ℕ) (row c : ℕ) {q : Position} where
  let_acts : {x : ℕ} (v : ℕ) → RowOf p q (Binary Let) x →
      acted p s (ready_at row q.index v) c ≡ (Ok (Go (entering row (second p q.index))), set s (0 + 256 * row + x) v)
  unfolding acted acted_by bound shape_at rule_of printed
  let_acts v r = rw (r.code, r.number)

  if_acts : {n : ℕ} → RowOf p q (Binary If) n → acted p s (stopped_at row q.index) c ≡ (Ok (Go (branched p row q.index c)), s)
  unfolding acted acted_by shape_at rule_of printed
  if_acts r = rw r.code

  while_acts : {n : ℕ} (f : ControlPoint) → f.at ≡ q.index → RowOf p q (Unary While) n → acted p s f c ≡ (Ok (Go (looped p f c)), s)
  unfolding acted acted_by shape_at rule_of printed
  while_acts f e r = rw (e, r.code)

-- the thread stands there at once
stays : (p s : List ℕ) (t : ℕ) (g : ControlPoint) (d : Control) → on_its_way g.mode ≡ false → ControlAt p s t g d → Finds p t s d (found 2048 p s g)
stays p s t g d h C = subst (Finds p t s d) (sym (found_stop p s g 2048 h)) (C, same_all t s)

-- ------------------------------------------------------------------ let

module _ {p s : List ℕ} {T : Threads} {R : Replay} {t row tid : ℕ} {σ : Env} {q : Position} {x : ℕ} {v : Value} {e : Expr} {K : List Frame}
    (A : AtWord p s T R t row tid σ (let_word q x v e) K) (r : RowOf p q (Binary Let) x) (S : Stands p (continuation p q.index) (second p q.index) e) where
  abbrev s₁ : List ℕ
  s₁ = set s (0 + 256 * row + x) (code_value v)

  x_low : x < 256
  unfolding largest_value
  x_low = omega (arith, r.small.0)

  elsewhere : (j : ℕ) → j ≢ 0 + 256 * row + x → get_or s₁ j 0 ≡ get_or s j 0
  elsewhere j n = get_or-set_other s (0 + 256 * row + x) j (code_value v) 0 n

  long₁ : length s₁ ≡ space_size
  long₁ = length-set s (0 + 256 * row + x) (code_value v) ∙ A.holds.long

  bound_values : Values p s₁ row (update σ x v)
  unfolding variable
  bound_values y h = by_name (ℕ_discrete y x)
    where
      by_name : (d : Dec (y ≡ x)) → get_or s₁ (0 + 256 * row + y) 0 ≡ code_value (choose d v (σ y))
      by_name (yes z) =
          ap (λ (j : ℕ). get_or s₁ (0 + 256 * row + j) 0) z
          ∙ get_or-set_same s (0 + 256 * row + x) (code_value v) 0 (omega (arith, A.holds.long, A.low, A.inside.1, x_low))
      by_name (no n) = elsewhere (0 + 256 * row + y) (λ z. n (omega (arith, z))) ∙ A.values y h

  bound_rows : RowsSame p t row q.index s s₁
  unfolding kept variable called_from
  bound_rows = record {
    here = λ j l. elsewhere (kept_values_at + 256 * row + j) (λ z. omega (arith, z, A.low, A.inside.1, x_low));
    before = λ i j a l h. elsewhere (kept_values_at + 256 * i + j) (λ z. omega (arith, z, A.low, A.inside.1, x_low));
    variables = λ i y a l h. elsewhere (0 + 256 * i + y) (λ z. omega (arith, z, l, h));
    called = λ i a l. elsewhere (open_calls_at + i) (λ z. omega (arith, z, A.low, A.inside.1, x_low));
  }

  bound_ready : Ready p t s₁ (update σ x v) row s₁ (second p q.index) (continuation p q.index) K
  bound_ready = record {
    low = A.low;
    same = same_all t s₁;
    long = long₁;
    inside = A.inside;
    values = bound_values;
    frames = frames_up p t s₁ row q.index (second p q.index) (continuation p q.index) K (omega (arith, r.far))
        (frames_same p t s s₁ row q.index (continuation p q.index) K bound_rows A.frames);
  }

  pub let_goes : Goes A first (ready_at row q.index (code_value v)) 0
  let_goes =
      by_act A first word 0 (let_acts p s row 0 (code_value v) r)
      (moves
      (pausing A long₁ (λ i l n. agree_variable i t row x (code_value v) s l A.low A.inside x_low n)
      (names_same s s₁ (λ j h. elsewhere j (λ z. omega (arith, z, h, A.low, A.inside.1, x_low))) A.holds.names))
      word (entering row (second p q.index)) (enter (update σ x v) e K) (enters_word bound_ready e S))
    where
      word : ControlPoint
      word = ready_at row q.index (code_value v)

-- ------------------------------------------------------------------ if

module _ {p s : List ℕ} {T : Threads} {R : Replay} {t row tid : ℕ} {σ : Env} {q : Position} {e₁ e₂ : Expr} {K : List Frame}
    (A : AtWord p s T R t row tid σ (if_word q e₁ e₂) K) {n : ℕ} (r : RowOf p q (Binary If) n) where
  abbrev word : ControlPoint
  word = stopped_at row q.index

  pub if_first : Stands p (continuation p q.index) (q.index + 1) e₁ → Goes A first word 0
  unfolding branched
  if_first S =
      by_act A first word 0 (if_acts p s row 0 r ∙ ap (λ (k : ℕ). (Ok (Go (entering row k)), s)) (behind_is q.index r.below))
      (goes A word (entering row (q.index + 1)) (enter σ e₁ K) (enters_word (ready A (q.index + 1) (omega arith)) e₁ S))

  pub if_second : Stands p (continuation p q.index) (second p q.index) e₂ → Goes A second_of_two word 1
  unfolding branched
  if_second S =
      by_act A second_of_two word 1 (if_acts p s row 1 r)
      (goes A word (entering row (second p q.index)) (enter σ e₂ K) (enters_word (ready A (second p q.index) (omega (arith, r.far))) e₂ S))

-- ------------------------------------------------------------------ while

module _ {p s : List ℕ} {T : Threads} {R : Replay} {t row tid : ℕ} {σ : Env} {q : Position} {e : Expr} {K : List Frame} {n : ℕ}
    (r : RowOf p q (Unary While) n) (S : Stands p q.index (q.index + 1) e) where
  -- it becomes an `if`
  pub while_goes : (A : AtWord p s T R t row tid σ (while_word q e) K) → Goes A first (stopped_at row q.index) 0
  unfolding looped
  while_goes A =
      by_act A first (stopped_at row q.index) 0 (while_acts p s row 0 (stopped_at row q.index) refl r)
      (goes A (stopped_at row q.index) (unrolled_at row q.index) (at σ (unrolled_word q e) K)
      (stays p s t (unrolled_at row q.index) (at σ (unrolled_word q e) K) refl (A.values, (refl, n, r, S), A.frames)))

  -- its part has given its value
  pub again_goes : {v : Value} (A : AtWord p s T R t row tid σ (again_word q v e) K) → Goes A first (ready_at row q.index (code_value v)) 0
  unfolding looped
  again_goes {v} A =
      by_act A first word 0 (while_acts p s row 0 word refl r)
      (goes A word (stopped_at row q.index) (at σ (while_word q e) K)
      (stays p s t (stopped_at row q.index) (at σ (while_word q e) K) refl (A.values, (refl, n, r, S), A.frames)))
    where
      word : ControlPoint
      word = ready_at row q.index (code_value v)

  -- the part runs once more
  pub unrolled_first : (A : AtWord p s T R t row tid σ (unrolled_word q e) K) → Goes A first (unrolled_at row q.index) 0
  unfolding looped
  unrolled_first A =
      by_act A first (unrolled_at row q.index) 0
      (while_acts p s row 0 (unrolled_at row q.index) refl r ∙ ap (λ (k : ℕ). (Ok (Go (entering row k)), s)) (behind_is q.index r.below))
      (goes A (unrolled_at row q.index) (entering row (q.index + 1)) (run_part σ q e K) (runs_part (ready A q.index (omega arith)) e r S))

  pub unrolled_second : (A : AtWord p s T R t row tid σ (unrolled_word q e) K) → Goes A second_of_two (unrolled_at row q.index) 1
  unfolding looped given
  unrolled_second A =
      by_act A second_of_two (unrolled_at row q.index) 1 (while_acts p s row 1 (unrolled_at row q.index) refl r)
      (goes A (unrolled_at row q.index) (given p row q.index 0) (return σ zero_value K) (returns_word (ready A q.index (omega arith)) zero_value))
