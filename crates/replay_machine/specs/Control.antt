-- The control of a thread: the word that comes next, with the values of its parts, and the frames around it. Between two steps a thread
-- always stands at its next word, so that a step of the machine is a step of the language. Words and frames know where their step stands.
use Rattle.std.specs.Prelude.{ℕ, suc, List, [], ◌∷◌, Option, None, Some}
use Rattle.spec.specs.Expression.{Position, Expr, leaf, unary, binary}
use Rattle.spec.specs.declared.BinaryWord.TheVariants.{Let, If, Spawn, Write}
use Rattle.calculus.specs.Expression.{Value, int, Unary, Nullary, Exp, value, let_in, if, while, spawn, write, unary as one_part, nullary, Redex, let_redex, if_redex, while_redex, spawn_redex, write_redex, unary_redex, nullary_redex}
use Rattle.calculus.specs.Reduction.{zero_exp, nowhere}
use Rattle.soundness.specs.Erasure.{LeafForm, variable, constant, reduces, leaf_form, UnaryForm, loop, strict, unary_form}
use Rattle.replay_machine.specs.Environment.{Env, closed, closed_under}

-- ---- Frames

-- Which part of which word is being evaluated, with what the word still needs. `again_part` is of a `while` whose part runs: the `let` of
-- the variable used nowhere, around the same `while`.
pub data FrameForm : Type 0 where
  let_part : (x : ℕ) → Expr → FrameForm
  spawn_part : Expr → FrameForm
  write_first : Expr → FrameForm
  write_second : Value → FrameForm
  unary_part : Unary → FrameForm
  again_part : Expr → FrameForm

-- A step that waits for one of its parts; or an open call, whose body runs in an environment of its own: its mark holds the caller's.
pub data Frame : Type 0 where
  step_frame : Position → FrameForm → Frame
  mark_frame : Env → Frame

-- The expression around a part.
abbrev pub around : Env → Frame → Exp → Exp
around σ (step_frame k (let_part x e₂)) E = let_in x E (closed_under σ x e₂)
around σ (step_frame k (spawn_part e₂)) E = spawn E (closed σ e₂)
around σ (step_frame k (write_first e₂)) E = write E (closed σ e₂)
around σ (step_frame k (write_second v)) E = write (value v) E
around σ (step_frame k (unary_part o)) E = one_part o E
around σ (step_frame k (again_part e)) E = let_in nowhere E (while (closed σ e))
around σ (mark_frame σ') E = E

-- The environment of the frames behind a frame: an open call ends with its caller's.
abbrev pub behind : Env → Frame → Env
behind σ (step_frame k f) = σ
behind σ (mark_frame σ') = σ'

-- The frames around an expression, the innermost first.
abbrev pub fill : Env → List Frame → Exp → Exp
fill σ [] E = E
fill σ (f ∷ K) E = fill (behind σ f) K (around σ f E)

-- ---- Words

-- A word that can reduce: the parts that must be values are. `unrolled_word` is the `if` that a `while` became, `again_word` the `let`
-- around the same `while`.
pub data Word : Type 0 where
  let_word : Position → (x : ℕ) → Value → Expr → Word
  if_word : Position → Expr → Expr → Word
  while_word : Position → Expr → Word
  spawn_word : Position → Value → Expr → Word
  write_word : Position → Value → Value → Word
  unary_word : Position → Unary → Value → Word
  nullary_word : Position → Nullary → Word
  unrolled_word : Position → Expr → Word
  again_word : Position → Value → Expr → Word

-- The word as an expression, and as a word of the calculus.
abbrev pub word_exp : Env → Word → Exp
word_exp σ (let_word k x v e) = let_in x (value v) (closed_under σ x e)
word_exp σ (if_word k e₁ e₂) = if (closed σ e₁) (closed σ e₂)
word_exp σ (while_word k e) = while (closed σ e)
word_exp σ (spawn_word k v e) = spawn (value v) (closed σ e)
word_exp σ (write_word k v w) = write (value v) (value w)
word_exp σ (unary_word k o v) = one_part o (value v)
word_exp σ (nullary_word k o) = nullary o
word_exp σ (unrolled_word k e) = if (let_in nowhere (closed σ e) (while (closed σ e))) zero_exp
word_exp σ (again_word k v e) = let_in nowhere (value v) (while (closed σ e))

abbrev pub redex : Env → Word → Redex
redex σ (let_word k x v e) = let_redex x v (closed_under σ x e)
redex σ (if_word k e₁ e₂) = if_redex (closed σ e₁) (closed σ e₂)
redex σ (while_word k e) = while_redex (closed σ e)
redex σ (spawn_word k v e) = spawn_redex v (closed σ e)
redex σ (write_word k v w) = write_redex v w
redex σ (unary_word k o v) = unary_redex o v
redex σ (nullary_word k o) = nullary_redex o
redex σ (unrolled_word k e) = if_redex (let_in nowhere (closed σ e) (while (closed σ e))) zero_exp
redex σ (again_word k v e) = let_redex nowhere v (while (closed σ e))

-- ---- Control

-- A thread has finished with a value; or it is at a word, in an environment that holds for the word and the frames around it.
pub data Control : Type 0 where
  done : Value → Control
  at : Env → Word → List Frame → Control

-- The expression that it stands for, and the word that comes next.
abbrev pub decode : Control → Exp
decode (done v) = value v
decode (at σ w K) = fill σ K (word_exp σ w)

abbrev pub next_redex : Control → Option Redex
next_redex (done v) = None
next_redex (at σ w K) = Some (redex σ w)

-- ---- Finding the next word

-- A word with one part that must be a value.
abbrev pub seek_part : Env → Position → Unary → List Frame → (List Frame → (Value → Control) → Control) → Control
seek_part σ k o K s = s (step_frame k (unary_part o) ∷ K) (λ v. at σ (unary_word k o v) K)

-- A word without parts, and a word with one, whose part is sought by `part`.
abbrev pub seek_leaf : Env → Position → LeafForm → List Frame → (Value → Control) → Control
seek_leaf σ k (variable x) K c = c (σ x)
seek_leaf σ k (constant n) K c = c (int n)
seek_leaf σ k (reduces o) K c = at σ (nullary_word k o) K

abbrev pub seek_unary : Env → Position → UnaryForm → Expr → List Frame → (part : List Frame → (Value → Control) → Control) → Control
seek_unary σ k loop e K part = at σ (while_word k e) K
seek_unary σ k (strict o) e K part = seek_part σ k o K part

-- The next word of an expression within frames; and what follows where it is a value.
abbrev pub seek : Env → Expr → List Frame → (Value → Control) → Control
seek σ (leaf w k v) K c = seek_leaf σ k (leaf_form w v) K c
seek σ (unary w k v e) K c = seek_unary σ k (unary_form w v) e K (seek σ e)
seek σ (binary Let k x e₁ e₂) K c = seek σ e₁ (step_frame k (let_part x e₂) ∷ K) (λ v. at σ (let_word k x v e₂) K)
seek σ (binary If k v e₁ e₂) K c = at σ (if_word k e₁ e₂) K
seek σ (binary Spawn k v e₁ e₂) K c = seek σ e₁ (step_frame k (spawn_part e₂) ∷ K) (λ w. at σ (spawn_word k w e₂) K)
seek σ (binary Write k v e₁ e₂) K c =
    seek σ e₁ (step_frame k (write_first e₂) ∷ K) (λ w. seek σ e₂ (step_frame k (write_second w) ∷ K) (λ u. at σ (write_word k w u) K))

-- A part has become a value: the word around it is next, or, of a `write`, its other part. The end of an
-- open call goes on in the caller's environment.
abbrev pub return : Env → Value → List Frame → Control
return σ v [] = done v
return σ v (step_frame k (let_part x e) ∷ K) = at σ (let_word k x v e) K
return σ v (step_frame k (spawn_part e) ∷ K) = at σ (spawn_word k v e) K
return σ v (step_frame k (write_first e) ∷ K) = seek σ e (step_frame k (write_second v) ∷ K) (λ u. at σ (write_word k v u) K)
return σ v (step_frame k (write_second w) ∷ K) = at σ (write_word k w v) K
return σ v (step_frame k (unary_part o) ∷ K) = at σ (unary_word k o v) K
return σ v (step_frame k (again_part e) ∷ K) = at σ (again_word k v e) K
return σ v (mark_frame σ' ∷ K) = return σ' v K

-- An expression takes the place of a word.
abbrev pub enter : Env → Expr → List Frame → Control
enter σ e K = seek σ e K (λ v. return σ v K)

-- The part of a `while` runs once more.
abbrev pub run_part : Env → Position → Expr → List Frame → Control
run_part σ k e K = seek σ e (step_frame k (again_part e) ∷ K) (λ v. at σ (again_word k v e) K)

-- ---- Open calls

-- How many calls are open in these frames.
unfoldable pub marks : List Frame → ℕ
marks [] = 0
marks (step_frame k f ∷ K) = marks K
marks (mark_frame σ ∷ K) = suc (marks K)

unfoldable pub open_calls : Control → ℕ
open_calls (done v) = 0
open_calls (at σ w K) = marks K
