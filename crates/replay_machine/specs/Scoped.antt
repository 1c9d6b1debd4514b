-- One environment is enough: what is still to run in the frames uses no variable that what runs before it may bind.
use Rattle.std.specs.Prelude.{ℕ, ◌≡◌, ◌⊎◌, true, false, List, [], ◌∷◌}
use Rattle.spec.specs.Expression.{Expr, among}
use Rattle.spec.specs.WellFormed.{binders, Distinct, UsedInside}
use Rattle.replay_machine.specs.Control.{let_part, spawn_part, write_first, write_second, unary_part, again_part, Frame, step_frame, mark_frame, Word, let_word, if_word, while_word, spawn_word, write_word, unary_word, nullary_word, unrolled_word, again_word, Control, done, at}

-- An expression in the scope of the variables I: it uses only those and its own, and binds each once and none of those. `count` is of
-- the sheet's procedures.
pub record Fits (I : List ℕ) (e : Expr) : Type 0 where
  pub count : ℕ
  pub used : UsedInside count I e
  pub new : (y : ℕ) → among y (binders e) ≡ true → among y I ≡ false
  pub once : Distinct (binders e)

abbrev pub Vars : Type 1
Vars = ℕ → Type 0

abbrev pub Bound : Expr → Vars
Bound e y = among y (binders e) ≡ true

-- None of these variables is in scope.
abbrev pub Outside : Vars → List ℕ → Type 0
Outside B I = (y : ℕ) → B y → among y I ≡ false

pub record Rest (B : Vars) (e : Expr) : Type 0 where
  pub scope : List ℕ
  pub fits : Fits scope e
  pub outside : Outside B scope

-- The e2 of a `let`, whose own variable is in scope too.
pub record LetRest (B : Vars) (x : ℕ) (e : Expr) : Type 0 where
  pub scope : List ℕ
  pub fits : Fits (x ∷ scope) e
  pub apart : among x scope ≡ false
  pub outside : Outside B scope

-- What a frame still has to run uses none of the variables B, which what stands inside it may bind.
abbrev pub FrameOk : Vars → Frame → Type 0
FrameOk B (step_frame k (let_part x e)) = LetRest B x e
FrameOk B (step_frame k (spawn_part e)) = Rest B e
FrameOk B (step_frame k (write_first e)) = Rest B e
FrameOk B (step_frame k (write_second v)) = Unit {0}
FrameOk B (step_frame k (unary_part o)) = Unit {0}
FrameOk B (step_frame k (again_part e)) = Rest B e
FrameOk B (mark_frame σ) = Unit {0}

-- The variables that a frame may bind when it is its turn. A spawned body binds in another thread.
abbrev pub FrameBinds : Frame → Vars
FrameBinds (step_frame k (let_part x e)) y = (y ≡ x) ⊎ Bound e y
FrameBinds (step_frame k (spawn_part e)) y = ⊥
FrameBinds (step_frame k (write_first e)) y = Bound e y
FrameBinds (step_frame k (write_second v)) y = ⊥
FrameBinds (step_frame k (unary_part o)) y = ⊥
FrameBinds (step_frame k (again_part e)) y = Bound e y
FrameBinds (mark_frame σ) y = ⊥

abbrev pub No : Vars
No y = ⊥

-- What may be bound before it is the turn of the frames behind a frame, in their environment.
abbrev pub BoundBehind : Vars → Frame → Vars
BoundBehind B (step_frame k f) y = B y ⊎ FrameBinds (step_frame k f) y
BoundBehind B (mark_frame σ) y = ⊥

abbrev pub Nested : Vars → List Frame → Type 0
Nested B [] = Unit {0}
Nested B (f ∷ K) = FrameOk B f × Nested (BoundBehind B f) K

abbrev pub WordOk : Word → Type 0
WordOk (let_word k x v e) = LetRest No x e
WordOk (if_word k e₁ e₂) = (I : List ℕ) × Fits I e₁ × Fits I e₂
WordOk (while_word k e) = Rest No e
WordOk (spawn_word k v e) = Rest No e
WordOk (write_word k v w) = Unit {0}
WordOk (unary_word k o v) = Unit {0}
WordOk (nullary_word k o) = Unit {0}
WordOk (unrolled_word k e) = Rest No e
WordOk (again_word k v e) = Rest No e

abbrev pub WordBinds : Word → Vars
WordBinds (let_word k x v e) y = (y ≡ x) ⊎ Bound e y
WordBinds (if_word k e₁ e₂) y = Bound e₁ y ⊎ Bound e₂ y
WordBinds (while_word k e) y = Bound e y
WordBinds (spawn_word k v e) y = ⊥
WordBinds (write_word k v w) y = ⊥
WordBinds (unary_word k o v) y = ⊥
WordBinds (nullary_word k o) y = ⊥
WordBinds (unrolled_word k e) y = Bound e y
WordBinds (again_word k v e) y = Bound e y

abbrev pub ControlOk : Control → Type 0
ControlOk (done v) = Unit {0}
ControlOk (at σ w K) = WordOk w × Nested (WordBinds w) K
