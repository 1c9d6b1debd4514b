-- Environments, in the place of substitution: the value of each variable, and the expression with those values put in it.
use Rattle.std.specs.Prelude.{ℕ, Option, None, Some}
use Rattle.spec.specs.Expression.{Expr}
use Rattle.calculus.specs.Expression.{Value, int, Exp, value, var, let_in, if, while, spawn, write, unary, nullary}
use Rattle.calculus.specs.State.{update}
use Rattle.soundness.specs.Erasure.{erase}

-- The value of each variable; of one that is not bound, any.
abbrev pub Env : Type 0
Env = ℕ → Value

-- Where no variable is bound.
abbrev pub zeros : Env
zeros x = int 0

-- The values of some variables.
abbrev pub PartialEnv : Type 0
PartialEnv = ℕ → Option Value

abbrev pub all : Env → PartialEnv
all σ x = Some (σ x)

abbrev pub hide : PartialEnv → ℕ → PartialEnv
hide ρ x = update ρ x None

abbrev pub value_or : Option Value → ℕ → Exp
value_or (Some v) x = value v
value_or None x = var x

-- The expression with those values put for its variables. A `let` hides its own variable.
abbrev pub close : PartialEnv → Exp → Exp
close ρ (value v) = value v
close ρ (var x) = value_or (ρ x) x
close ρ (let_in x e₁ e₂) = let_in x (close ρ e₁) (close (hide ρ x) e₂)
close ρ (if e₁ e₂) = if (close ρ e₁) (close ρ e₂)
close ρ (while e) = while (close ρ e)
close ρ (spawn e₁ e₂) = spawn (close ρ e₁) (close ρ e₂)
close ρ (write e₁ e₂) = write (close ρ e₁) (close ρ e₂)
close ρ (unary o e) = unary o (close ρ e)
close ρ (nullary o) = nullary o

-- A listed expression in an environment, as an expression of the calculus.
abbrev pub closed : Env → Expr → Exp
closed σ e = close (all σ) (erase e)

-- The e2 of a `let` of x, before the `let` has its value.
abbrev pub closed_under : Env → ℕ → Expr → Exp
closed_under σ x e = close (hide (all σ) x) (erase e)
