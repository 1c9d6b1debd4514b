-- The column of continuations, step by step.
use Rattle.std.specs.Prelude.{ℕ, zero, suc, ◌+◌, List, [], ◌∷◌, ◌++◌, set}
use Rattle.spec.specs.Expression.{Expr, leaf, unary, binary, size}
use Rattle.spec.specs.declared.BinaryWord.TheVariants as word
use Rattle.replay_control.specs.Layout.{continuations_at, second_part, finish, leave, procedures_at}
use Rattle.replay_control.specs.Shapes.{shape_at}
use Rattle.replay_control.specs.Control.{continuation, second, first_of, root_of}
use Rattle.workspace.specs.declared.Shape.{Shape}
use Rattle.workspace.specs.declared.Shape.TheVariants.{Variable, Constant, NoPart, While, OnePart, Call, Let, If, Spawn, Write}

-- for each step of an expression in line order, what follows once it is a value; k is the index of its first step, c what follows the
-- whole: a `let` and an `if` are done with once their e2, or the part listed, is entered
unfoldable pub continuations : (c k : ℕ) → Expr → List ℕ
continuations c k (leaf w p v) = c ∷ []
continuations c k (unary w p v e) = c ∷ continuations k (k + 1) e
continuations c k (binary word.Let p v e₁ e₂) = c ∷ (continuations k (k + 1) e₁ ++ continuations c (k + 1 + size e₁) e₂)
continuations c k (binary word.If p v e₁ e₂) = c ∷ (continuations c (k + 1) e₁ ++ continuations c (k + 1 + size e₁) e₂)
continuations c k (binary word.Spawn p v e₁ e₂) = c ∷ (continuations k (k + 1) e₁ ++ continuations finish (k + 1 + size e₁) e₂)
continuations c k (binary word.Write p v e₁ e₂) = c ∷ (continuations k (k + 1) e₁ ++ continuations (second_part + k) (k + 1 + size e₁) e₂)

-- ------------------------------------------------------------------ in line order

unfoldable pub joined : (p : List ℕ) (k c : ℕ) → List ℕ
joined p k c = set p (continuations_at + k) c

unfoldable pub linked_parts : Shape → (p : List ℕ) (k c second : ℕ) → List ℕ
linked_parts Variable p k c b = p
linked_parts Constant p k c b = p
linked_parts NoPart p k c b = p
linked_parts While p k c b = joined p (k + 1) k
linked_parts OnePart p k c b = joined p (k + 1) k
linked_parts Call p k c b = joined p (k + 1) k
linked_parts Let p k c b = joined (joined p (k + 1) k) b c
linked_parts If p k c b = joined (joined p (k + 1) c) b c
linked_parts Spawn p k c b = joined (joined p (k + 1) k) b finish
linked_parts Write p k c b = joined (joined p (k + 1) k) b (second_part + k)

unfoldable pub linked_step : (p : List ℕ) (k : ℕ) → List ℕ
linked_step p k = linked_parts (shape_at p k) p k (continuation p k) (second p k)

-- n steps from k on
unfoldable pub linked_from : (p : List ℕ) (k n : ℕ) → List ℕ
linked_from p k zero = p
linked_from p k (suc n) = linked_from (linked_step p k) (k + 1) n

-- the bodies of n procedures from f on
unfoldable pub bodies_joined : (p : List ℕ) (f n : ℕ) → List ℕ
bodies_joined p f zero = p
bodies_joined p f (suc n) = bodies_joined (joined p (first_of p f) leave) (f + 1) n

unfoldable pub root_joined : (p : List ℕ) → List ℕ
root_joined p = joined p (root_of p) finish

unfoldable pub linked : (p : List ℕ) (n procedures : ℕ) → List ℕ
linked p n m = linked_from (root_joined (bodies_joined (set p procedures_at m) 0 m)) 0 n
