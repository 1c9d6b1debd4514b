-- The expression of the calculus that a listed expression is, the same words without lines; and the program that a sheet lists.
use Rattle.std.specs.Prelude.{map, ℕ}
use Rattle.spec.specs.declared.LeafWord.{LeafWord}
use Rattle.spec.specs.declared.UnaryWord.{UnaryWord}
use Rattle.spec.specs.declared.BinaryWord.{BinaryWord}
use Rattle.spec.specs.Program as sheet
use Rattle.spec.specs.Expression as listed
use Rattle.spec.specs.Expression.{Expr, leaf, unary, binary}
use Rattle.spec.specs.declared.LeafWord.TheVariants.{Var, Int, Newtid, Newlock, Newsem, Newrwlock}
use Rattle.spec.specs.declared.UnaryWord.TheVariants.{While, Join, Ref, Read, Lock, Unlock, Post, Wait, Rdlock, Rdunlock, Wrlock, Wrunlock, Call}
use Rattle.spec.specs.declared.BinaryWord.TheVariants.{Let, If, Spawn, Write}
use Rattle.calculus.specs.Expression.{Exp, value, int, var, let_in, if, while, spawn, write, unary as one_part, Unary, Nullary, join, ref, read, lock, unlock, post, wait, hold, rdlock, rdunlock, wrlock, wrunlock, call, nullary, newtid, newlock, newsem, newrwlock, Procedure, Program}

-- What a word without parts is, with its number v: a variable, a constant, or a word that reduces.
pub data LeafForm : Type 0 where
  variable constant : ℕ → LeafForm
  reduces : Nullary → LeafForm

abbrev pub leaf_form : LeafWord → (v : ℕ) → LeafForm
leaf_form Var v = variable v
leaf_form Int v = constant v
leaf_form Newtid v = reduces newtid
leaf_form Newlock v = reduces newlock
leaf_form Newsem v = reduces newsem
leaf_form Newrwlock v = reduces (newrwlock v)

-- What a word with one part is: a loop, or a word that wants its part to be a value.
pub data UnaryForm : Type 0 where
  loop : UnaryForm
  strict : Unary → UnaryForm

abbrev pub unary_form : UnaryWord → (v : ℕ) → UnaryForm
unary_form While v = loop
unary_form Join v = strict join
unary_form Ref v = strict ref
unary_form Read v = strict read
unary_form Lock v = strict lock
unary_form Unlock v = strict unlock
unary_form Post v = strict post
unary_form Wait v = strict wait
unary_form Rdlock v = strict (hold rdlock)
unary_form Rdunlock v = strict (hold rdunlock)
unary_form Wrlock v = strict (hold wrlock)
unary_form Wrunlock v = strict (hold wrunlock)
unary_form Call v = strict (call v)

abbrev pub leaf_exp : LeafForm → Exp
leaf_exp (variable x) = var x
leaf_exp (constant n) = value (int n)
leaf_exp (reduces o) = nullary o

abbrev pub unary_exp : UnaryForm → Exp → Exp
unary_exp loop e = while e
unary_exp (strict o) e = one_part o e

abbrev pub binary_exp : BinaryWord → (v : ℕ) → (e₁ e₂ : Exp) → Exp
binary_exp Let x e₁ e₂ = let_in x e₁ e₂
binary_exp If v e₁ e₂ = if e₁ e₂
binary_exp Spawn v e₁ e₂ = spawn e₁ e₂
binary_exp Write v e₁ e₂ = write e₁ e₂

unfoldable pub erase : Expr → Exp
erase (leaf w k v) = leaf_exp (leaf_form w v)
erase (unary w k v e) = unary_exp (unary_form w v) (erase e)
erase (binary w k v e₁ e₂) = binary_exp w v (erase e₁) (erase e₂)

-- A procedure is known by its place, which a call names.
abbrev pub erase_procedure : listed.Procedure → Procedure
erase_procedure p = record { parameter = p.parameter; body = erase p.body }

abbrev pub erase_program : sheet.Program → Program
erase_program P = record { procedures = map erase_procedure P.procedures; root = erase P.root }
