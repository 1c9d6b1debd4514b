-- Expressions: Figure 1 with run-time values, the next word, putting a reduct back in its place, and substitution; then programs.
use Rattle.std.specs.Prelude.{ℕ, List}
use Rattle.std.proofs.Math.Decide.{ℕ_discrete}

-- ---- Values and expressions

-- Document 01: "Values are constants and names". Section 2.1 has a kind of name each for thread identifiers, locks and cells;
-- here all are numbers, and the state says what a name names (State.antt).
pub data Value : Type 0 where
  int : ℕ → Value
  name : ℕ → Value

-- The words that take and give back a hold of a read-write lock.
pub data HoldWord : Type 0 where
  rdlock rdunlock wrlock wrunlock : HoldWord

-- The words with one part, which must be a value before they reduce. `while` has one part too, but reduces with it as it is. The part of a
-- `call` is the argument, and f is the procedure.
pub data Unary : Type 0 where
  join ref read lock unlock post wait : Unary
  hold : HoldWord → Unary
  call : (f : ℕ) → Unary

-- The words with no part, which reduce as they are: each makes a new thing. A read-write lock is made with its number of reading places.
pub data Nullary : Type 0 where
  newtid newlock newsem : Nullary
  newrwlock : ℕ → Nullary

-- Figure 1, extended with values as in Section 2.1. A variable is a number, and a constant n is `value (int n)`.
pub data Exp : Type 0 where
  value : Value → Exp
  var : ℕ → Exp
  let_in : ℕ → Exp → Exp → Exp
  if : Exp → Exp → Exp
  while : Exp → Exp
  spawn : Exp → Exp → Exp
  write : Exp → Exp → Exp
  unary : Unary → Exp → Exp
  nullary : Nullary → Exp

-- ---- The next word

-- A word whose parts that must be values are values: e1 of `let` and `spawn`, e1 and e2 of `write`, none of `if` and
-- `while`, the part of any other word.
pub data Redex : Type 0 where
  let_redex : ℕ → Value → Exp → Redex
  if_redex : Exp → Exp → Redex
  while_redex : Exp → Redex
  spawn_redex : Value → Exp → Redex
  write_redex : Value → Value → Redex
  unary_redex : Unary → Value → Redex
  nullary_redex : Nullary → Redex

-- What an expression does next: nothing, for it is a value; nothing, for it has come to a variable that no value was put
-- for; or a word.
pub data Next : Type 0 where
  is_value : Value → Next
  at_variable : ℕ → Next
  at_word : Redex → Next

-- The next word of a word that wants a part to be a value: once it is one, as told, and else the part's own next word.
abbrev pub once : Next → (Value → Next) → Next
once (is_value v) k = k v
once (at_variable x) k = at_variable x
once (at_word r) k = at_word r

-- Document 01: "its first word if those parts are values, else the next word of the first of them that is not". The
-- evaluation contexts of Figure 3 say the same: parts are evaluated left to right.
abbrev pub next_word : Exp → Next
next_word (value v) = is_value v
next_word (var x) = at_variable x
next_word (let_in x e₁ e₂) = once (next_word e₁) λ v. at_word (let_redex x v e₂)
next_word (if e₁ e₂) = at_word (if_redex e₁ e₂)
next_word (while e) = at_word (while_redex e)
next_word (spawn e₁ e₂) = once (next_word e₁) λ v. at_word (spawn_redex v e₂)
next_word (write e₁ e₂) = once (next_word e₁) λ v. once (next_word e₂) λ w. at_word (write_redex v w)
next_word (unary o e) = once (next_word e) λ v. at_word (unary_redex o v)
next_word (nullary o) = at_word (nullary_redex o)

-- ---- Putting a reduct back

abbrev pub if_value : Next → Exp → Exp → Exp
if_value (is_value v) a b = a
if_value (at_variable x) a b = b
if_value (at_word r) a b = b

-- The expression with r in the place of its next word: E[r] of Figure 3, for the E that `next_word` has found.
abbrev pub plug : Exp → Exp → Exp
plug (value v) r = r
plug (var x) r = r
plug (let_in x e₁ e₂) r = if_value (next_word e₁) r (let_in x (plug e₁ r) e₂)
plug (if e₁ e₂) r = r
plug (while e) r = r
plug (spawn e₁ e₂) r = if_value (next_word e₁) r (spawn (plug e₁ r) e₂)
plug (write e₁ e₂) r = if_value (next_word e₁) (if_value (next_word e₂) r (write e₁ (plug e₂ r))) (write (plug e₁ r) e₂)
plug (unary o e) r = if_value (next_word e) r (unary o (plug e r))
plug (nullary o) r = r

-- ---- Substitution

abbrev pub choose {ℓ κ} : {A : Type ℓ} {P : Type κ} → Dec P → A → A → A
choose (yes p) a b = a
choose (no p) a b = b

-- The expression with v put for the variable x, e[v/x] of Figure 4. A value has no variable, so nothing is captured; a
-- `let` of x itself hides x from its e2.
abbrev pub substitute : ℕ → Value → Exp → Exp
substitute x v (value w) = value w
substitute x v (var y) = choose (ℕ_discrete y x) (value v) (var y)
substitute x v (let_in y e₁ e₂) = let_in y (substitute x v e₁) (choose (ℕ_discrete y x) e₂ (substitute x v e₂))
substitute x v (if e₁ e₂) = if (substitute x v e₁) (substitute x v e₂)
substitute x v (while e) = while (substitute x v e)
substitute x v (spawn e₁ e₂) = spawn (substitute x v e₁) (substitute x v e₂)
substitute x v (write e₁ e₂) = write (substitute x v e₁) (substitute x v e₂)
substitute x v (unary o e) = unary o (substitute x v e)
substitute x v (nullary o) = nullary o

-- ---- Programs

-- A procedure, with the variable that its argument is put for.
pub record Procedure : Type 0 where
  pub parameter : ℕ
  pub body : Exp

-- Procedures, each known by its place in the list, and the root, which the first thread runs.
pub record Program : Type 0 where
  pub procedures : List Procedure
  pub root : Exp
