-- The expressions that steps list in prefix order, procedures and the root, and where their variables are bound.
use Rattle.std.specs.Prelude.{List, [], ◌∷◌, Bool, false, ◌||◌, ℕ, zero, suc, ◌+◌, eqb, ltb, drop, Result, Ok, Err}
use Rattle.spec.specs.declared.Refusal.{Refusal}
use Rattle.spec.specs.Choice.{when◌then◌else◌}
use Rattle.spec.specs.Reading.{◌>>=◌}
use Rattle.spec.specs.Words.{role, binding}
use Rattle.spec.specs.declared.Role.{Role}
use Rattle.spec.specs.declared.Role.TheVariants.{Binds, Uses, Calls, Neither}
use Rattle.spec.specs.declared.Refusal.TheVariants.{ProgramLines, Unbound, Rebound, NoProcedure}
use Rattle.spec.specs.declared.Word.{Word}
use Rattle.spec.specs.declared.Word.TheVariants.{Leaf, Unary, Binary}
use Rattle.spec.specs.declared.LeafWord.{LeafWord}
use Rattle.spec.specs.declared.UnaryWord.{UnaryWord}
use Rattle.spec.specs.declared.BinaryWord.{BinaryWord}

-- a step: its word, its number v, and its line in the sheet
pub record Step : Type 0 where
  pub word : Word
  pub value : ℕ
  pub line : ℕ

-- where a step stands: its index, counted from 0 over the steps, by which its row is found; its line, at which it is refused
pub record Position : Type 0 where
  pub index : ℕ
  pub line : ℕ

-- "a step, then its parts, left to right": each step knows where it stands, and its number v
pub data Expr : Type 0 where
  leaf : LeafWord → (at : Position) (v : ℕ) → Expr
  unary : UnaryWord → (at : Position) (v : ℕ) → Expr → Expr
  binary : BinaryWord → (at : Position) (v : ℕ) → Expr → Expr → Expr

-- the index and the line of an expression's first step
unfoldable pub index_of : Expr → ℕ
index_of (leaf w k v) = k.index
index_of (unary w k v e) = k.index
index_of (binary w k v e₁ e₂) = k.index

unfoldable pub line_of : Expr → ℕ
line_of (leaf w k v) = k.line
line_of (unary w k v e) = k.line
line_of (binary w k v e₁ e₂) = k.line

-- ------------------------------------------------------------------ prefix order

-- how many steps an expression has
unfoldable pub size : Expr → ℕ
size (leaf w k v) = 1
size (unary w k v e) = suc (size e)
size (binary w k v e₁ e₂) = suc (size e₁ + size e₂)

-- a step that stands at k, with as many of the expressions behind it as it has parts; nothing is finished if they are too few
unfoldable pub with_parts : Word → (k : Position) (v : ℕ) → List Expr → List Expr
with_parts (Leaf w) k v es = leaf w k v ∷ es
with_parts (Unary w) k v [] = []
with_parts (Unary w) k v (e ∷ es) = unary w k v e ∷ es
with_parts (Binary w) k v [] = []
with_parts (Binary w) k v (e₁ ∷ []) = []
with_parts (Binary w) k v (e₁ ∷ e₂ ∷ es) = binary w k v e₁ e₂ ∷ es

-- the expressions that steps list one after the other, from index i on, as far as they are finished
unfoldable pub listed : (i : ℕ) → List Step → List Expr
listed i [] = []
listed i (s ∷ ss) = with_parts s.word (record { index = i; line = s.line }) s.value (listed (i + 1) ss)

-- ------------------------------------------------------------------ procedures

-- a line behind the header: a step, or a `proc` line with the variable that it binds
pub data Item : Type 0 where
  step : Step → Item
  proc : (x line : ℕ) → Item

unfoldable pub line_of_item : Item → ℕ
line_of_item (step s) = s.line
line_of_item (proc x line) = line

-- the steps among lines, in line order
unfoldable pub steps_among : List Item → List Step
steps_among [] = []
steps_among (step s ∷ is) = s ∷ steps_among is
steps_among (proc x line ∷ is) = steps_among is

-- the steps in front of the next `proc` line, or of the end
unfoldable pub leading : List Item → List Step
leading [] = []
leading (step s ∷ is) = s ∷ leading is
leading (proc x line ∷ is) = []

-- where an unfinished expression breaks off: at the next `proc` line, else at the last line
unfoldable pub breaks_off : (last : ℕ) → List Item → ℕ
breaks_off last [] = last
breaks_off last (step s ∷ is) = breaks_off last is
breaks_off last (proc x line ∷ is) = line

-- the first of the expressions listed, and the lines behind it; "an expression unfinished or not begun at the last line is 13 there",
-- and a `proc` line where a step is due is 13 at that line
unfoldable pub first_listed : (last : ℕ) → List Item → List Expr → Result (Expr × List Item) Refusal
first_listed last items [] = Err (ProgramLines (breaks_off last items))
first_listed last items (e ∷ es) = Ok (e, drop (size e) items)

-- the expression that is due
unfoldable pub expression : (last i : ℕ) → List Item → Result (Expr × List Item) Refusal
expression last i items = first_listed last items (listed i (leading items))

-- 13 for an expression "finished earlier (the first line past it)"
unfoldable pub no_line_left : List Item → Result (Unit {0}) Refusal
no_line_left [] = Ok tt
no_line_left (x ∷ items) = Err (ProgramLines (line_of_item x))

-- a procedure: its line, the variable that stands for the argument, its body
pub record Procedure : Type 0 where
  pub line : ℕ
  pub parameter : ℕ
  pub body : Expr

-- "k lines `proc,x`, each followed by its body, then the root expression"; "A step where a `proc` line is due, or the reverse, is 13 at
-- that line". Steps are counted from index i on, over all bodies and the root.
unfoldable pub structure : (last k i : ℕ) → List Item → Result (List Procedure × Expr) Refusal
structure last zero i items = do
  (root, rest) ← expression last i items
  done ← no_line_left rest
  Ok ([], root)
structure last (suc k) i [] = Err (ProgramLines last)
structure last (suc k) i (step s ∷ items) = Err (ProgramLines s.line)
structure last (suc k) i (proc x line ∷ items) = do
  (body, rest) ← expression last i items
  (others, root) ← structure last k (i + size body) rest
  Ok (record { line = line; parameter = x; body = body } ∷ others, root)

-- ------------------------------------------------------------------ scopes

unfoldable pub among : ℕ → List ℕ → Bool
among v [] = false
among v (x ∷ xs) = eqb v x || among v xs

-- of a sheet with `count` procedures
module _ (count : ℕ) where
  -- 14 and 15 of a step, by its role; "49 for a call to a procedure that isn't there, in the place of 14". What comes out is the
  -- variables bound by then
  unfoldable pub scope_step : Role → (line v : ℕ) → (inside bound : List ℕ) → Result (List ℕ) Refusal
  scope_step Binds k v inside bound = when among v bound then Err (Rebound k) else Ok (v ∷ bound)
  scope_step Uses k v inside bound = when among v inside then Ok bound else Err (Unbound k)
  scope_step Calls k f inside bound = when ltb f count then Ok bound else Err (NoProcedure k)
  scope_step Neither k v inside bound = Ok bound

  -- 14, 15 and 49 in line order. `inside`: the variables whose let's e2, or whose procedure's body, this is in. `bound`: those that a
  -- let or a `proc` line binds in front of it; what comes out is those that are bound by the end of this expression.
  unfoldable pub scope : Expr → (inside bound : List ℕ) → Result (List ℕ) Refusal
  scope (leaf w k v) inside bound = scope_step (role (Leaf w)) k.line v inside bound
  scope (unary w k v e) inside bound = do
    b ← scope_step (role (Unary w)) k.line v inside bound
    scope e inside b
  scope (binary w k v e₁ e₂) inside bound = do
    b ← scope_step (role (Binary w)) k.line v inside bound
    b₁ ← scope e₁ inside b
    scope e₂ (binding (role (Binary w)) v inside) b₁

  -- "`proc` lines, which may bind no variable bound elsewhere (15 at the later line)"; "A body uses only x and its own lets"
  unfoldable pub scopes : List Procedure → (root : Expr) → (bound : List ℕ) → Result (List ℕ) Refusal
  scopes [] root bound = scope root [] bound
  scopes (p ∷ ps) root bound = do
    b ← scope_step Binds p.line p.parameter [] bound
    b₁ ← scope p.body (p.parameter ∷ []) b
    scopes ps root b₁
