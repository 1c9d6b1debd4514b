-- What the work space holds of a program and of a split, column by column.
use Rattle.std.specs.Prelude.{List, [], ◌∷◌, ◌++◌, map, ℕ, suc, ◌+◌, ◌*◌, ◌<◌, eqb, length, get_or, replicate, Option, None, Some}
use Rattle.spec.specs.Choice.{when◌then◌else◌}
use Rattle.spec.specs.Expression.{Step, Expr, leaf, unary, binary, size, Procedure}
use Rattle.spec.specs.Words.{role, binding}
use Rattle.spec.specs.Program.{Program}
use Rattle.spec.specs.Split.{Row, Split}
use Rattle.spec.specs.declared.Signature.{Signature}
use Rattle.spec.specs.declared.MapNumber.{MapNumber}
use Rattle.spec.specs.declared.Role.{Role}
use Rattle.spec.specs.declared.Role.TheVariants.{Binds, Uses, Calls, Neither}
use Rattle.spec.specs.declared.Word.TheVariants.{Leaf, Unary, Binary}
use Rattle.workspace.specs.Layout.{words_at, values_at, ends_at, lets_at, lines_at, proc_lines_at, proc_vars_at, proc_firsts_at, proc_mark, row_types_at, posts_at, starts_at, kinds_at, firsts_at, seconds_at, sig_befores_at, sig_arguments_at, sig_afters_at, sig_results_at, maps_at, stride, empty_map, code_of, kind_code, first_of, second_of}
use Rattle.workspace.specs.Region.{Region}

-- ------------------------------------------------------------------ programs

-- Steps are counted from 0 in line order; the count is a step's index.

-- for each step of an expression in line order, the index just past it; k is the index of its first step
unfoldable pub ends : (k : ℕ) → Expr → List ℕ
ends k (leaf w l v) = (k + 1) ∷ []
ends k (unary w l v e) = (k + suc (size e)) ∷ ends (k + 1) e
ends k (binary w l v e₁ e₂) = (k + suc (size e₁ + size e₂)) ∷ (ends (k + 1) e₁ ++ ends (k + 1 + size e₁) e₂)

-- the index of the let of a variable, of those whose e2 this is in
unfoldable pub let_in : List (ℕ × ℕ) → (v : ℕ) → ℕ
let_in [] v = 0
let_in (b ∷ inside) v = when eqb b.0 v then b.1 else let_in inside v

-- the index of the let of a step's variable, if the step uses one, else 0
unfoldable pub let_of : Role → List (ℕ × ℕ) → (v : ℕ) → ℕ
let_of Binds inside v = 0
let_of Uses inside v = let_in inside v
let_of Calls inside f = 0
let_of Neither inside v = 0

-- for each step of an expression in line order
unfoldable pub lets : (k : ℕ) → (inside : List (ℕ × ℕ)) → Expr → List ℕ
lets k inside (leaf w l v) = let_of (role (Leaf w)) inside v ∷ []
lets k inside (unary w l v e) = let_of (role (Unary w)) inside v ∷ lets (k + 1) inside e
lets k inside (binary w l v e₁ e₂) =
    let_of (role (Binary w)) inside v
    ∷ (lets (k + 1) inside e₁ ++ lets (k + 1 + size e₁) (binding (role (Binary w)) (v, k) inside) e₂)

-- the same of bodies, one after the other, and of the root behind them
unfoldable pub all_ends : (k : ℕ) → List Procedure → (root : Expr) → List ℕ
all_ends k [] root = ends k root
all_ends k (p ∷ ps) root = ends k p.body ++ all_ends (k + size p.body) ps root

-- in the body of procedure f, its variable has the mark of f in the place of an index
unfoldable pub all_lets : (f k : ℕ) → List Procedure → (root : Expr) → List ℕ
all_lets f k [] root = lets k [] root
all_lets f k (p ∷ ps) root = lets k ((p.parameter, proc_mark + f) ∷ []) p.body ++ all_lets (f + 1) (k + size p.body) ps root

-- where each body begins, and the root
unfoldable pub first_steps : (k : ℕ) → List Procedure → List ℕ
first_steps k [] = k ∷ []
first_steps k (p ∷ ps) = k ∷ first_steps (k + size p.body) ps

-- the step lines of a program sheet: words, numbers v, and which lines they are
pub record HoldsSteps (w : List ℕ) (steps : List Step) : Type 0 where
  pub words : Region w words_at (map (λ (s : Step). code_of s.word) steps)
  pub values : Region w values_at (map (λ (s : Step). s.value) steps)
  pub lines : Region w lines_at (map (λ (s : Step). s.line) steps)

-- a program: its steps, where they end, which let or procedure a variable means; its `proc` lines, their variables, where the
-- bodies and the root begin
pub record HoldsProgram (w : List ℕ) (P : Program) : Type 0 where
  pub steps : HoldsSteps w P.steps
  pub ends : Region w ends_at (all_ends 0 P.procedures P.root)
  pub lets : Region w lets_at (all_lets 0 0 P.procedures P.root)
  pub proc_lines : Region w proc_lines_at (map (λ (p : Procedure). p.line) P.procedures)
  pub proc_vars : Region w proc_vars_at (map (λ (p : Procedure). p.parameter) P.procedures)
  pub proc_firsts : Region w proc_firsts_at (first_steps 0 P.procedures)

-- ------------------------------------------------------------------ splits

-- the number that stands for the start of a row: its map's, or the empty map's where none is given
unfoldable pub start_number : Option MapNumber → ℕ
start_number None = empty_map
start_number (Some m) = m.0

-- types, maps and signatures by number, the empty map, rows in step order
pub record HoldsSplit (w : List ℕ) (S : Split) : Type 0 where
  pub kinds : Region w kinds_at (map kind_code S.types)
  pub firsts : Region w firsts_at (map first_of S.types)
  pub seconds : Region w seconds_at (map second_of S.types)
  pub maps : (m : ℕ) → m < length S.maps → Region w (maps_at + stride * m) (get_or S.maps m [])
  pub empty : Region w (maps_at + stride * empty_map) (replicate stride 0)
  pub befores : Region w sig_befores_at (map (λ (g : Signature). g.before.0) S.signatures)
  pub arguments : Region w sig_arguments_at (map (λ (g : Signature). g.argument.0) S.signatures)
  pub afters : Region w sig_afters_at (map (λ (g : Signature). g.after.0) S.signatures)
  pub results : Region w sig_results_at (map (λ (g : Signature). g.result.0) S.signatures)
  pub row_types : Region w row_types_at (map (λ (r : Row). r.type.0) S.rows)
  pub posts : Region w posts_at (map (λ (r : Row). r.post.0) S.rows)
  pub starts : Region w starts_at (map (λ (r : Row). start_number r.start) S.rows)
