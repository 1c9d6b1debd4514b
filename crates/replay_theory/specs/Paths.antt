-- Where a word stands in an expression: the parts that lead to it, from the outside in.
use Rattle.std.specs.Prelude.{List, [], ◌∷◌, Option, None, Some}
use Rattle.calculus.specs.Expression.{Exp, value, var, let_in, if, while, spawn, write, unary, nullary, Next, is_value, at_variable, at_word, next_word}
use Rattle.calculus.specs.State.{Part, first, second}
use Rattle.calculus.specs.Reduction.{◌>>=◌, part_listed}

abbrev pub Path : Type 0
Path = List Part

-- the one path once that part is a value, and else the path into the part
unfoldable pub path_once : Next → (here inside : Path) → Path
path_once (is_value v) here inside = here
path_once (at_variable x) here inside = inside
path_once (at_word w) here inside = inside

-- the path of the next word
unfoldable pub next_path : Exp → Path
next_path (value v) = []
next_path (var x) = []
next_path (let_in x e₁ e₂) = path_once (next_word e₁) [] (first ∷ next_path e₁)
next_path (if e₁ e₂) = []
next_path (while e) = []
next_path (spawn e₁ e₂) = path_once (next_word e₁) [] (first ∷ next_path e₁)
next_path (write e₁ e₂) = path_once (next_word e₁) (path_once (next_word e₂) [] (second ∷ next_path e₂)) (first ∷ next_path e₁)
next_path (unary o e) = path_once (next_word e) [] (first ∷ next_path e)
next_path (nullary o) = []

unfoldable pub only_part : Exp → Part → Option Exp
only_part e first = Some e
only_part e second = None

unfoldable pub part_of : Exp → Part → Option Exp
part_of (value v) c = None
part_of (var x) c = None
part_of (let_in x e₁ e₂) c = Some (part_listed c e₁ e₂)
part_of (if e₁ e₂) c = Some (part_listed c e₁ e₂)
part_of (while e) c = only_part e c
part_of (spawn e₁ e₂) c = Some (part_listed c e₁ e₂)
part_of (write e₁ e₂) c = Some (part_listed c e₁ e₂)
part_of (unary o e) c = only_part e c
part_of (nullary o) c = None

-- the expression at a path
unfoldable pub part_at : Path → Exp → Option Exp
part_at [] e = Some e
part_at (c ∷ p) e = part_of e c >>= part_at p
