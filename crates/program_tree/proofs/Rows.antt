-- The `proc` lines among the lines that procedures and root list: their lines, their variables, and where the bodies and the root begin.
use mathlib.Core.Path.{◌≡◌, refl, sym, ap, ◌∙◌}
use mathlib.Core.List.{List, [], ◌∷◌, ◌++◌, append-nil, map}
use Prim.Native.Nat.{ℕ, suc, ◌+◌}
use native.Mathlib.Omega.{arith}
use native.Mathlib.Nat.{add-zero}
use lib.ListN.{length}
use Rattle.spec.specs.Expression.{Step, Expr, size, Item, step, Procedure}
use Rattle.spec.specs.WellFormed.{prefix, items_of, listing}
use Rattle.spec.proofs.Listing.{prefix_length}
use Rattle.workspace.specs.Holds.{first_steps}
use Rattle.program_tree.specs.Items.{ProcRow, proc_rows}
use Rattle.program_tree.specs.Trees.{root_first}

rows_behind : (i : ℕ) (ss : List Step) (rest : List Item) → proc_rows i (map step ss ++ rest) ≡ proc_rows (i + length ss) rest
unfolding proc_rows
rows_behind i [] rest = rw add-zero refl
rows_behind i (s ∷ ss) rest = let e : i + length (s ∷ ss) ≡ i + 1 + length ss = omega arith in rw e (rows_behind (i + 1) ss rest)

pub rows_body : (i : ℕ) (e : Expr) (rest : List Item) → proc_rows i (items_of e ++ rest) ≡ proc_rows (i + size e) rest
unfolding items_of
rows_body i e rest = rows_behind i (prefix e) rest ∙ ap (λ n. proc_rows (i + n) rest) (prefix_length e)

rows_root : (i : ℕ) (e : Expr) → proc_rows i (items_of e) ≡ []
unfolding items_of proc_rows
rows_root i e = ap (proc_rows i) (sym (append-nil (map step (prefix e)))) ∙ rows_behind i (prefix e) []

pub rows_lines : (i : ℕ) (ps : List Procedure) (root : Expr)
    → map (λ (r : ProcRow). r.line) (proc_rows i (listing ps root)) ≡ map (λ (p : Procedure). p.line) ps
unfolding listing proc_rows
rows_lines i [] root = rw (rows_root i root) refl
rows_lines i (p ∷ ps) root = rw (rows_body i p.body (listing ps root)) (ap (λ l. p.line ∷ l) (rows_lines (i + size p.body) ps root))

pub rows_variables : (i : ℕ) (ps : List Procedure) (root : Expr)
    → map (λ (r : ProcRow). r.variable) (proc_rows i (listing ps root)) ≡ map (λ (p : Procedure). p.parameter) ps
unfolding listing proc_rows
rows_variables i [] root = rw (rows_root i root) refl
rows_variables i (p ∷ ps) root = rw (rows_body i p.body (listing ps root)) (ap (λ l. p.parameter ∷ l) (rows_variables (i + size p.body) ps root))

-- with the root's index behind them
pub rows_firsts : (i : ℕ) (ps : List Procedure) (root : Expr)
    → map (λ (r : ProcRow). r.first) (proc_rows i (listing ps root)) ++ (root_first i ps ∷ []) ≡ first_steps i ps
unfolding listing proc_rows root_first first_steps
rows_firsts i [] root = rw (rows_root i root) refl
rows_firsts i (p ∷ ps) root = rw (rows_body i p.body (listing ps root)) (ap (λ l. i ∷ l) (rows_firsts (i + size p.body) ps root))

pub rows_counted_lem : (i : ℕ) (ps : List Procedure) (root : Expr) → length (proc_rows i (listing ps root)) ≡ length ps
unfolding listing proc_rows
rows_counted_lem i [] root = rw (rows_root i root) refl
rows_counted_lem i (p ∷ ps) root = rw (rows_body i p.body (listing ps root)) (ap suc (rows_counted_lem (i + size p.body) ps root))
