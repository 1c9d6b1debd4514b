-- Where the bodies of a program and its root stand in the work space, one after the other.
use mathlib.Core.Path.{◌≡◌, refl, ◌∙◌}
use mathlib.Core.Logic.{inl}
use mathlib.Core.List.{List, [], ◌∷◌, ◌++◌, map, map-append}
use Prim.Native.Nat.{ℕ, ◌+◌, ◌≤◌}
use native.Mathlib.Omega.{arith}
use lib.ListN.{length, get_or, length-map}
use Rattle.spec.specs.Expression.{Step, Expr, size, steps_among, Procedure}
use Rattle.spec.specs.WellFormed.{prefix, listing, NumberedFrom, AllUsedInside}
use Rattle.spec.proofs.Listing.{prefix_length}
use Rattle.workspace.specs.Layout.{words_at, values_at, ends_at, lets_at, lines_at, proc_lines_at, proc_vars_at, proc_firsts_at, proc_mark, pres_at, code_of}
use Rattle.workspace.specs.Region.{Region, ChangedWithin}
use Rattle.workspace.specs.Holds.{ends, lets, all_ends, all_lets, first_steps}
use Rattle.workspace.proofs.Region.{region_moved, region_first, region_behind, region_left, region_right}
use Rattle.workspace.proofs.Held.{ends_length, lets_length, body_steps, root_steps, body_sized, root_sized}
use Rattle.workspace.proofs.Expression.{codes, values, lines_of, Here, here_kept}

-- ------------------------------------------------------------------ where they stand

-- procedure f stands there: its line, its variable, and its body from index k on
pub record BodyHere (w : List ℕ) (count f k : ℕ) (p : Procedure) : Type 0 where
  pub line : get_or w (proc_lines_at + f) 0 ≡ p.line
  pub variable : get_or w (proc_vars_at + f) 0 ≡ p.parameter
  pub first : get_or w (proc_firsts_at + f) 0 ≡ k
  pub body : Here w count k ((p.parameter, proc_mark + f) ∷ []) (p.parameter ∷ []) p.body

-- and the root, behind f procedures
pub record RootHere (w : List ℕ) (count f k : ℕ) (root : Expr) : Type 0 where
  pub first : get_or w (proc_firsts_at + f) 0 ≡ k
  pub body : Here w count k [] [] root

-- the procedures from number f on, from index k on, and the root behind them
unfoldable pub AllHere : (w : List ℕ) (count f k : ℕ) → List Procedure → (root : Expr) → Type 0
AllHere w count f k [] root = RootHere w count f k root
AllHere w count f k (p ∷ ps) root = BodyHere w count f k p × AllHere w count (f + 1) (k + size p.body) ps root

-- ------------------------------------------------------------------ from the columns

-- what the columns hold of them
pub record Columned (w : List ℕ) (f k : ℕ) (ps : List Procedure) (root : Expr) : Type 0 where
  pub words : Region w (words_at + k) (map (λ (s : Step). code_of s.word) (steps_among (listing ps root)))
  pub values : Region w (values_at + k) (map (λ (s : Step). s.value) (steps_among (listing ps root)))
  pub lines : Region w (lines_at + k) (map (λ (s : Step). s.line) (steps_among (listing ps root)))
  pub ended : Region w (ends_at + k) (all_ends k ps root)
  pub bound : Region w (lets_at + k) (all_lets f k ps root)
  pub proc_lines : Region w (proc_lines_at + f) (map (λ (p : Procedure). p.line) ps)
  pub proc_vars : Region w (proc_vars_at + f) (map (λ (p : Procedure). p.parameter) ps)
  pub proc_firsts : Region w (proc_firsts_at + f) (first_steps k ps)

-- a column of steps: a body's, then those behind it
column_parts : {w : List ℕ} {b : ℕ} (g : Step → ℕ) (p : Procedure) (ps : List Procedure) (root : Expr)
    → Region w b (map g (steps_among (listing (p ∷ ps) root)))
    → Region w b (map g (prefix p.body) ++ map g (steps_among (listing ps root)))
column_parts g p ps root r = rw (body_steps p ps root, map-append) at r

-- the part of a column that is a body's, and the part behind it
column_body : {w : List ℕ} {b : ℕ} (g : Step → ℕ) (p : Procedure) (ps : List Procedure) (root : Expr)
    → Region w b (map g (steps_among (listing (p ∷ ps) root))) → Region w b (map g (prefix p.body))
column_body g p ps root r = region_left _ _ (column_parts g p ps root r)

column_behind : {w : List ℕ} (b k : ℕ) (g : Step → ℕ) (p : Procedure) (ps : List Procedure) (root : Expr)
    → Region w (b + k) (map g (steps_among (listing (p ∷ ps) root))) → Region w (b + (k + size p.body)) (map g (steps_among (listing ps root)))
column_behind b k g p ps root r =
    region_moved _ _
    (omega (arith, length-map (prefix p.body) g, prefix_length p.body))
    (region_right (map g (prefix p.body)) _ (column_parts g p ps root r))

module _ {w : List ℕ} {f k : ℕ} (p : Procedure) (ps : List Procedure) (root : Expr) (C : Columned w f k (p ∷ ps) root) where
  ends_parts : Region w (ends_at + k) (ends k p.body ++ all_ends (k + size p.body) ps root)
  unfolding all_ends
  ends_parts = C.ended

  lets_parts : Region w (lets_at + k) (lets k ((p.parameter, proc_mark + f) ∷ []) p.body ++ all_lets (f + 1) (k + size p.body) ps root)
  unfolding all_lets
  lets_parts = C.bound

  firsts_parts : Region w (proc_firsts_at + f) (k ∷ first_steps (k + size p.body) ps)
  unfolding first_steps
  firsts_parts = C.proc_firsts

  columned_behind : Columned w (f + 1) (k + size p.body) ps root
  columned_behind = record {
    words = column_behind words_at k (λ (s : Step). code_of s.word) p ps root C.words;
    values = column_behind values_at k (λ (s : Step). s.value) p ps root C.values;
    lines = column_behind lines_at k (λ (s : Step). s.line) p ps root C.lines;
    ended = region_moved _ _ (omega (arith, ends_length k p.body)) (region_right (ends k p.body) _ ends_parts);
    bound = region_moved _ _ (omega (arith, lets_length k ((p.parameter, proc_mark + f) ∷ []) p.body))
        (region_right (lets k ((p.parameter, proc_mark + f) ∷ []) p.body) _ lets_parts);
    proc_lines = region_moved _ _ (omega arith) (region_behind C.proc_lines);
    proc_vars = region_moved _ _ (omega arith) (region_behind C.proc_vars);
    proc_firsts = region_moved _ _ (omega arith) (region_behind firsts_parts);
  }

-- bodies and root stand where the columns hold them
pub all_here : {w : List ℕ} (count f k : ℕ) (ps : List Procedure) (root : Expr) → Columned w f k ps root → NumberedFrom k ps root
    → AllUsedInside count ps root → AllHere w count f k ps root
unfolding AllHere NumberedFrom AllUsedInside codes values lines_of all_ends all_lets first_steps
all_here count f k [] root C n u = record {
  first = region_first C.proc_firsts;
  body = record {
    standing = record {
      words = rw (root_steps root) at C.words;
      numbers = rw (root_steps root) at C.values;
      lined = rw (root_steps root) at C.lines;
      ended = C.ended;
      indexed = n;
    };
    bound = C.bound;
    used = u;
  };
}
all_here count f k (p ∷ ps) root C n u = (
  record {
    line = region_first C.proc_lines;
    variable = region_first C.proc_vars;
    first = region_first (firsts_parts p ps root C);
    body = record {
      standing = record {
        words = column_body (λ (s : Step). code_of s.word) p ps root C.words;
        numbers = column_body (λ (s : Step). s.value) p ps root C.values;
        lined = column_body (λ (s : Step). s.line) p ps root C.lines;
        ended = region_left _ _ (ends_parts p ps root C);
        indexed = n.0;
      };
      bound = region_left _ _ (lets_parts p ps root C);
      used = u.0;
    };
  },
  all_here count (f + 1) (k + size p.body) ps root (columned_behind p ps root C) n.1 u.1,
)

-- ------------------------------------------------------------------ the root

-- the root, by the index stored for it
pub root_of_lem : (w : List ℕ) (count f k : ℕ) (ps : List Procedure) (root : Expr) → AllHere w count f k ps root
    → Here w count (get_or w (proc_firsts_at + (f + length ps)) 0) [] [] root
unfolding AllHere
root_of_lem w count f k [] root H =
    let e : proc_firsts_at + (f + 0) ≡ proc_firsts_at + f = omega arith in
    rw (e, H.first) H.body
root_of_lem w count f k (p ∷ ps) root H =
    let e : f + length (p ∷ ps) ≡ f + 1 + length ps = omega arith in
    rw e (root_of_lem w count (f + 1) (k + size p.body) ps root H.1)

-- it ends where all the steps end
pub root_ends : (w : List ℕ) (count f k : ℕ) (ps : List Procedure) (root : Expr) → AllHere w count f k ps root
    → get_or w (proc_firsts_at + (f + length ps)) 0 + size root ≡ k + length (steps_among (listing ps root))
unfolding AllHere
root_ends w count f k [] root H =
    let e : proc_firsts_at + (f + 0) ≡ proc_firsts_at + f = omega arith in
    rw (e, H.first, root_sized root) refl
root_ends w count f k (p ∷ ps) root H =
    let e : f + length (p ∷ ps) ≡ f + 1 + length ps = omega arith in
    rw e (omega (arith, root_ends w count (f + 1) (k + size p.body) ps root H.1, body_sized p ps root))

-- ------------------------------------------------------------------ they stay

-- where only maps before steps are changed
pub all_here_kept : {w w' : List ℕ} (count f k : ℕ) (ps : List Procedure) (root : Expr) → ChangedWithin pres_at (pres_at + 256) w w'
    → k + length (steps_among (listing ps root)) ≤ 256 → f + length ps ≤ 16 → AllHere w count f k ps root → AllHere w' count f k ps root
unfolding AllHere
all_here_kept count f k [] root c few procs H = record {
  first = c.kept (proc_firsts_at + f) (inl (omega (arith, procs))) ∙ H.first;
  body = here_kept c (omega (arith, few, root_sized root)) H.body;
}
all_here_kept count f k (p ∷ ps) root c few procs H = (
  record {
    line = c.kept (proc_lines_at + f) (inl (omega (arith, procs))) ∙ H.0.line;
    variable = c.kept (proc_vars_at + f) (inl (omega (arith, procs))) ∙ H.0.variable;
    first = c.kept (proc_firsts_at + f) (inl (omega (arith, procs))) ∙ H.0.first;
    body = here_kept c (omega (arith, few, body_sized p ps root)) H.0.body;
  },
  all_here_kept count (f + 1) (k + size p.body) ps root c (omega (arith, few, body_sized p ps root)) (omega (arith, procs)) H.1,
)
