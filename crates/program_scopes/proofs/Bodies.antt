-- Judging bodies and root in line order, with a table, comes to the scopes of the procedures and the root. A procedure is a let whose
-- scope begins at once: its variable is bound at its line and in scope in its body alone.
use Rattle.std.proofs.Common.{Option, None, Some, is_some, Result, Ok, Err}
use Rattle.std.proofs.lemmas.List.{get_or-replicate}
use mathlib.Core.Path.{◌≡◌, refl, sym, ap, ◌∙◌}
use mathlib.Core.List.{List, [], ◌∷◌, ◌++◌, append-nil, map, map-append}
use mathlib.Core.Bool.{Bool, true, false}
use Prim.Native.Nat.{ℕ, suc, ◌+◌, ◌-◌, ◌<◌, ◌≤◌}
use native.Mathlib.Omega.{arith}
use lib.ListN.{length, get_or, set, length-map}
use Rattle.spec.specs.declared.Refusal.{Refusal}
use Rattle.spec.specs.Choice.{when◌then◌else◌}
use Rattle.spec.specs.Reading.{◌>>=◌}
use Rattle.spec.specs.Expression.{Step, Expr, size, steps_among, Procedure, among, scope_step, scope, scopes}
use Rattle.spec.specs.WellFormed.{prefix, listing, NumberedFrom}
use Rattle.spec.proofs.Listing.{prefix_length}
use Rattle.spec.specs.declared.Refusal.TheVariants.{Rebound}
use Rattle.workspace.specs.Layout.{words_at, values_at, ends_at, lines_at, proc_lines_at, proc_vars_at, proc_firsts_at, proc_mark, code_of}
use Rattle.workspace.specs.Region.{Region}
use Rattle.workspace.proofs.Region.{region_moved, region_first, region_behind, region_left, region_right}
use Rattle.workspace.specs.Holds.{ends, lets, all_ends, all_lets, first_steps}
use Rattle.workspace.proofs.Held.{ends_length, body_steps, root_steps}
use Rattle.workspace.proofs.Expression.{codes, values, lines_of, Standing}
use Rattle.program_tree.specs.Items.{Limited}
use Rattle.program_scopes.specs.Judging.{scope_from, scope_till}
use Rattle.program_scopes.specs.Scopes.{Table, unbound, scopes_from, first_at, with_front, followed, body_scopes, scopes_behind}
use Rattle.program_tree.proofs.Limits.{limited_parts}
use Rattle.program_scopes.proofs.JudgingLaws.{from_proc, till_proc}
use Rattle.program_scopes.proofs.ScopeLaws.{after_on}
use Rattle.program_scopes.proofs.Tables.{names, Agrees, extends_same, extends_then, agrees_narrow, agrees_onward, Binds, let_extends, let_first, let_second}
use Rattle.program_scopes.proofs.Walk.{Gone, Walked, walk}

-- ------------------------------------------------------------------ where they stand

-- the procedures from number f on, from index k on, and the root behind them
unfoldable pub Standings : (w : List ℕ) (f k : ℕ) → List Procedure → (root : Expr) → Type 0
Standings w f k [] root = (first_at w f ≡ k) × Standing w k root × Limited (prefix root)
Standings w f k (p ∷ ps) root =
    (first_at w f ≡ k)
    × (get_or w (proc_lines_at + f) 0 ≡ p.line)
    × (get_or w (proc_vars_at + f) 0 ≡ p.parameter)
    × (p.parameter < 256)
    × Standing w k p.body
    × Limited (prefix p.body)
    × Standings w (f + 1) (k + size p.body) ps root

first_stands : (w : List ℕ) (f k : ℕ) (ps : List Procedure) (root : Expr) → Standings w f k ps root → first_at w f ≡ k
unfolding Standings
first_stands w f k [] root s = s.0
first_stands w f k (p ∷ ps) root s = s.0

-- how many steps they have
unfoldable pub all_size : List Procedure → (root : Expr) → ℕ
all_size [] root = size root
all_size (p ∷ ps) root = size p.body + all_size ps root

abbrev pub AllWalked : (w : List ℕ) (n count m f k : ℕ) (ps : List Procedure) (root : Expr) (t : Table) → Result (List ℕ) Refusal → Type 0
AllWalked w n count m f k ps root t (Err r) = scopes_behind w n count m f t ≡ Err r
AllWalked w n count m f k ps root t (Ok b) = scopes_behind w n count m f t ≡ Ok (all_lets f k ps root)

-- ------------------------------------------------------------------ steps that are passed

passed : (count : ℕ) (w : List ℕ) (k s : ℕ) (ls : List ℕ) (t : Table) (b : List ℕ) (x : Gone count w 0 k s ls t b) → scopes_from w count (s + 0) k t ≡ Ok (ls, x.table)
unfolding scopes_from
passed count w k s ls t b x = x.goes ∙ after_on ls [] x.table ∙ ap (λ l. Ok (l, x.table)) (append-nil ls)

root_walked : (count n f k : ℕ) (w : List ℕ) (root : Expr) (t : Table) (o : Result (List ℕ) Refusal) → first_at w f ≡ k → k + size root ≡ n
    → Walked count w 0 k (size root) (lets k [] root) t o → AllWalked w n count 0 f k [] root t o
unfolding scopes_behind followed with_front all_lets
root_walked count n f k w root t (Err r) p e x =
    let q : n - k ≡ size root + 0 = omega arith in rw (p, q, x) refl
root_walked count n f k w root t (Ok b) p e x =
    let q : n - k ≡ size root + 0 = omega arith in
    rw (p, q, passed count w k (size root) (lets k [] root) t b x) (ap Ok (append-nil (lets k [] root)))

-- ------------------------------------------------------------------ a body, and what is behind it

module _ (w : List ℕ) (n count m f k : ℕ) (p : Procedure) (ps : List Procedure) (root : Expr) (t : Table)
    (q : body_scopes w count f t ≡ scopes_from w count (size p.body + 0) k (set t p.parameter (Some (proc_mark + f)))) where
  abbrev t₁ : Table
  t₁ = set t p.parameter (Some (proc_mark + f))

  abbrev ls : List ℕ
  ls = lets k ((p.parameter, proc_mark + f) ∷ []) p.body

  behind : (b : List ℕ) (x : Gone count w 0 k (size p.body) ls t₁ b) (o : Result (List ℕ) Refusal)
      → AllWalked w n count m (f + 1) (k + size p.body) ps root x.table o → AllWalked w n count (suc m) f k (p ∷ ps) root t o
  unfolding scopes_behind followed with_front all_lets
  behind b x (Err r) y = rw (q, passed count w k (size p.body) ls t₁ b x, y) refl
  behind b x (Ok b₂) y = rw (q, passed count w k (size p.body) ls t₁ b x, y) refl

  body_then : (o : Result (List ℕ) Refusal) (more : List ℕ → Result (List ℕ) Refusal) → Walked count w 0 k (size p.body) ls t₁ o
      → ((b : List ℕ) (x : Gone count w 0 k (size p.body) ls t₁ b) → AllWalked w n count m (f + 1) (k + size p.body) ps root x.table (more b))
      → AllWalked w n count (suc m) f k (p ∷ ps) root t (o >>= more)
  unfolding scopes_behind followed ◌>>=◌
  body_then (Err r) more x y = rw (q, x) refl
  body_then (Ok b) more x y = behind b x (more b) (y b x)

module _ (w : List ℕ) (n count m f k : ℕ) (p : Procedure) (ps : List Procedure) (root : Expr) (t : Table) (bound : List ℕ)
    (h₁ : first_at w f ≡ k) (h₂ : first_at w (f + 1) ≡ k + size p.body) (hl : get_or w (proc_lines_at + f) 0 ≡ p.line)
    (hv : get_or w (proc_vars_at + f) 0 ≡ p.parameter) (bind : among p.parameter bound ≡ is_some (get_or t p.parameter None)) where
  rebound : among p.parameter bound ≡ true → body_scopes w count f t ≡ Err (Rebound p.line)
  unfolding body_scopes
  rebound e = rw (hv, sym bind ∙ e, hl) refl

  fresh : among p.parameter bound ≡ false → body_scopes w count f t ≡ scopes_from w count (size p.body + 0) k (set t p.parameter (Some (proc_mark + f)))
  unfolding body_scopes
  fresh e =
      let d : k + size p.body - k ≡ size p.body + 0 = omega arith in
      rw (hv, sym bind ∙ e, h₁, h₂, d) refl

  body_walked : (o : List ℕ → Result (List ℕ) Refusal) (more : List ℕ → Result (List ℕ) Refusal)
      → (among p.parameter bound ≡ false
      → Walked count w 0 k (size p.body) (lets k ((p.parameter, proc_mark + f) ∷ []) p.body) (set t p.parameter (Some (proc_mark + f))) (o (p.parameter ∷ bound)))
      → (among p.parameter bound ≡ false → (b : List ℕ)
      → (x : Gone count w 0 k (size p.body) (lets k ((p.parameter, proc_mark + f) ∷ []) p.body) (set t p.parameter (Some (proc_mark + f))) b)
      → AllWalked w n count m (f + 1) (k + size p.body) ps root x.table (more b))
      → (y : Bool) → among p.parameter bound ≡ y
      → AllWalked w n count (suc m) f k (p ∷ ps) root t
      ((when y then Err (Rebound p.line) else Ok (p.parameter ∷ bound)) >>= λ b. o b >>= more)
  unfolding scopes_behind followed ◌>>=◌
  body_walked o more x₁ x₂ true e = rw (rebound e) refl
  body_walked o more x₁ x₂ false e = body_then w n count m f k p ps root t (fresh e) (o (p.parameter ∷ bound)) more (x₁ e) (x₂ e)

-- ------------------------------------------------------------------ all of them

pub walk_all : (w : List ℕ) (n count : ℕ) → n ≤ 256 → (ps : List Procedure) (root : Expr) (f k : ℕ) (t : Table) (bound : List ℕ)
    → Standings w f k ps root → k + all_size ps root ≡ n → f + length ps ≡ count → Agrees w k n t [] bound
    → AllWalked w n count (length ps) f k ps root t (scopes count ps root bound)
unfolding scopes scope_step Standings all_size names
walk_all w n count few [] root f k t bound s e c a =
    root_walked count n f k w root t (scope count root [] bound) s.0 e
    (walk count w root k 0 n t [] bound s.1 s.2 (omega arith) few a)
walk_all w n count few (p ∷ ps) root f k t bound s e c a =
    let end = k + size p.body in
    let mark = proc_mark + f in
    let next : first_at w (f + 1) ≡ end = first_stands w (f + 1) end ps root s.6 in
    let begins : scope_from w mark ≡ k = from_proc w f ∙ s.0 in
    let stops : scope_till w mark ≡ end = till_proc w f ∙ next in
    let v = p.parameter in
    let B : Binds w mark k k end v t [] bound = record {
      variable = s.3;
      begins = begins;
      ends = stops;
      order = (omega arith, omega arith);
      agrees = agrees_narrow k end (omega arith) (omega arith) a;
    } in
    body_walked w n count (length ps) f k p ps root t bound s.0 next s.1 s.2 (a.bind v s.3)
    (λ b. scope count p.body (v ∷ []) b)
    (λ b. scopes count ps root b)
    (λ free.
    walk count w p.body k 0 end (set t v (Some mark)) ((v, mark) ∷ []) (v ∷ bound) s.4 s.5 (omega arith) (omega arith)
    (let_second B free (set t v (Some mark)) (v ∷ bound) (let_first B free).long (extends_same w k (set t v (Some mark))) (let_first B free).bind))
    (λ free b x.
    walk_all w n count few ps root (f + 1) end x.table b s.6 (omega arith) (omega arith)
    (agrees_onward w k n end t x.table [] bound b (omega arith) a x.long
    (extends_then w end end t (set t v (Some mark)) x.table (omega arith) (let_extends B free) x.extends)
    x.bind))
    (among v bound)
    refl

-- no variable is bound
pub none_agrees : (w : List ℕ) (n : ℕ) → Agrees w 0 n unbound [] []
unfolding unbound among names
none_agrees w n = record {
  long = refl;
  bind = λ v l. rw (get_or-replicate {A = Option ℕ} 256 v None None l) refl;
  at = λ v l. rw (get_or-replicate {A = Option ℕ} 256 v None None l) tt;
}

-- ------------------------------------------------------------------ from the columns

-- each variable is one
unfoldable pub Parameters : List Procedure → Type 0
Parameters [] = Unit {0}
Parameters (p ∷ ps) = (p.parameter < 256) × Parameters ps

-- what the columns hold of them
pub record Columns (w : List ℕ) (f k : ℕ) (ps : List Procedure) (root : Expr) : Type 0 where
  pub words : Region w (words_at + k) (map (λ (s : Step). code_of s.word) (steps_among (listing ps root)))
  pub values : Region w (values_at + k) (map (λ (s : Step). s.value) (steps_among (listing ps root)))
  pub lines : Region w (lines_at + k) (map (λ (s : Step). s.line) (steps_among (listing ps root)))
  pub ended : Region w (ends_at + k) (all_ends k ps root)
  pub proc_lines : Region w (proc_lines_at + f) (map (λ (p : Procedure). p.line) ps)
  pub proc_vars : Region w (proc_vars_at + f) (map (λ (p : Procedure). p.parameter) ps)
  pub proc_firsts : Region w (proc_firsts_at + f) (first_steps k ps)
  pub numbered : NumberedFrom k ps root
  pub limited : Limited (steps_among (listing ps root))
  pub parameters : Parameters ps

column_parts : {w : List ℕ} {b : ℕ} (g : Step → ℕ) (p : Procedure) (ps : List Procedure) (root : Expr)
    → Region w b (map g (steps_among (listing (p ∷ ps) root)))
    → Region w b (map g (prefix p.body) ++ map g (steps_among (listing ps root)))
column_parts g p ps root r = rw (body_steps p ps root, map-append) at r

column_body : {w : List ℕ} {b : ℕ} (g : Step → ℕ) (p : Procedure) (ps : List Procedure) (root : Expr)
    → Region w b (map g (steps_among (listing (p ∷ ps) root))) → Region w b (map g (prefix p.body))
column_body g p ps root r = region_left _ _ (column_parts g p ps root r)

column_behind : {w : List ℕ} (b k : ℕ) (g : Step → ℕ) (p : Procedure) (ps : List Procedure) (root : Expr)
    → Region w (b + k) (map g (steps_among (listing (p ∷ ps) root))) → Region w (b + (k + size p.body)) (map g (steps_among (listing ps root)))
column_behind b k g p ps root r =
    region_moved _ _
    (omega (arith, length-map (prefix p.body) g, prefix_length p.body))
    (region_right (map g (prefix p.body)) _ (column_parts g p ps root r))

module _ {w : List ℕ} {f k : ℕ} (p : Procedure) (ps : List Procedure) (root : Expr) (C : Columns w f k (p ∷ ps) root) where
  ends_parts : Region w (ends_at + k) (ends k p.body ++ all_ends (k + size p.body) ps root)
  unfolding all_ends
  ends_parts = C.ended

  firsts_parts : Region w (proc_firsts_at + f) (k ∷ first_steps (k + size p.body) ps)
  unfolding first_steps
  firsts_parts = C.proc_firsts

  limited_both : Limited (prefix p.body) × Limited (steps_among (listing ps root))
  limited_both = limited_parts (prefix p.body) (steps_among (listing ps root)) (rw (body_steps p ps root) at C.limited)

  columns_behind : Columns w (f + 1) (k + size p.body) ps root
  unfolding NumberedFrom Parameters
  columns_behind = record {
    words = column_behind words_at k (λ (s : Step). code_of s.word) p ps root C.words;
    values = column_behind values_at k (λ (s : Step). s.value) p ps root C.values;
    lines = column_behind lines_at k (λ (s : Step). s.line) p ps root C.lines;
    ended = region_moved _ _ (omega (arith, ends_length k p.body)) (region_right (ends k p.body) _ ends_parts);
    proc_lines = region_moved _ _ (omega arith) (region_behind C.proc_lines);
    proc_vars = region_moved _ _ (omega arith) (region_behind C.proc_vars);
    proc_firsts = region_moved _ _ (omega arith) (region_behind firsts_parts);
    numbered = C.numbered.1;
    limited = limited_both.1;
    parameters = C.parameters.1;
  }

-- procedures and root stand where the columns hold them
pub stands : {w : List ℕ} (f k : ℕ) (ps : List Procedure) (root : Expr) → Columns w f k ps root → Standings w f k ps root
unfolding Standings NumberedFrom Parameters codes values lines_of all_ends first_steps
stands f k [] root C = (
  region_first C.proc_firsts,
  record {
    words = rw (root_steps root) at C.words;
    numbers = rw (root_steps root) at C.values;
    lined = rw (root_steps root) at C.lines;
    ended = C.ended;
    indexed = C.numbered;
  },
  rw (root_steps root) at C.limited,
)
stands f k (p ∷ ps) root C = (
  region_first (firsts_parts p ps root C),
  region_first C.proc_lines,
  region_first C.proc_vars,
  C.parameters.0,
  record {
    words = column_body (λ (s : Step). code_of s.word) p ps root C.words;
    numbers = column_body (λ (s : Step). s.value) p ps root C.values;
    lined = column_body (λ (s : Step). s.line) p ps root C.lines;
    ended = region_left _ _ (ends_parts p ps root C);
    indexed = C.numbered.0;
  },
  (limited_both p ps root C).0,
  stands (f + 1) (k + size p.body) ps root (columns_behind p ps root C),
)
