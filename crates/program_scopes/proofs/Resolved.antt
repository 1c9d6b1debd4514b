-- Procedures and root as they stand once the walk has found them: how many steps they have, where the bodies begin, and that their
-- variables are in range.
use Rattle.std.proofs.Common.{Result, Ok, Err}
use mathlib.Core.Path.{◌≡◌, refl, sym, ap, subst, ◌∙◌}
use mathlib.Core.Logic.{◌⊎◌, inl, inr, ⊎_elim}
use mathlib.Core.List.{List, [], ◌∷◌, ◌++◌, map}
use Prim.Native.Nat.{ℕ, ◌+◌, ◌<◌, ◌≤◌}
use native.Mathlib.Omega.{arith}
use native.Mathlib.Decide.{ℕ_discrete}
use lib.ListN.{length, set, length-map}
use Rattle.spec.specs.Reading.{◌>>=◌}
use Rattle.spec.specs.Expression.{Step, Expr, size, steps_among, Procedure, structure, scopes}
use Rattle.spec.specs.WellFormed.{listing}
use Rattle.spec.proofs.Listing.{Listed, structure_lists}
use Rattle.workspace.specs.Layout.{words_at, values_at, ends_at, lets_at, lines_at, proc_lines_at, proc_vars_at, proc_firsts_at, row_types_at, step_room, work_size, code_of}
use Rattle.workspace.specs.Region.{Region}
use Rattle.workspace.specs.Holds.{all_ends, all_lets, first_steps, HoldsSteps}
use Rattle.workspace.proofs.Region.{region_apart, region_kept, region_push, changed_wider, changed_then, changed_store}
use Rattle.workspace.proofs.Held.{body_sized, root_sized, all_ends_length, steps_stay}
use Rattle.program_tree.specs.Items.{ProcRow, proc_rows, Variables, more_variables, HoldsItems, Limited, ItemsStored}
use Rattle.program_tree.specs.Trees.{root_first, Structured}
use Rattle.program_tree.specs.Outcomes.{Passes}
use Rattle.program_tree.proofs.Outcomes.{Found, found, refused}
use Rattle.program_tree.specs.declared.Stored.{Stored}
use Rattle.program_scopes.specs.Resolved.{resolved_of, HoldsTree, Resolvable, Resolved}
use Rattle.spec.specs.declared.Refusal.{Refusal}
use Rattle.program_scopes.specs.Scopes.{first_at, unbound, Scopable, Scoped}
use Rattle.program_scopes.proofs.Bodies.{Standings, Parameters, all_size, AllWalked, walk_all, none_agrees, Columns, stands}
use Rattle.program_tree.proofs.Rows.{rows_body, rows_lines, rows_variables, rows_firsts, rows_counted_lem}

variable_first : {r : ProcRow} {rs : List ProcRow} → Variables (r ∷ rs) → r.variable ≤ 255
variable_first (more_variables l v) = l

variable_behind : {r : ProcRow} {rs : List ProcRow} → Variables (r ∷ rs) → Variables rs
variable_behind (more_variables l v) = v

pub parameters : (i : ℕ) (ps : List Procedure) (root : Expr) → Variables (proc_rows i (listing ps root)) → Parameters ps
unfolding listing proc_rows Parameters
parameters i [] root v = tt
parameters i (p ∷ ps) root v =
    (omega (arith, variable_first v), parameters (i + size p.body) ps root (subst Variables (rows_body i p.body (listing ps root)) (variable_behind v)))

pub all_sized : (ps : List Procedure) (root : Expr) → all_size ps root ≡ length (steps_among (listing ps root))
unfolding all_size
all_sized [] root = sym (root_sized root)
all_sized (p ∷ ps) root = omega (arith, all_sized ps root, body_sized p ps root)

-- each body begins behind the one in front of it
first_of : (w : List ℕ) (f k : ℕ) (ps : List Procedure) (root : Expr) → Standings w f k ps root → first_at w f ≡ k
unfolding Standings
first_of w f k [] root s = s.0
first_of w f k (p ∷ ps) root s = s.0

turn_by : (w : List ℕ) (g f k m : ℕ) → first_at w g ≡ k → first_at w (g + 1) ≡ k + m → g ≤ f → (g + 1 ≤ f → first_at w f ≤ first_at w (f + 1)) → Dec (f ≡ g)
    → first_at w f ≤ first_at w (f + 1)
turn_by w g f k m a b l more (yes e) = rw e (omega (arith, a, b))
turn_by w g f k m a b l more (no e) = more (omega (arith, e))

pub in_turn_lem : (w : List ℕ) (g k : ℕ) (ps : List Procedure) (root : Expr) → Standings w g k ps root → (f : ℕ) → g ≤ f → f < g + length ps
    → first_at w f ≤ first_at w (f + 1)
unfolding Standings
in_turn_lem w g k [] root s f l h = absurd (omega arith)
in_turn_lem w g k (p ∷ ps) root s f l h =
    turn_by w g f k (size p.body) s.0 (first_of w (g + 1) (k + size p.body) ps root s.6) l
    (λ b. in_turn_lem w (g + 1) (k + size p.body) ps root s.6 f b (omega arith))
    (ℕ_discrete f g)

pub root_last : (w : List ℕ) (g k : ℕ) (ps : List Procedure) (root : Expr) → Standings w g k ps root
    → first_at w (g + length ps) + size root ≡ k + all_size ps root
unfolding Standings all_size
root_last w g k [] root s = let e : g + 0 ≡ g = omega arith in rw (e, s.0) refl
root_last w g k (p ∷ ps) root s =
    let e : g + length (p ∷ ps) ≡ g + 1 + length ps = omega arith in
    rw e (omega (arith, root_last w (g + 1) (k + size p.body) ps root s.6))

root_first_sized : (k : ℕ) (ps : List Procedure) (root : Expr) → root_first k ps + size root ≡ k + all_size ps root
unfolding root_first all_size
root_first_sized k [] root = refl
root_first_sized k (p ∷ ps) root = omega (arith, root_first_sized (k + size p.body) ps root)

-- so their scopes can be judged
pub scopable : (n count : ℕ) (w : List ℕ) (ps : List Procedure) (root : Expr) → n ≤ 256 → count ≤ 16 → length ps ≡ count
    → all_size ps root ≡ n → Standings w 0 0 ps root → Scopable n count w
scopable n count w ps root few procedures counted sized s = record {
  few = few;
  procedures = procedures;
  begun = first_of w 0 0 ps root s;
  in_turn = λ f l. in_turn_lem w 0 0 ps root s f (omega arith) (omega (arith, counted));
  last =
      let e : 0 + length ps ≡ count = omega (arith, counted) in
      omega (arith, subst (λ i. first_at w i + size root ≡ 0 + all_size ps root) e (root_last w 0 0 ps root s), sized);
}

-- and judging them comes to their scopes
pub judged : (n count : ℕ) (w : List ℕ) (ps : List Procedure) (root : Expr) → n ≤ 256 → count ≤ 16 → length ps ≡ count
    → all_size ps root ≡ n → Standings w 0 0 ps root → AllWalked w n count count 0 0 ps root unbound (scopes count ps root [])
judged n count w ps root few procedures counted sized s =
    subst (λ m. AllWalked w n count m 0 0 ps root unbound (scopes count ps root [])) counted
    (walk_all w n count few ps root 0 0 unbound [] s (omega (arith, sized)) (omega (arith, counted)) (none_agrees w n))

-- ------------------------------------------------------------------ the walk refuses

pub resolve_refused : {s : Stored} {count : ℕ} {w w₁ : List ℕ} {x : Refusal} → Structured s count w w₁ (Err x) → Resolved s count w w₁ (Err x)
unfolding resolved_of ◌>>=◌
resolve_refused {s} {count} S = record {
  found = λ st.
      let o : structure s.last count 0 st.items ≡ Err _ = refused _ _ (structure s.last count 0 st.items) (S.found st.items st.held st.steps_counted st.procs_counted) in
      rw o refl;
  changed = changed_wider ends_at row_types_at (omega arith) (omega arith) S.changed;
}

-- ------------------------------------------------------------------ the walk finds them

-- the root begins at r, which is stored behind where the bodies begin
module _ {s : Stored} {count r : ℕ} {w w₁ : List ℕ} (long : length w ≡ work_size) (D : Resolvable s count w) (S : Structured s count w w₁ (Ok r)) (st : ItemsStored s.steps s.procs w) where
  tree : Found (λ (t : List Procedure × Expr). root_first 0 t.0) (λ t. Region w₁ ends_at (all_ends 0 t.0 t.1)) r (structure s.last count 0 st.items)
  tree = found _ _ (structure s.last count 0 st.items) (S.found st.items st.held st.steps_counted st.procs_counted)

  abbrev ps : List Procedure
  ps = tree.value.0

  abbrev top : Expr
  top = tree.value.1

  lists : Listed count 0 st.items ps top
  lists = structure_lists s.last count 0 st.items tree.is

  held : HoldsItems w (listing ps top)
  held = subst (HoldsItems w) lists.all st.held

  steps_counted : length (steps_among (listing ps top)) ≡ s.steps
  steps_counted = subst (λ l. length (steps_among l) ≡ s.steps) lists.all st.steps_counted

  procs_counted : length (proc_rows 0 (listing ps top)) ≡ s.procs
  procs_counted = subst (λ l. length (proc_rows 0 l) ≡ s.procs) lists.all st.procs_counted

  few_steps : s.steps ≤ 256
  few_steps = omega (arith, D.all, procs_counted, rows_counted_lem 0 ps top, lists.counted)

  all_counted : all_size ps top ≡ s.steps
  all_counted = all_sized ps top ∙ steps_counted

  pub root_small : r ≤ 256
  root_small = omega (arith, tree.same, root_first_sized 0 ps top, all_counted, few_steps)

  abbrev w₂ : List ℕ
  w₂ = set w₁ (proc_firsts_at + count) r

  step_column : (b : ℕ) (g : Step → ℕ) → (b + step_room ≤ ends_at) ⊎ ((ends_at + step_room ≤ b) × (b + step_room ≤ proc_firsts_at))
      → Region w b (map g (steps_among (listing ps top))) → Region w₂ b (map g (steps_among (listing ps top)))
  step_column b g o R =
      let n : length (map g (steps_among (listing ps top))) ≤ step_room = omega (arith, length-map (steps_among (listing ps top)) g, steps_counted, few_steps) in
      region_apart w₁ b _ (proc_firsts_at + count) r
      (inr (⊎_elim (λ l. omega (arith, l, n)) (λ l. omega (arith, l.1, n)) o))
      (region_kept S.changed (⊎_elim (λ l. inl (omega (arith, l, n))) (λ l. inr (omega (arith, l.0))) o) R)

  firsts_column : Region w₂ proc_firsts_at (first_steps 0 ps)
  firsts_column =
      let rows = map (λ (x : ProcRow). x.first) (proc_rows 0 (listing ps top)) in
      let n : length rows ≡ count = length-map (proc_rows 0 (listing ps top)) (λ (x : ProcRow). x.first) ∙ rows_counted_lem 0 ps top ∙ lists.counted in
      let kept : Region w₁ proc_firsts_at rows = region_kept S.changed (inr (omega arith)) held.procs.firsts in
      subst (Region w₂ proc_firsts_at) (ap (λ i. rows ++ (i ∷ [])) tree.same ∙ rows_firsts 0 ps top)
      (subst (λ i. Region (set w₁ (proc_firsts_at + i) r) proc_firsts_at (rows ++ (r ∷ []))) n
      (region_push w₁ proc_firsts_at rows r (omega (arith, n, D.few, S.changed.long, long)) kept))

  columns : Columns w₂ 0 0 ps top
  columns = record {
    words = step_column words_at (λ (x : Step). code_of x.word) (inl (omega arith)) held.steps.words;
    values = step_column values_at (λ (x : Step). x.value) (inl (omega arith)) held.steps.values;
    lines = step_column lines_at (λ (x : Step). x.line) (inr (omega arith, omega arith)) held.steps.lines;
    ended = region_apart w₁ ends_at _ (proc_firsts_at + count) r (inr (omega (arith, all_ends_length 0 ps top, steps_counted, few_steps))) tree.holds;
    proc_lines = region_apart w₁ proc_lines_at _ (proc_firsts_at + count) r (inr (omega (arith, length-map ps (λ (p : Procedure). p.line), lists.counted, D.few)))
        (region_kept S.changed (inr (omega arith)) (subst (Region w proc_lines_at) (rows_lines 0 ps top) held.procs.lines));
    proc_vars = region_apart w₁ proc_vars_at _ (proc_firsts_at + count) r (inr (omega (arith, length-map ps (λ (p : Procedure). p.parameter), lists.counted, D.few)))
        (region_kept S.changed (inr (omega arith)) (subst (Region w proc_vars_at) (rows_variables 0 ps top) held.procs.variables));
    proc_firsts = firsts_column;
    numbered = lists.numbering;
    limited = subst (λ l. Limited (steps_among l)) lists.all st.limited;
    parameters = parameters 0 ps top (subst (λ l. Variables (proc_rows 0 l)) lists.all st.variables);
  }

  standing : Standings w₂ 0 0 ps top
  standing = stands 0 0 ps top columns

  pub resolve_scopable : Scopable s.steps count w₂
  resolve_scopable =
      scopable s.steps count w₂ ps top few_steps D.few lists.counted all_counted standing

  module _ {w₃ : List ℕ} {o : Result (Unit {0}) Refusal} (q : Scoped s.steps count w₂ w₃ o) where
    steps_kept : HoldsSteps w₃ (steps_among st.items)
    steps_kept =
        subst (λ l. HoldsSteps w₃ (steps_among l)) (sym lists.all)
        (steps_stay q.changed (inl (omega arith, omega arith)) (omega (arith, few_steps, steps_counted))
        (record { words = columns.words; values = columns.values; lines = columns.lines }))

    tree_kept : Region w₃ lets_at (all_lets 0 0 ps top) → HoldsTree w₃ ps top
    tree_kept l = record {
      ends = region_kept q.changed (inl (omega (arith, all_ends_length 0 ps top, steps_counted, few_steps))) columns.ended;
      lets = l;
      proc_lines = region_kept q.changed (inr (omega arith)) columns.proc_lines;
      proc_vars = region_kept q.changed (inr (omega arith)) columns.proc_vars;
      proc_firsts = region_kept q.changed (inr (omega arith)) columns.proc_firsts;
    }

    scoped_by : (x : Result (List ℕ) Refusal) → scopes count ps top [] ≡ x → AllWalked w₂ s.steps count count 0 0 ps top unbound x
        → Passes (λ (t : List Procedure × Expr). HoldsTree w₃ t.0 t.1 × HoldsSteps w₃ (steps_among st.items)) o (resolved_of s.last count st.items)
    unfolding resolved_of ◌>>=◌
    scoped_by (Err y) e a = rw (tree.is, e) (subst (Passes (Region w₃ lets_at) o) a q.found)
    scoped_by (Ok b) e a =
        let f = subst (Passes (Region w₃ lets_at) o) a q.found in
        rw (tree.is, e) (f.0, (tree_kept f.1, steps_kept))

    pub resolve_scoped : Passes (λ (t : List Procedure × Expr). HoldsTree w₃ t.0 t.1 × HoldsSteps w₃ (steps_among st.items)) o (resolved_of s.last count st.items)
    resolve_scoped =
        scoped_by (scopes count ps top []) refl (judged s.steps count w₂ ps top few_steps D.few lists.counted all_counted standing)

pub resolved : {s : Stored} {count r : ℕ} {w w₁ w₃ : List ℕ} {o : Result (Unit {0}) Refusal} → length w ≡ work_size → Resolvable s count w
    → Structured s count w w₁ (Ok r) → Scoped s.steps count (set w₁ (proc_firsts_at + count) r) w₃ o → Resolved s count w w₃ o
resolved {s} {count} {r} {w} {w₁} long D S q = record {
  found = λ st. resolve_scoped long D S st q;
  changed = changed_then ends_at row_types_at
      (changed_then ends_at row_types_at (changed_wider ends_at row_types_at (omega arith) (omega arith) S.changed)
      (changed_store ends_at row_types_at w₁ (proc_firsts_at + count) r (omega arith) (omega (arith, D.few))))
      (changed_wider ends_at row_types_at (omega arith) (omega arith) q.changed);
}
