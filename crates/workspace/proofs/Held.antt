-- Laws of what the work space holds: how long its columns are, and that a program stays while what is behind it changes.
use mathlib.Core.Path.{◌≡◌, refl, sym, ap, ◌∙◌}
use mathlib.Core.Logic.{inl, inr}
use mathlib.Core.List.{List, [], ◌∷◌, ◌++◌, map, append-nil}
use Prim.Native.Nat.{ℕ, suc, ◌+◌, ◌≤◌}
use native.Mathlib.Omega.{arith}
use lib.ListN.{length, length-append, length-map}
use Rattle.spec.specs.Expression.{Step, Expr, leaf, unary, binary, size, step, steps_among, Procedure}
use Rattle.spec.specs.Program.{Program}
use Rattle.spec.specs.WellFormed.{prefix, items_of, listing}
use Rattle.spec.proofs.Listing.{prefix_length, steps_among_lem}
use Rattle.spec.specs.Words.{role, binding}
use Rattle.spec.specs.declared.Word.TheVariants.{Binary}
use Rattle.workspace.specs.Layout.{code_of, row_types_at, step_room, proc_mark, work_size}
use Rattle.workspace.specs.Region.{ChangedWithin}
use Rattle.workspace.specs.Holds.{ends, lets, all_ends, all_lets, first_steps, HoldsSteps, HoldsProgram}
use Rattle.workspace.proofs.Region.{region_kept}
use Rattle.workspace.proofs.Steps.{NoStep, beside_words, beside_lines}

-- ------------------------------------------------------------------ columns have an entry a step

pub ends_length : (k : ℕ) (e : Expr) → length (ends k e) ≡ size e
unfolding ends size
ends_length k (leaf w l v) = refl
ends_length k (unary w l v e) = ap suc (ends_length (k + 1) e)
ends_length k (binary w l v e₁ e₂) =
    omega (arith, length-append (ends (k + 1) e₁) (ends (k + 1 + size e₁) e₂), ends_length (k + 1) e₁, ends_length (k + 1 + size e₁) e₂)

pub lets_length : (k : ℕ) (inside : List (ℕ × ℕ)) (e : Expr) → length (lets k inside e) ≡ size e
unfolding lets size
lets_length k inside (leaf x l v) = refl
lets_length k inside (unary x l v e) = ap suc (lets_length (k + 1) inside e)
lets_length k inside (binary x l v e₁ e₂) =
    let inside₂ = binding (role (Binary x)) (v, k) inside in
    omega (
      arith,
      length-append (lets (k + 1) inside e₁) (lets (k + 1 + size e₁) inside₂ e₂),
      lets_length (k + 1) inside e₁,
      lets_length (k + 1 + size e₁) inside₂ e₂,
    )

-- an expression's steps, then those of the lines behind it
pub body_steps : (p : Procedure) (ps : List Procedure) (root : Expr)
    → steps_among (listing (p ∷ ps) root) ≡ prefix p.body ++ steps_among (listing ps root)
unfolding listing items_of steps_among
body_steps p ps root = steps_among_lem (prefix p.body) (listing ps root)

pub root_steps : (root : Expr) → steps_among (listing [] root) ≡ prefix root
unfolding listing items_of steps_among
root_steps root = ap steps_among (sym (append-nil (map step (prefix root)))) ∙ steps_among_lem (prefix root) [] ∙ append-nil (prefix root)

-- how many steps bodies and a root have
pub body_sized : (p : Procedure) (ps : List Procedure) (root : Expr)
    → length (steps_among (listing (p ∷ ps) root)) ≡ size p.body + length (steps_among (listing ps root))
body_sized p ps root =
    ap length (body_steps p ps root)
    ∙ length-append (prefix p.body) (steps_among (listing ps root))
    ∙ ap (λ n. n + length (steps_among (listing ps root))) (prefix_length p.body)

pub root_sized : (root : Expr) → length (steps_among (listing [] root)) ≡ size root
root_sized root = ap length (root_steps root) ∙ prefix_length root

pub all_ends_length : (k : ℕ) (ps : List Procedure) (root : Expr) → length (all_ends k ps root) ≡ length (steps_among (listing ps root))
unfolding all_ends
all_ends_length k [] root = ends_length k root ∙ sym (root_sized root)
all_ends_length k (p ∷ ps) root =
    omega (
      arith,
      length-append (ends k p.body) (all_ends (k + size p.body) ps root),
      ends_length k p.body,
      all_ends_length (k + size p.body) ps root,
      body_sized p ps root,
    )

pub all_lets_length : (f k : ℕ) (ps : List Procedure) (root : Expr) → length (all_lets f k ps root) ≡ length (steps_among (listing ps root))
unfolding all_lets
all_lets_length f k [] root = lets_length k [] root ∙ sym (root_sized root)
all_lets_length f k (p ∷ ps) root =
    let inside : List (ℕ × ℕ) = (p.parameter, proc_mark + f) ∷ [] in
    omega (
      arith,
      length-append (lets k inside p.body) (all_lets (f + 1) (k + size p.body) ps root),
      lets_length k inside p.body,
      all_lets_length (f + 1) (k + size p.body) ps root,
      body_sized p ps root,
    )

pub first_steps_length : (k : ℕ) (ps : List Procedure) → length (first_steps k ps) ≡ length ps + 1
unfolding first_steps
first_steps_length k [] = refl
first_steps_length k (p ∷ ps) = omega (arith, first_steps_length (k + size p.body) ps)

-- ------------------------------------------------------------------ a program stays

pub steps_stay : {a b : ℕ} {w w' : List ℕ} {steps : List Step} → ChangedWithin a b w w' → NoStep a b → length steps ≤ step_room
    → HoldsSteps w steps → HoldsSteps w' steps
steps_stay {steps = steps} c o few H = record {
  words = region_kept c (inl (beside_words _ (omega (arith, length-map steps (λ (s : Step). code_of s.word))) o)) H.words;
  values = region_kept c (inl (beside_words _ (omega (arith, length-map steps (λ (s : Step). s.value))) o)) H.values;
  lines = region_kept c (beside_lines _ _ (omega arith) (omega (arith, length-map steps (λ (s : Step). s.line))) o) H.lines;
}

-- the program stands in front of the rows
pub program_kept : {w w' : List ℕ} {P : Program} → ChangedWithin row_types_at work_size w w' → P.steps ≡ steps_among (listing P.procedures P.root)
    → length P.steps ≤ 256 → length P.procedures ≤ 16 → HoldsProgram w P → HoldsProgram w' P
program_kept {w} {w'} {P} c stepped few procs H =
    let ps : List Procedure = P.procedures in
    let sized : length (steps_among (listing ps P.root)) ≡ length P.steps = sym (ap length stepped) in
    record {
      steps = steps_stay c (inr (omega arith)) (omega (arith, few)) H.steps;
      ends = region_kept c (inl (omega (arith, few, sized, all_ends_length 0 ps P.root))) H.ends;
      lets = region_kept c (inl (omega (arith, few, sized, all_lets_length 0 0 ps P.root))) H.lets;
      proc_lines = region_kept c (inl (omega (arith, procs, length-map ps (λ (p : Procedure). p.line)))) H.proc_lines;
      proc_vars = region_kept c (inl (omega (arith, procs, length-map ps (λ (p : Procedure). p.parameter)))) H.proc_vars;
      proc_firsts = region_kept c (inl (omega (arith, procs, first_steps_length 0 ps))) H.proc_firsts;
    }
