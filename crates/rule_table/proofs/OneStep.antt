-- One step of an expression that the work space holds: its conditions are document 01's.
use mathlib.Core.Path.{◌≡◌, refl}
use mathlib.Core.List.{List}
use Prim.Native.Nat.{ℕ, ◌+◌, ◌<◌, ◌≤◌}
use native.Mathlib.Omega.{arith}
use lib.ListN.{length}
use Rattle.spec.specs.Words.{calls}
use Rattle.spec.specs.Expression.{Position, Expr, leaf, unary, binary, size, line_of}
use Rattle.spec.specs.Program.{Program}
use Rattle.spec.specs.Split.{Map, Split}
use Rattle.spec.specs.Conditions.{Env, conditions_of}
use Rattle.spec.specs.Ranges.{InRange}
use Rattle.spec.specs.declared.UnaryWord.TheVariants.{Call}
use Rattle.spec.proofs.Listing.{size_positive}
use Rattle.workspace.specs.Layout.{words_at, pres_at, rule_of}
use Rattle.workspace.specs.Holds.{HoldsSplit}
use Rattle.workspace.proofs.Shown.{Stands}
use Rattle.workspace.proofs.Expression.{Here, here_index, here_line, leaf_code_lem, unary_code_lem, binary_code_lem, unary_number_lem, here_called, here_part, here_first, here_second, here_second_at}
use Rattle.conditions.specs.Outcome.{first_false_from}
use Rattle.rule_rows.specs.StepView.{cell, view_of}
use Rattle.rule_rows.proofs.Scopes.{Scoped}
use Rattle.rule_rows.proofs.Views.{own_part, first_part, second_part_lem, started, called, bound_shown}
use Rattle.rule_rows.specs.Table.{rule_row}
use Rattle.rule_rows.proofs.TableRows.{leaf_shown_lem, unary_shown_lem, binary_shown_lem}
use Rattle.rule_table.specs.Outcome.{rule_outcome, step_outcome}

module _ (S : Split) (P : Program) (R : InRange P S) (few : length S.rows ≤ 256) where
  abbrev n : ℕ
  n = S.header.locations

  abbrev d : ℕ
  d = S.header.denominator

  -- all that the walk through an expression starts from
  pub record Ready (w : List ℕ) (k : ℕ) (inside : List (ℕ × ℕ)) (vars : List ℕ) (Γ : Env) (pre : Map) (e : Expr) : Type 0 where
    pub split : HoldsSplit w S
    pub here : Here w (length P.procedures) k inside vars e
    pub scoped : Scoped S Γ inside vars
    pub pre_stands : Stands w S (record { 0 = cell w pres_at k }) pre
    pub room : k + size e ≤ length S.rows
    pub long : pres_at + 256 ≤ length w

  -- a procedure that is called has a signature
  procedure_there : {w : List ℕ} {k : ℕ} {inside : List (ℕ × ℕ)} {vars : List ℕ} (l : Position) (f : ℕ) (e : Expr)
      → Here w (length P.procedures) k inside vars (unary Call l f e) → f < length S.signatures
  unfolding calls
  procedure_there l f e here = omega (arith, here_called Call l f e refl here, R.signatures_counted)

  module _ {w : List ℕ} {k : ℕ} {inside : List (ℕ × ℕ)} {vars : List ℕ} {Γ : Env} {pre : Map} where
    pub below : (e : Expr) → Ready w k inside vars Γ pre e → k < length S.rows
    below e r = omega (arith, size_positive e, r.room)

    conditions_shown : (e : Expr) → Ready w k inside vars Γ pre e
        → (let s = view_of w n d k in
        rule_row (rule_of (cell w words_at k)) w s)
        ≡ conditions_of S Γ pre e
    unfolding size
    conditions_shown (leaf x l v) r =
        rw (leaf_code_lem x l v r.here)
        (leaf_shown_lem w S P r.split R (view_of w n d k) refl refl Γ pre r.pre_stands
        l v x
        (own_part w S P r.split R n d k (leaf x l v) (here_index _ r.here) (below _ r))
        (bound_shown w S P r.split R n d k few x l v r.here r.scoped))
    conditions_shown (unary x l v e₁) r =
        rw (unary_code_lem x l v e₁ r.here)
        (unary_shown_lem w S P r.split R (view_of w n d k) refl refl Γ pre r.pre_stands
        l v e₁
        (first_part w S P r.split R n d k e₁ (here_index e₁ (here_part x l v e₁ r.here))
        (omega (arith, size_positive e₁, r.room)))
        x
        (own_part w S P r.split R n d k _ (here_index _ r.here) (below _ r))
        (started w S P r.split R n d k _ (here_index _ r.here) (below _ r))
        (λ q. called w S P r.split R n d k v (unary_number_lem x l v e₁ r.here) (procedure_there l v e₁ (rw q at r.here))))
    conditions_shown (binary x l v e₁ e₂) r =
        rw (binary_code_lem x l v e₁ e₂ r.here)
        (binary_shown_lem w S P r.split R (view_of w n d k) refl refl Γ pre r.pre_stands
        l v e₁
        (first_part w S P r.split R n d k e₁ (here_index e₁ (here_first x l v e₁ e₂ r.here))
        (omega (arith, size_positive e₁, r.room)))
        e₂
        (second_part_lem w S P r.split R n d k e₂ (k + 1 + size e₁) (here_second_at x l v e₁ e₂ r.here)
        (here_index e₂ (here_second x l v e₁ e₂ r.here)) (omega (arith, size_positive e₂, r.room)))
        x
        (own_part w S P r.split R n d k _ (here_index _ r.here) (below _ r))
        (started w S P r.split R n d k _ (here_index _ r.here) (below _ r)))

    pub step_shown : (e : Expr) → Ready w k inside vars Γ pre e
        → step_outcome w n d k ≡ first_false_from (line_of e) 1 (conditions_of S Γ pre e)
    unfolding step_outcome rule_outcome
    step_shown e r = rw (conditions_shown e r, here_line e r.here)
