-- The walk over an expression in the work space gives what document 01 says of it. The proof goes by the expression: an
-- expression at index k is walked through, and what is left is the walk from its end on, over a work space in which only
-- maps before its own steps are changed.
use Rattle.std.proofs.Common.{Result}
use mathlib.Core.Path.{◌≡◌, sym, ap, ◌∙◌}
use mathlib.Core.Logic.{inr}
use mathlib.Core.List.{List}
use Prim.Native.Nat.{ℕ, suc, ◌+◌, ◌<◌, ◌≤◌}
use native.Mathlib.Omega.{arith}
use lib.ListN.{length}
use Rattle.spec.specs.declared.Refusal.{Refusal}
use Rattle.spec.specs.Expression.{Position, Expr, leaf, unary, binary, size, index_of}
use Rattle.spec.specs.Program.{Program}
use Rattle.spec.specs.Split.{Map, Row, Split}
use Rattle.spec.specs.Conditions.{Env, type, post, body_start}
use Rattle.spec.specs.Words.{role, binding, pre_of_part, pre_of_second}
use Rattle.spec.specs.StepContexts.{step_contexts, claims}
use Rattle.spec.specs.Ranges.{InRange}
use Rattle.spec.specs.declared.MapNumber.{MapNumber}
use Rattle.spec.specs.declared.Purpose.{Purpose}
use Rattle.spec.specs.declared.Word.TheVariants.{Binary}
use Rattle.spec.specs.declared.UnaryWord.{UnaryWord}
use Rattle.spec.specs.declared.BinaryWord.{BinaryWord}
use Rattle.spec.proofs.Listing.{size_positive}
use Rattle.workspace.specs.Layout.{pres_at}
use Rattle.workspace.specs.Region.{ChangedWithin}
use Rattle.workspace.specs.Holds.{HoldsSplit}
use Rattle.workspace.proofs.Region.{changed_nothing, changed_then, changed_wider}
use Rattle.workspace.proofs.Shown.{map_number, Stands, stands_kept, row_at}
use Rattle.workspace.proofs.Expression.{Here, here_kept, here_index, here_part, here_first, here_second}
use Rattle.workspace.proofs.Sheets.{split_kept_by_pres}
use Rattle.conditions.specs.Outcome.{both}
use Rattle.conditions.proofs.FirstFalse.{both_met, both_assoc}
use Rattle.rule_rows.specs.StepView.{cell}
use Rattle.rule_rows.proofs.Scopes.{by_let, Scoped, scoped_second}
use Rattle.rule_table.specs.Outcome.{step_outcome}
use Rattle.rule_table.proofs.OneStep.{Ready}
use Rattle.step_walk.specs.Walk.{counted, put_pre, pass_on, walk}
use Rattle.step_walk.proofs.Walking.{put_before, put_within, put_at, put_other}
use Rattle.step_walk.proofs.Claims.{first_asked, claims_first, claims_one, claims_append}
use Rattle.step_walk.proofs.HandedDown.{pre_number, part_number, second_number, step_counted, leaf_passes, unary_passes, binary_passes, part_stands, second_stands}

-- the walk over the steps of a program, with its split's locations and denominator
abbrev walk_of : Purpose → Split → List ℕ → (k n : ℕ) → Result (Unit {0}) Refusal
walk_of purpose S = walk (record { purpose = purpose; denominator = S.header.denominator; locations = S.header.locations })

-- ------------------------------------------------------------------ the walk through an expression

module _ (purpose : Purpose) (S : Split) (P : Program) (R : InRange P S) (few : length S.rows ≤ 256) where
  -- an expression is walked through; m steps are left behind it
  record Walked (w : List ℕ) (k m : ℕ) (Γ : Env) (pre : Map) (e : Expr) : Type 0 where
    pub after : List ℕ
    pub changed : ChangedWithin pres_at (pres_at + (k + size e)) w after
    pub walks : walk_of purpose S w k (size e + m)
        ≡ both (first_asked purpose (claims S (step_contexts S Γ pre e))) (walk_of purpose S after (k + size e) m)

  walk_first : (w : List ℕ) (k n m : ℕ) → n ≡ suc m
      → walk_of purpose S w k n
      ≡ both (counted purpose (step_outcome w S.header.locations S.header.denominator k)) (walk_of purpose S (pass_on w k) (k + 1) m)
  unfolding walk
  walk_first w k n m e = rw e

  -- ready again, over a work space in which maps before steps are changed
  again : {w w' : List ℕ} {k : ℕ} {inside : List (ℕ × ℕ)} {vars : List ℕ} {Γ : Env} {pre : Map} {e : Expr}
      → ChangedWithin pres_at (pres_at + 256) w w' → HoldsSplit w S → pres_at + 256 ≤ length w → Here w (length P.procedures) k inside vars e
      → Scoped S Γ inside vars
      → (m : MapNumber) → Stands w S m pre → cell w' pres_at k ≡ m.0 → k + size e ≤ length S.rows
      → Ready S P R few w' k inside vars Γ pre e
  again x H long at C m p q h = record {
    split = split_kept_by_pres few x H;
    here = here_kept x (omega arith) at;
    scoped = C;
    pre_stands = rw (map_number q) (stands_kept x p);
    room = h;
    long = rw x.long long;
  }

  module _ {w : List ℕ} {k : ℕ} {inside : List (ℕ × ℕ)} {vars : List ℕ} {Γ : Env} {pre : Map} where
    module _ (x : UnaryWord) (l : Position) (v : ℕ) (e₁ : Expr) (r : Ready S P R few w k inside vars Γ pre (unary x l v e₁)) where
      unary_changed : ChangedWithin pres_at (pres_at + (k + size (unary x l v e₁))) w (pass_on w k)
      unfolding size
      unary_changed =
          rw (unary_passes S P R few x l v e₁ r)
          (put_before w (k + 1) (k + suc (size e₁)) _ (omega (arith, size_positive e₁)))

      part_ready : Ready S P R few (pass_on w k) (k + 1) inside vars Γ (pre_of_part x pre (post S (unary x l v e₁))) e₁
      unfolding size
      part_ready =
          again (changed_wider pres_at (pres_at + 256) (omega arith) (omega (arith, r.room)) unary_changed) r.split r.long
          (here_part x l v e₁ r.here) r.scoped
          (part_number w k x) (part_stands S P R few x l v e₁ r)
          (rw (unary_passes S P R few x l v e₁ r) (put_at w (k + 1) _ (omega (arith, size_positive e₁, r.room)) r.long))
          (omega (arith, r.room))

      unary_walked : (m : ℕ) → Walked (pass_on w k) (k + 1) m Γ (pre_of_part x pre (post S (unary x l v e₁))) e₁
          → Walked w k m Γ pre (unary x l v e₁)
      unfolding size step_contexts
      unary_walked m t = record {
        after = t.after;
        changed =
            changed_then pres_at _ unary_changed (changed_wider pres_at (pres_at + (k + suc (size e₁)))
            (omega arith) (omega arith) t.changed);
        walks =
            let end : k + 1 + size e₁ ≡ k + suc (size e₁) = omega arith in
            walk_first w k (suc (size e₁) + m) (size e₁ + m) (omega arith)
            ∙ rw (
              step_counted S P R few purpose (unary x l v e₁) r,
              t.walks,
              end,
              claims_first purpose S (record { Γ = Γ; pre = pre; step = unary x l v e₁ }),
              both_assoc,
            );
      }

    module _ (x : BinaryWord) (l : Position) (v : ℕ) (e₁ e₂ : Expr) (r : Ready S P R few w k inside vars Γ pre (binary x l v e₁ e₂)) where
      binary_changed : ChangedWithin pres_at (pres_at + (k + size (binary x l v e₁ e₂))) w (pass_on w k)
      unfolding size
      binary_changed =
          rw (binary_passes S P R few x l v e₁ e₂ r)
          (changed_then pres_at _
          (put_before w (k + 1) (k + suc (size e₁ + size e₂)) _ (omega (arith, size_positive e₁, size_positive e₂)))
          (put_before _ (k + 1 + size e₁) (k + suc (size e₁ + size e₂)) _ (omega (arith, size_positive e₂))))

      binary_within : ChangedWithin pres_at (pres_at + 256) w (pass_on w k)
      binary_within = changed_wider pres_at (pres_at + 256) (omega arith) (omega (arith, r.room)) binary_changed

      first_ready : Ready S P R few (pass_on w k) (k + 1) inside vars Γ pre e₁
      unfolding size
      first_ready =
          again binary_within r.split r.long (here_first x l v e₁ e₂ r.here) r.scoped
          (pre_number w k) r.pre_stands
          (rw (binary_passes S P R few x l v e₁ e₂ r)
          (put_other _ (k + 1 + size e₁) (k + 1) _ (λ e. omega (arith, size_positive e₁))
          ∙ put_at w (k + 1) _ (omega (arith, size_positive e₁, r.room)) r.long))
          (omega (arith, r.room))

      -- the map before the second part, and the types of the variables there
      abbrev pre₂ : Map
      pre₂ = pre_of_second x pre (post S e₁) (body_start S (binary x l v e₁ e₂))

      abbrev Γ₂ : Env
      Γ₂ = binding (role (Binary x)) (v, type S e₁) Γ

      second_ready : (m : ℕ) → (t : Walked (pass_on w k) (k + 1) m Γ pre e₁)
          → Ready S P R few t.after (k + 1 + size e₁) (binding (role (Binary x)) (v, k) inside) (binding (role (Binary x)) v vars) Γ₂ pre₂ e₂
      unfolding size type
      second_ready m t =
          let h₁ : k + 1 < length S.rows = omega (arith, size_positive e₁, r.room) in
          let index₁ : index_of e₁ ≡ k + 1 = here_index e₁ (here_first x l v e₁ e₂ r.here) in
          again
          (changed_then pres_at (pres_at + 256) binary_within
          (changed_wider pres_at (pres_at + 256) (omega arith) (omega (arith, r.room)) t.changed))
          r.split r.long (here_second x l v e₁ e₂ r.here)
          (scoped_second S Γ inside vars r.scoped v k (type S e₁)
          (by_let h₁ (ap (λ (d : Row). d.type) (sym (row_at w S P r.split R e₁ (k + 1) index₁ h₁)))) (role (Binary x)))
          (second_number w k x) (second_stands S P R few x l v e₁ e₂ r)
          (t.changed.kept (pres_at + (k + 1 + size e₁)) (inr (omega arith))
          ∙ rw (binary_passes S P R few x l v e₁ e₂ r)
          (put_at _ (k + 1 + size e₁) _ (omega (arith, size_positive e₂, r.room))
          (rw (put_before w (k + 1) (k + 2) (pre_number w k) (omega arith)).long r.long)))
          (omega (arith, r.room))

      binary_walked : (m : ℕ) (t : Walked (pass_on w k) (k + 1) (size e₂ + m) Γ pre e₁)
          → Walked t.after (k + 1 + size e₁) m Γ₂ pre₂ e₂
          → Walked w k m Γ pre (binary x l v e₁ e₂)
      unfolding size step_contexts
      binary_walked m t u = record {
        after = u.after;
        changed =
            changed_then pres_at _ binary_changed
            (changed_then pres_at _
            (changed_wider pres_at (pres_at + (k + suc (size e₁ + size e₂))) (omega arith) (omega arith) t.changed)
            (changed_wider pres_at (pres_at + (k + suc (size e₁ + size e₂))) (omega arith) (omega arith) u.changed));
        walks =
            let end : k + 1 + size e₁ + size e₂ ≡ k + suc (size e₁ + size e₂) = omega arith in
            walk_first w k (suc (size e₁ + size e₂) + m) (size e₁ + (size e₂ + m)) (omega arith)
            ∙ rw (
              step_counted S P R few purpose (binary x l v e₁ e₂) r,
              t.walks,
              u.walks,
              claims_first purpose S (record { Γ = Γ; pre = pre; step = binary x l v e₁ e₂ }),
              claims_append purpose S,
              both_assoc,
              both_assoc,
              end,
            );
      }

  walked : {w : List ℕ} {k : ℕ} {inside : List (ℕ × ℕ)} {vars : List ℕ} {Γ : Env} {pre : Map} (e : Expr) (m : ℕ)
      → Ready S P R few w k inside vars Γ pre e → Walked w k m Γ pre e
  unfolding size step_contexts
  walked {w} {k} {inside} {vars} {Γ} {pre} (leaf x l v) m r = record {
    after = w;
    changed = changed_nothing pres_at _ w;
    walks =
        walk_first w k (1 + m) m (omega arith)
        ∙ rw (step_counted S P R few purpose (leaf x l v) r, leaf_passes S P R few x l v r, claims_one purpose S);
  }
  walked {w} {k} (unary x l v e₁) m r =
      unary_walked x l v e₁ r m (walked {w = pass_on w k} {k = k + 1} e₁ m (part_ready x l v e₁ r))
  walked {w} {k} (binary x l v e₁ e₂) m r =
      let t = walked {w = pass_on w k} {k = k + 1} e₁ (size e₂ + m) (first_ready x l v e₁ e₂ r) in
      binary_walked x l v e₁ e₂ r m t
      (walked {w = t.after} {k = k + 1 + size e₁} e₂ m (second_ready x l v e₁ e₂ r (size e₂ + m) t))

  -- an expression that stands at index k, once the map before it is noted there
  pub expression_shown : {w : List ℕ} {k : ℕ} {inside : List (ℕ × ℕ)} {vars : List ℕ} {Γ : Env} {pre : Map} (e : Expr)
      → HoldsSplit w S → pres_at + 256 ≤ length w → Here w (length P.procedures) k inside vars e → Scoped S Γ inside vars
      → (m : MapNumber) → Stands w S m pre → k + size e ≤ length S.rows → (n : ℕ) → n ≡ size e
      → walk_of purpose S (put_pre w k m) k n ≡ first_asked purpose (claims S (step_contexts S Γ pre e))
  unfolding walk
  expression_shown {w} {k} {Γ = Γ} {pre = pre} e H long at C m p h n sized =
      let whole : n ≡ size e + 0 = omega arith in
      rw whole
      ((walked e 0
      (again (put_within w k m) H long at C m p (put_at w k m (omega (arith, size_positive e, few)) long) h)).walks
      ∙ both_met (first_asked purpose (claims S (step_contexts S Γ pre e))))
