-- What the view of a step shows: the rows of the step and of its parts, the type of its variable, the signature of its
-- procedure.
use mathlib.Core.Path.{◌≡◌, refl, sym, ap, ◌∙◌}
use mathlib.Core.List.{List}
use Prim.Native.Nat.{ℕ, ◌+◌, ◌<◌, ◌≤◌}
use native.Mathlib.Omega.{arith}
use lib.ListN.{length, get_or}
use borrow.Author.Tests.{lt-ltb, le-ltb}
use Rattle.spec.specs.Expression.{Position, Expr, leaf, index_of}
use Rattle.spec.specs.Program.{Program}
use Rattle.spec.specs.Split.{Row, Split, no_row}
use Rattle.spec.specs.declared.Signature.{Signature}
use Rattle.spec.specs.Conditions.{Env, map_at, type_in, row, post, body_start, signature}
use Rattle.spec.specs.Words.{role}
use Rattle.spec.specs.Ranges.{InRange}
use Rattle.spec.specs.declared.MapNumber.{MapNumber}
use Rattle.spec.specs.declared.TypeNumber.{TypeNumber}
use Rattle.spec.specs.declared.LeafWord.{LeafWord}
use Rattle.spec.specs.declared.Role.TheVariants.{Uses}
use Rattle.spec.specs.declared.Word.TheVariants.{Leaf}
use Rattle.workspace.specs.Layout.{values_at, ends_at, proc_mark, row_types_at, posts_at, sig_arguments_at}
use Rattle.workspace.specs.Holds.{HoldsSplit}
use Rattle.workspace.proofs.Region.{column}
use Rattle.workspace.proofs.Shown.{type_number, Stands, row_at, row_type_lem, post_at, start_at, argument_shown, argument_in, result_shown, result_in, before_at, after_at}
use Rattle.workspace.proofs.Expression.{Here, leaf_number_lem, here_used, here_let}
use Rattle.rule_rows.specs.StepView.{cell, signature_of, bound_of, view_of}
use Rattle.rule_rows.specs.declared.StepView.{StepView}
use Rattle.rule_rows.proofs.Scopes.{BoundBy, by_let, by_procedure, Scoped}

-- a type and a map that a view shows are the type and the post of an expression
pub record Part (w : List ℕ) (S : Split) (t : TypeNumber) (m : MapNumber) (e : Expr) : Type 0 where
  pub typed : t ≡ (row S e).type
  pub type_in_lem : (row S e).type.0 < length S.types
  pub posted : Stands w S m (post S e)

-- a signature that the work space shows is one of the split
pub record Signed (w : List ℕ) (S : Split) (r : Signature) (g : Signature) : Type 0 where
  pub before_stands : Stands w S r.before (map_at S g.before)
  pub argument_is : r.argument ≡ g.argument
  pub argument_in : g.argument.0 < length S.types
  pub after_stands : Stands w S r.after (map_at S g.after)
  pub result_is : r.result ≡ g.result
  pub result_in : g.result.0 < length S.types

-- a step without parts shows its number, and if it uses a variable, the type of its let's e1 or of its procedure's argument
pub record Bound (S : Split) (x : LeafWord) (s : StepView) (Γ : Env) (v : ℕ) : Type 0 where
  pub number : s.value ≡ v
  pub variable : role (Leaf x) ≡ Uses → (s.bound ≡ type_in Γ v) × ((type_in Γ v).0 < length S.types)

module _ (w : List ℕ) (S : Split) (P : Program) (H : HoldsSplit w S) (R : InRange P S) where
  -- the numbers of a row are in range
  module _ (e : Expr) (i : ℕ) (index : index_of e ≡ i) (h : i < length S.rows) where
    row_type_in : (row S e).type.0 < length S.types
    row_type_in = rw (row_at w S P H R e i index h) at (R.row_type i no_row h)

    pub part_at : {t m : ℕ} → t ≡ cell w row_types_at i → m ≡ cell w posts_at i → Part w S (record { 0 = t }) (record { 0 = m }) e
    part_at p q = record {
      typed = type_number (p ∙ row_type_lem w S P H R e i index h);
      type_in_lem = row_type_in;
      posted = post_at w S P H R e i index h q;
    }

  pub signed : (f : ℕ) → f < length S.signatures → Signed w S (signature_of w f) (signature S f)
  signed f h = record {
    before_stands = before_at w S P H R f h refl;
    argument_is = type_number (argument_shown w S P H R f h);
    argument_in = argument_in w S P H R f h;
    after_stands = after_at w S P H R f h refl;
    result_is = type_number (result_shown w S P H R f h);
    result_in = result_in w S P H R f h;
  }

  module _ (few : length S.rows ≤ 256) where
    bound_typed : (b : ℕ) (t : TypeNumber) → BoundBy S b t → (bound_of w b ≡ t) × (t.0 < length S.types)
    unfolding bound_of
    bound_typed b t (by_let h e) = (
      rw (lt-ltb b proc_mark (omega (arith, few)))
          (type_number
          (ap (λ (i : ℕ). get_or w i 0) (omega arith)
          ∙ column w row_types_at (λ (r : Row). r.type.0) S.rows no_row (b + 1) H.row_types h
          ∙ sym (ap (λ (t : TypeNumber). t.0) e))),
      rw e (R.row_type _ no_row h),
    )
    bound_typed b t (by_procedure f q h e) = (
      rw (le-ltb b proc_mark (omega arith))
          (type_number
          (ap (cell w sig_arguments_at) (omega arith)
          ∙ argument_shown w S P H R f h
          ∙ sym (ap (λ (t : TypeNumber). t.0) e))),
      rw e (argument_in w S P H R f h),
    )

  module _ (n d k : ℕ) where
    pub own_part : (e : Expr) → index_of e ≡ k → k < length S.rows → Part w S (view_of w n d k).typed (view_of w n d k).post e
    own_part e index h = part_at e k index h refl refl

    pub first_part : (e : Expr) → index_of e ≡ k + 1 → k + 1 < length S.rows
        → Part w S (view_of w n d k).type1 (view_of w n d k).post1 e
    first_part e index h =
        part_at e (k + 1) index h (ap (λ (i : ℕ). get_or w i 0) (omega arith)) (ap (λ (i : ℕ). get_or w i 0) (omega arith))

    pub second_part_lem : (e : Expr) (j : ℕ) → cell w (ends_at + 1) k ≡ j → index_of e ≡ j → j < length S.rows
        → Part w S (view_of w n d k).type2 (view_of w n d k).post2 e
    second_part_lem e j q index h = part_at e j index h (ap (cell w row_types_at) q) (ap (cell w posts_at) q)

    pub started : (e : Expr) → index_of e ≡ k → k < length S.rows → Stands w S (view_of w n d k).start (body_start S e)
    started e index h = start_at w S P H R e k index h

    pub called : (f : ℕ) → cell w values_at k ≡ f → f < length S.signatures → Signed w S (view_of w n d k).signature (signature S f)
    called f q h = rw q (signed f h)

    pub bound_shown : length S.rows ≤ 256 → (x : LeafWord) (l : Position) (v : ℕ) {Γ : Env} {inside : List (ℕ × ℕ)} {vars : List ℕ} {count : ℕ}
        → Here w count k inside vars (leaf x l v) → Scoped S Γ inside vars → Bound S x (view_of w n d k) Γ v
    bound_shown few x l v here C = record {
      number = leaf_number_lem x l v here;
      variable = λ u.
          let t = bound_typed few _ _ (C.bound v (here_used x l v u here)) in
          (ap (bound_of w) (here_let x l v u here) ∙ t.0, t.1);
    }
