-- The conditions of each word, from what the work space shows of a step, are those of the documents' table; so are those of a
-- `proc` line.
use mathlib.Core.Path.{◌≡◌, refl, sym, ap, ◌∙◌}
use mathlib.Core.List.{List}
use Prim.Native.Nat.{ℕ, zero, suc, ◌<◌}
use native.Mathlib.Omega.{arith}
use lib.Dec.{leb, ltb}
use lib.ListN.{length}
use borrow.Author.Tests.{le-leb, lt-ltb}
use Rattle.spec.specs.Words.{role}
use Rattle.spec.specs.Expression.{Expr, leaf, unary, binary, Position, Procedure}
use Rattle.spec.specs.Program.{Program}
use Rattle.spec.specs.Split.{Map, Split}
use Rattle.spec.specs.declared.Signature.{Signature}
use Rattle.spec.specs.Maps.{share}
use Rattle.spec.specs.Kinds.{ref_location, first_map, second_map}
use Rattle.spec.specs.Conditions.{Env, map_at, may_show, contains, type, kind, post, body_start, kept_back, signature, conditions_by, conditions_of, procedure_conditions}
use Rattle.spec.specs.Agreement.{agree}
use Rattle.spec.specs.Ranges.{InRange}
use Rattle.spec.specs.declared.MapNumber.{MapNumber}
use Rattle.spec.specs.declared.TypeNumber.{TypeNumber}
use Rattle.spec.specs.declared.LeafWord.{LeafWord}
use Rattle.spec.specs.declared.LeafWord.TheVariants.{Var, Int, Newtid, Newlock, Newsem, Newrwlock}
use Rattle.spec.specs.declared.UnaryWord.{UnaryWord}
use Rattle.spec.specs.declared.UnaryWord.TheVariants.{While, Join, Ref, Read, Lock, Unlock, Post, Wait, Rdlock, Rdunlock, Wrlock, Wrunlock, Call}
use Rattle.spec.specs.declared.BinaryWord.{BinaryWord}
use Rattle.spec.specs.declared.BinaryWord.TheVariants.{Let, If, Spawn, Write}
use Rattle.spec.proofs.Fits.{place_fits}
use Rattle.workspace.specs.Layout as layout
use Rattle.workspace.specs.Layout.{map_cell, printed, rule_of, leaf_code, unary_code, binary_code}
use Rattle.workspace.specs.Holds.{HoldsSplit}
use Rattle.workspace.proofs.Shown.{Stands, type_shown, first_stands, second_stands, has_shown}
use Rattle.conditions.specs.Agreement.{agree_in, may_show_in}
use Rattle.rule_rows.specs.declared.StepView.{StepView}
use Rattle.rule_rows.proofs.Views.{Part, Signed, Bound}
use Rattle.rule_rows.specs.Table.{rule_row, procedure_row}
use Rattle.conditions.proofs.Agreement.{agree_shown, may_show_shown, contains_shown}
use Rattle.conditions.proofs.Shown.{equal_shown as equal, at_least_shown as at_least_lem, covers_shown as covers, sum_shown as sum, is_sum_shown as is_sum}

-- "> 0" is "≥ 1"
some_is_one : (x : ℕ) → leb 1 x ≡ ltb 0 x
some_is_one zero = refl
some_is_one (suc x) = le-leb 1 (suc x) (omega arith) ∙ sym (lt-ltb 0 (suc x) (omega arith))

module _ (w : List ℕ) (S : Split) (P : Program) (H : HoldsSplit w S) (R : InRange P S)
    (s : StepView) (located : s.locations ≡ S.header.locations) (divided : s.denominator ≡ S.header.denominator)
    (Γ : Env) (pre : Map) (pre_stands : Stands w S s.pre pre) (l : Position) (v : ℕ) where
  -- ---------------------------------------------------------------- types and maps that the view shows

  typed_as : {t : TypeNumber} {m : MapNumber} (e : Expr) → Part w S t m e → layout.type_at w t ≡ kind S e
  unfolding kind type
  typed_as e p = ap (layout.type_at w) p.typed ∙ type_shown w S P H R _ p.type_in_lem

  -- the maps that a part's type shows
  first : {t : TypeNumber} {m : MapNumber} (e : Expr) → Part w S t m e → Stands w S (first_map (layout.type_at w t)) (map_at S (first_map (kind S e)))
  unfolding kind type
  first e p = rw p.typed (first_stands w S P H R _ p.type_in_lem)

  second : {t : TypeNumber} {m : MapNumber} (e : Expr) → Part w S t m e → Stands w S (second_map (layout.type_at w t)) (map_at S (second_map (kind S e)))
  unfolding kind type
  second e p = rw p.typed (second_stands w S P H R _ p.type_in_lem)

  -- ---------------------------------------------------------------- flow and access

  shares : {t u : TypeNumber} {m n : MapNumber} (e e₁ : Expr) → Part w S t m e → Part w S u n e₁
      → map_cell w m (ref_location (kind S e₁)).0 ≡ share (post S e) (ref_location (kind S e₁))
  unfolding kind type
  shares e e₁ o f = has_shown w S P H R _ o.posted (place_fits R _)

  -- ---------------------------------------------------------------- agreement

  agrees : {t u : TypeNumber} {m : MapNumber} (e : Expr) (x : TypeNumber) → Part w S t m e → u ≡ x → x.0 < length S.types
      → agree_in w s.locations t u ≡ agree S (type S e) x
  unfolding type
  agrees e x p q h = rw (p.typed, q) (agree_shown w S P H R s.locations located _ _ p.type_in_lem h)

  shows : {t u : TypeNumber} {m : MapNumber} (e : Expr) (x : TypeNumber) → Part w S t m e → u ≡ x → x.0 < length S.types
      → may_show_in w s.locations t u ≡ may_show S (type S e) x
  unfolding type
  shows e x p q h = rw (p.typed, q) (may_show_shown w S P H R s.locations located _ _ p.type_in_lem h)

  holds_content : {t u : TypeNumber} {m n : MapNumber} (e e₁ : Expr) → Part w S t m e → Part w S u n e₁
      → contains (agree_in w s.locations) (layout.type_at w t) u ≡ contains (agree S) (kind S e) (type S e₁)
  unfolding type kind
  holds_content e e₁ p q = rw (typed_as e p, q.typed) (contains_shown w S P H R s.locations located _ _ p.type_in_lem q.type_in_lem)

  -- ---------------------------------------------------------------- the table

  pub leaf_shown_lem : (x : LeafWord) → Part w S s.typed s.post (leaf x l v) → Bound S x s Γ v
      → rule_row (rule_of (leaf_code x)) w s ≡ conditions_of S Γ pre (leaf x l v)
  unfolding printed rule_of role rule_row conditions_by conditions_of type
  leaf_shown_lem Var o b = rw (equal located o.posted pre_stands, shows _ _ o (b.variable refl).0 (b.variable refl).1)
  leaf_shown_lem Int o b = rw (equal located o.posted pre_stands, typed_as _ o)
  leaf_shown_lem Newtid o b = rw (equal located o.posted pre_stands, typed_as _ o)
  leaf_shown_lem Newlock o b = rw (sum located o.posted (second _ o) pre_stands, typed_as _ o)
  leaf_shown_lem Newsem o b = rw (equal located o.posted pre_stands, typed_as _ o)
  leaf_shown_lem Newrwlock o b =
      rw (
        covers located (second _ o) (first _ o) s.value,
        sum located o.posted (second _ o) pre_stands,
        typed_as _ o,
        b.number,
      )

  module _ (e₁ : Expr) (f : Part w S s.type1 s.post1 e₁) where
    -- a `call` shows the signature of its procedure
    pub unary_shown_lem : (x : UnaryWord) → Part w S s.typed s.post (unary x l v e₁)
        → Stands w S s.start (body_start S (unary x l v e₁)) → (x ≡ Call → Signed w S s.signature (signature S v))
        → rule_row (rule_of (unary_code x)) w s ≡ conditions_of S Γ pre (unary x l v e₁)
    unfolding printed rule_of rule_row conditions_by conditions_of type kept_back
    unary_shown_lem While o b c =
        rw (at_least_lem located pre_stands o.posted, at_least_lem located f.posted o.posted, typed_as _ o)
    unary_shown_lem Join o b c =
        rw (is_sum located f.posted (first _ f) o.posted, typed_as _ o, typed_as _ f)
    unary_shown_lem Ref o b c =
        rw (equal located o.posted f.posted, holds_content _ _ o f)
    unary_shown_lem Read o b c =
        rw (
          equal located o.posted f.posted,
          holds_content _ _ f o,
          typed_as _ f,
          some_is_one,
          shares _ _ o f,
        )
    unary_shown_lem Lock o b c =
        rw (is_sum located f.posted (first _ f) o.posted, typed_as _ o, typed_as _ f)
    unary_shown_lem Unlock o b c =
        rw (sum located o.posted (second _ f) f.posted, typed_as _ o, typed_as _ f)
    unary_shown_lem Post o b c =
        rw (sum located o.posted (first _ f) f.posted, typed_as _ o, typed_as _ f)
    unary_shown_lem Wait o b c =
        rw (is_sum located f.posted (first _ f) o.posted, typed_as _ o, typed_as _ f)
    unary_shown_lem Rdlock o b c =
        rw (is_sum located f.posted (first _ f) o.posted, typed_as _ o, typed_as _ f)
    unary_shown_lem Rdunlock o b c =
        rw (sum located o.posted (first _ f) f.posted, typed_as _ o, typed_as _ f)
    unary_shown_lem Wrlock o b c =
        rw (is_sum located f.posted (second _ f) o.posted, typed_as _ o, typed_as _ f)
    unary_shown_lem Wrunlock o b c =
        rw (sum located o.posted (second _ f) f.posted, typed_as _ o, typed_as _ f)
    unary_shown_lem Call o b c =
        let g = c refl in
        rw (
          is_sum located g.before_stands b f.posted,
          is_sum located g.after_stands b o.posted,
          agrees _ _ o g.result_is g.result_in,
          agrees _ _ f g.argument_is g.argument_in,
        )

    module _ (e₂ : Expr) (g : Part w S s.type2 s.post2 e₂) where
      pub binary_shown_lem : (x : BinaryWord) → Part w S s.typed s.post (binary x l v e₁ e₂)
          → Stands w S s.start (body_start S (binary x l v e₁ e₂))
          → rule_row (rule_of (binary_code x)) w s ≡ conditions_of S Γ pre (binary x l v e₁ e₂)
      unfolding printed rule_of rule_row conditions_by conditions_of type
      binary_shown_lem Let o b =
          rw (equal located o.posted g.posted, agrees _ _ o g.typed g.type_in_lem)
      binary_shown_lem If o b =
          rw (
            at_least_lem located f.posted o.posted,
            at_least_lem located g.posted o.posted,
            agrees _ _ o f.typed f.type_in_lem,
            agrees _ _ o g.typed g.type_in_lem,
          )
      binary_shown_lem Spawn o b =
          rw (
            at_least_lem located g.posted (first _ f),
            sum located o.posted b f.posted,
            typed_as _ o,
            typed_as _ f,
          )
      binary_shown_lem Write o b =
          rw (
            equal located o.posted g.posted,
            divided,
            holds_content _ _ f g,
            typed_as _ o,
            typed_as _ f,
            shares _ _ o f,
          )

-- the conditions at a `proc` line
pub procedure_shown : (w : List ℕ) (S : Split) (P : Program) → HoldsSplit w S → InRange P S → (n : ℕ) → n ≡ S.header.locations
    → (r : Signature) (g : Signature) → Signed w S r g → (p : Procedure) (t : TypeNumber) (m : MapNumber) → Part w S t m p.body
    → procedure_row w n r t m ≡ procedure_conditions S g p
unfolding procedure_conditions type
procedure_shown w S P H R n located r g s p t m o =
    rw (
      at_least_lem located o.posted s.after_stands,
      o.typed,
      s.result_is,
      agree_shown w S P H R n located _ _ o.type_in_lem s.result_in,
    )
