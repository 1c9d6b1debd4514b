-- Laws of where stored steps end. A step ends where its parts end; steps one after the other end where the last one ends.
use Rattle.std.proofs.Common.{Option, None, Some, ok_or, Result}
use Rattle.std.proofs.lemmas.Option.{none-some, same_Some}
use mathlib.Core.Path.{◌≡◌, refl, sym, ap, ◌∙◌}
use mathlib.Core.Logic.{inl}
use mathlib.Core.List.{List, [], ◌∷◌, ◌++◌, append-nil}
use Prim.Native.Nat.{ℕ, suc, ◌+◌, ◌-◌, ◌<◌, ◌≤◌}
use native.Mathlib.Omega.{arith}
use lib.ListN.{length, get_or, set}
use Rattle.spec.specs.Expression.{Position, Expr, size, with_parts, listed}
use Rattle.spec.specs.declared.Word.{Word}
use Rattle.spec.specs.declared.Word.TheVariants.{Leaf, Unary, Binary}
use Rattle.workspace.specs.Layout.{work_size, ends_at, step_room, word_of, words_at}
use Rattle.workspace.specs.Holds.{ends}
use Rattle.spec.proofs.Listing.{size_positive}
use Rattle.workspace.proofs.Held.{ends_length}
use Rattle.workspace.specs.Region.{Region, ChangedWithin}
use Rattle.workspace.proofs.Steps.{steps_drop, steps_kept_beside}
use Rattle.workspace.proofs.Region.{region_empty, region_front, region_append, region_kept, changed_nothing, changed_store, changed_then, changed_wider}
use Rattle.workspace.specs.Steps.{word_at, value_at, step_line_at, steps_from}
use Rattle.spec.specs.declared.Refusal.{Refusal}
use Rattle.spec.specs.declared.Refusal.TheVariants.{ProgramLines}
use Rattle.program_tree.specs.declared.Stored.{Stored}
use Rattle.program_tree.specs.Trees.{limit_at, break_line, ExpressionAnswer, ExpressionFound}
use Rattle.program_tree.specs.Structure.{parts_of, listed_from, reached, ends_of, Ended}
use Rattle.program_tree.proofs.Listed.{behind_first}

-- ------------------------------------------------------------------ a step and its parts

step_reached : (x : Word) (l : Position) (v k : ℕ) (es : List Expr) → reached 1 k (with_parts x l v es) ≡ reached (parts_of x) (k + 1) es
unfolding with_parts reached size
step_reached (Leaf w) l v k es = refl
step_reached (Unary w) l v k [] = refl
step_reached (Unary w) l v k (e ∷ es) = ap Some (omega arith)
step_reached (Binary w) l v k [] = refl
step_reached (Binary w) l v k (e₁ ∷ []) = refl
step_reached (Binary w) l v k (e₁ ∷ e₂ ∷ es) = ap Some (omega arith)

step_ends : (x : Word) (l : Position) (v k : ℕ) (es : List Expr) (e : ℕ) → reached (parts_of x) (k + 1) es ≡ Some e
    → ends_of 1 k (with_parts x l v es) ≡ e ∷ ends_of (parts_of x) (k + 1) es
unfolding with_parts reached ends_of ends size
step_ends (Leaf w) l v k es e p = ap (λ i. i ∷ []) (same_Some _ _ p)
step_ends (Unary w) l v k [] e p = absurd (none-some _ p)
step_ends (Unary w) l v k (x ∷ es) e p = let q : k + suc (size x) ≡ e = omega (arith, same_Some _ _ p) in rw q refl
step_ends (Binary w) l v k [] e p = absurd (none-some _ p)
step_ends (Binary w) l v k (x ∷ []) e p = absurd (none-some _ p)
step_ends (Binary w) l v k (x ∷ y ∷ es) e p =
    let q : k + suc (size x + size y) ≡ e = omega (arith, same_Some _ _ p) in
    rw (q, append-nil (ends (k + 1) x ++ ends (k + 1 + size x) y), append-nil (ends (k + 1 + size x) y)) refl

step_unended : (x : Word) (l : Position) (v k : ℕ) (es : List Expr) → reached (parts_of x) (k + 1) es ≡ None → ends_of 1 k (with_parts x l v es) ≡ []
unfolding with_parts reached ends_of
step_unended (Leaf w) l v k es p = absurd (none-some _ (sym p))
step_unended (Unary w) l v k [] p = refl
step_unended (Unary w) l v k (x ∷ es) p = absurd (none-some _ (sym p))
step_unended (Binary w) l v k [] p = refl
step_unended (Binary w) l v k (x ∷ []) p = refl
step_unended (Binary w) l v k (x ∷ y ∷ es) p = absurd (none-some _ (sym p))

-- ------------------------------------------------------------------ what is stored

-- where the step at index k stands
abbrev position_at : List ℕ → (k : ℕ) → Position
position_at w k = record { index = k; line = step_line_at w k }

listed_step : (w : List ℕ) (n k : ℕ) → k < n
    → listed_from w n k ≡ with_parts (word_at w k) (position_at w k) (value_at w k) (listed_from w n (k + 1))
unfolding listed_from steps_from listed
listed_step w n k h = let e : n - k ≡ suc (n - (k + 1)) = omega arith in rw e refl

listed_none : (w : List ℕ) (n k : ℕ) → n ≤ k → listed_from w n k ≡ []
unfolding listed_from steps_from listed
listed_none w n k h = let e : n - k ≡ 0 = omega arith in rw e refl

listed_behind : (w : List ℕ) (n k : ℕ) (e : Expr) (es : List Expr) → listed_from w n k ≡ e ∷ es → es ≡ listed_from w n (k + size e)
unfolding listed_from
listed_behind w n k e es p =
    let m : n - k - size e ≡ n - (k + size e) = omega arith in
    behind_first k (steps_from w k (n - k)) e es p ∙ rw (steps_drop w k (n - k) (size e), m) refl

-- storing ends leaves what is listed as it is
listed_kept : (w w' : List ℕ) (a : ℕ) → ChangedWithin (ends_at + a) (ends_at + step_room) w w' → (n k : ℕ) → n ≤ step_room → k ≤ n
    → listed_from w' n k ≡ listed_from w n k
unfolding listed_from
listed_kept w w' a x n k h l = rw (steps_kept_beside x (inl (omega arith, omega arith)) k (n - k) (omega arith)) refl

-- ------------------------------------------------------------------ where reading ends

-- one step that ends is the first expression listed; one that does not end is no expression
first_of : (k e : ℕ) (es : List Expr) → Some e ≡ reached 1 k es → (f : Expr) × (fs : List Expr) × (es ≡ f ∷ fs) × (e ≡ k + size f)
unfolding reached
first_of k e [] p = absurd (none-some _ (sym p))
first_of k e (f ∷ fs) p = (f, fs, refl, same_Some _ _ p)

none_of : (k : ℕ) (es : List Expr) → None ≡ reached 1 k es → es ≡ []
unfolding reached
none_of k [] p = refl
none_of k (f ∷ fs) p = absurd (none-some _ p)

pub past : {n k e : ℕ} {w w' : List ℕ} → Ended n 1 k w w' (Some e) → k < e
past {n} {k} {e} {w} x = let f = first_of k e (listed_from w n k) x.answer in omega (arith, f.3, size_positive f.0)

-- ------------------------------------------------------------------ reading steps one after the other

module _ {n k : ℕ} {w : List ℕ} (long : length w ≡ work_size) (few : n ≤ step_room) (hk : k ≤ n) where
  pub parts_none : Ended n 0 k w w (Some k)
  unfolding reached ends_of
  parts_none = record {
    answer = refl;
    marks = region_empty w (ends_at + k) (omega (arith, long, few));
    changed = changed_nothing (ends_at + k) (ends_at + step_room) w;
  }

  -- the first of them is unfinished
  pub parts_open : {w₁ : List ℕ} (m : ℕ) → Ended n 1 k w w₁ None → Ended n (suc m) k w w₁ None
  unfolding reached ends_of
  parts_open {w₁} m x =
      let q : listed_from w n k ≡ [] = none_of k (listed_from w n k) x.answer in
      record {
        answer = rw q refl;
        marks = rw q (region_empty w₁ (ends_at + k) (omega (arith, x.changed.long, long, few)));
        changed = x.changed;
      }

  -- the first of them ends at e, where the others begin
  pub parts_more : {m e : ℕ} {w₁ w₂ : List ℕ} {r : Option ℕ} → e ≤ n → Ended n 1 k w w₁ (Some e) → Ended n m e w₁ w₂ r → Ended n (suc m) k w w₂ r
  unfolding reached ends_of
  parts_more {m} {e} {w₁} {w₂} {r} he x y = record {
    answer = rw (q, ← end, ← tail) y.answer;
    marks = rw (q, ← end) (region_append (ends k f) (ends_of m e fs) left right);
    changed = changed_then (ends_at + k) (ends_at + step_room) x.changed
        (changed_wider (ends_at + k) (ends_at + step_room) (omega (arith, end)) (omega arith) y.changed);
  }
    where
      first : (f : Expr) × (fs : List Expr) × (listed_from w n k ≡ f ∷ fs) × (e ≡ k + size f)
      first = first_of k e (listed_from w n k) x.answer

      f : Expr
      f = first.0

      fs : List Expr
      fs = first.1

      q : listed_from w n k ≡ f ∷ fs
      q = first.2

      end : e ≡ k + size f
      end = first.3

      tail : listed_from w₁ n e ≡ fs
      tail = listed_kept w w₁ k x.changed n e few he ∙ ap (listed_from w n) end ∙ sym (listed_behind w n k f fs q)

      left : Region w₂ (ends_at + k) (ends k f)
      left = region_kept y.changed (inl (omega (arith, end, ends_length k f))) (rw (q, append-nil (ends k f)) at x.marks)

      right : Region w₂ (ends_at + k + length (ends k f)) (ends_of m e fs)
      right =
          let o : ends_at + k + length (ends k f) ≡ ends_at + e = omega (arith, end, ends_length k f) in
          rw (o, ← tail) y.marks

-- ------------------------------------------------------------------ reading one step

module _ {n k : ℕ} {w : List ℕ} (long : length w ≡ work_size) (few : n ≤ step_room) where
  pub step_none : k ≤ n → n ≤ k → Ended n 1 k w w None
  unfolding reached ends_of
  step_none l h = record {
    answer = rw (listed_none w n k h) refl;
    marks = rw (listed_none w n k h) (region_empty w (ends_at + k) (omega (arith, long, few)));
    changed = changed_nothing (ends_at + k) (ends_at + step_room) w;
  }

  module _ {x : Word} {w₁ : List ℕ} {r : Option ℕ} (l : k < n) (is : x ≡ word_of (get_or w (words_at + k) 0)) (parts : Ended n (parts_of x) (k + 1) w w₁ r) where
    listed_here : listed_from w n k ≡ with_parts x (position_at w k) (value_at w k) (listed_from w n (k + 1))
    unfolding word_at
    listed_here = rw is (listed_step w n k l)

    answer : r ≡ reached 1 k (listed_from w n k)
    answer = rw (listed_here, step_reached x (position_at w k) (value_at w k) k (listed_from w n (k + 1))) parts.answer

    near : ChangedWithin (ends_at + k) (ends_at + step_room) w w₁
    near = changed_wider (ends_at + k) (ends_at + step_room) (omega arith) (omega arith) parts.changed

    pub step_open : r ≡ None → Ended n 1 k w w₁ None
    step_open p = record {
      answer = rw p at answer;
      marks = rw (listed_here, step_unended x (position_at w k) (value_at w k) k (listed_from w n (k + 1)) (sym parts.answer ∙ p))
          (region_empty w₁ (ends_at + k) (omega (arith, near.long, long, few)));
      changed = near;
    }

    pub step_more : {e : ℕ} → r ≡ Some e → Ended n 1 k w (set w₁ (ends_at + k) e) (Some e)
    step_more {e} p = record {
      answer = rw p at answer;
      marks = rw (listed_here, step_ends x (position_at w k) (value_at w k) k (listed_from w n (k + 1)) e (sym parts.answer ∙ p))
          (region_front w₁ (ends_of (parts_of x) (k + 1) (listed_from w n (k + 1))) (ends_at + k) e (omega (arith, near.long, long, few)) inner);
      changed = changed_then (ends_at + k) (ends_at + step_room) near
          (changed_store (ends_at + k) (ends_at + step_room) w₁ (ends_at + k) e (omega arith) (omega (arith, few)));
    }
      where
        inner : Region w₁ (ends_at + k + 1) (ends_of (parts_of x) (k + 1) (listed_from w n (k + 1)))
        inner = let o : ends_at + k + 1 ≡ ends_at + (k + 1) = omega arith in rw o parts.marks

-- ------------------------------------------------------------------ the expression that is due

-- what is read up to its limit: the first expression of those listed there
pub expression_found : {s : Stored} {i j n line : ℕ} {w w' : List ℕ} {o : Option ℕ} {r : Result ℕ Refusal} → n ≡ limit_at w s j → line ≡ break_line w s j
    → Ended n 1 i w w' o → r ≡ ok_or o (ProgramLines line) → ExpressionFound s i j w w' r
unfolding listed_from reached ends_of
expression_found {s} {i} {j} {n} {line} {w} {w'} {o} {r} limit breaks y is = record {
  found = rw (← limit, ← breaks, is) (answer (listed_from w n i) y.answer y.marks);
  changed = y.changed;
}
  where
    answer : (es : List Expr) → o ≡ reached 1 i es → Region w' (ends_at + i) (ends_of 1 i es) → ExpressionAnswer w' i line (ok_or o (ProgramLines line)) es
    answer [] p m = rw p refl
    answer (e ∷ es) p m = rw p (refl, rw (append-nil (ends i e)) at m)
