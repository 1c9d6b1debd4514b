-- Lists of variables, and the parts of an expression that fits a scope.
use Prim.Native.Nat.{ℕ}
use mathlib.Core.Path.{◌≡◌, refl, sym, ◌∙◌, ap, subst}
use mathlib.Core.Logic.{◌⊎◌, inl, inr}
use mathlib.Core.Bool.{Bool, true, false, ◌||◌}
use mathlib.Core.List.{List, [], ◌∷◌, ◌++◌}
use lib.Dec.{eqb}
use borrow.Author.Tests.{eqb-true, eq-eqb}
use Rattle.spec.specs.Expression.{Position, Expr, unary, binary, among}
use Rattle.spec.specs.WellFormed.{binders, Distinct, UsedInside}
use Rattle.spec.specs.Choice.{when◌then◌else◌}
use Rattle.spec.specs.Words.{calls, role, binding}
use Rattle.spec.specs.declared.Role.TheVariants.{Calls, Neither}
use Rattle.spec.specs.declared.UnaryWord.{UnaryWord}
use Rattle.spec.specs.declared.BinaryWord.TheVariants.{Let}
use Rattle.spec.proofs.Clashes.{true_is_not_false}
use Rattle.replay_machine.specs.Scoped.{Fits}

-- ---- Tests

or_left : (a b : Bool) → a ≡ true → (a || b) ≡ true
or_left true b h = refl
or_left false b h = true_is_not_false (sym h)

or_right : (a b : Bool) → b ≡ true → (a || b) ≡ true
or_right true b h = refl
or_right false b h = h

or_both_false : (a b : Bool) → a ≡ false → b ≡ false → (a || b) ≡ false
or_both_false true b h k = true_is_not_false h
or_both_false false b h k = k

false_unless_true : (b : Bool) → (b ≡ true → ⊥) → b ≡ false
false_unless_true true h = absurd (h refl)
false_unless_true false h = refl

-- ---- Lists of variables

pub among_here : (y : ℕ) (xs : List ℕ) → among y (y ∷ xs) ≡ true
unfolding among
among_here y xs = or_left (eqb y y) (among y xs) (eq-eqb y y refl)

pub among_behind : (y x : ℕ) (xs : List ℕ) → among y xs ≡ true → among y (x ∷ xs) ≡ true
unfolding among
among_behind y x xs h = or_right (eqb y x) (among y xs) h

pub among_left : (y : ℕ) (xs ys : List ℕ) → among y xs ≡ true → among y (xs ++ ys) ≡ true
unfolding among
among_left y [] ys h = true_is_not_false (sym h)
among_left y (x ∷ xs) ys h = by_cases (eqb y x) (among_left y xs ys) h
  where
    by_cases : (b : Bool) → (among y xs ≡ true → among y (xs ++ ys) ≡ true) → (b || among y xs) ≡ true → (b || among y (xs ++ ys)) ≡ true
    by_cases true more k = refl
    by_cases false more k = more k

pub among_right : (y : ℕ) (xs ys : List ℕ) → among y ys ≡ true → among y (xs ++ ys) ≡ true
among_right y [] ys h = h
among_right y (x ∷ xs) ys h = among_behind y x (xs ++ ys) (among_right y xs ys h)

pub among_either : (y : ℕ) (xs ys : List ℕ) → (among y xs ≡ true) ⊎ (among y ys ≡ true) → among y (xs ++ ys) ≡ true
among_either y xs ys (inl h) = among_left y xs ys h
among_either y xs ys (inr h) = among_right y xs ys h

pub distinct_left : (xs ys : List ℕ) → Distinct (xs ++ ys) → Distinct xs
unfolding Distinct
distinct_left [] ys d = tt
distinct_left (x ∷ xs) ys d =
    (false_unless_true (among x xs) (λ q. true_is_not_false (sym (among_left x xs ys q) ∙ d.0)), distinct_left xs ys d.1)

pub distinct_right : (xs ys : List ℕ) → Distinct (xs ++ ys) → Distinct ys
unfolding Distinct
distinct_right [] ys d = d
distinct_right (x ∷ xs) ys d = distinct_right xs ys d.1

-- What is among those bound later is not x, which is bound once.
pub apart_from : (y x : ℕ) (xs : List ℕ) → among y xs ≡ true → among x xs ≡ false → among y (x ∷ []) ≡ false
unfolding among
apart_from y x xs h n =
    or_both_false (eqb y x) false
    (false_unless_true (eqb y x) (λ q. true_is_not_false (sym h ∙ ap (λ (z : ℕ). among z xs) (eqb-true y x q) ∙ n))) refl

-- ---- The parts of an expression that fits a scope

-- A word with one part binds nothing.
pub one_part_binds : (w : UnaryWord) (k : Position) (v : ℕ) (e : Expr) → binders (unary w k v e) ≡ binders e
unfolding binders role binding
one_part_binds w k v e = by_cases (calls w)
  where
    by_cases : (b : Bool) → binding (when b then Calls else Neither) v (binders e) ≡ binders e
    by_cases true = refl
    by_cases false = refl

-- The part of a word with one.
pub part_fits : {I : List ℕ} {k : Position} {v : ℕ} (w : UnaryWord) (e : Expr) → Fits I (unary w k v e) → Fits I e
unfolding UsedInside
part_fits {k = k} {v = v} w e f = record {
  count = f.count;
  used = f.used.1;
  new = λ y h. f.new y (ap (among y) (one_part_binds w k v e) ∙ h);
  once = subst Distinct (one_part_binds w k v e) f.once;
}

-- Both parts of a word that binds nothing.
pub record BothFit (I : List ℕ) (e₁ e₂ : Expr) : Type 0 where
  pub left : Fits I e₁
  pub right : Fits I e₂

pub both_fit : (count : ℕ) (I : List ℕ) (e₁ e₂ : Expr) → UsedInside count I e₁ → UsedInside count I e₂ →
    ((y : ℕ) → among y (binders e₁ ++ binders e₂) ≡ true → among y I ≡ false) → Distinct (binders e₁ ++ binders e₂) → BothFit I e₁ e₂
both_fit count I e₁ e₂ u₁ u₂ new once = record {
  left = record { count = count; used = u₁; new = λ y h. new y (among_left y (binders e₁) (binders e₂) h); once = distinct_left (binders e₁) (binders e₂) once };
  right = record { count = count; used = u₂; new = λ y h. new y (among_right y (binders e₁) (binders e₂) h); once = distinct_right (binders e₁) (binders e₂) once };
}

-- The parts of a `let`: in e2 its variable is in scope.
pub record LetFits (I : List ℕ) (x : ℕ) (e₁ e₂ : Expr) : Type 0 where
  pub value_fits : Fits I e₁
  pub rest_fits : Fits (x ∷ I) e₂
  pub apart : among x I ≡ false

pub let_fits : {I : List ℕ} {k : Position} (x : ℕ) (e₁ e₂ : Expr) → Fits I (binary Let k x e₁ e₂) → LetFits I x e₁ e₂
unfolding UsedInside binders role binding among Distinct
let_fits {I} x e₁ e₂ f = record {
  value_fits = record {
    count = f.count;
    used = f.used.1;
    new = λ y h. f.new y (among_behind y x bound (among_left y (binders e₁) (binders e₂) h));
    once = distinct_left (binders e₁) (binders e₂) f.once.1;
  };
  rest_fits = record {
    count = f.count;
    used = f.used.2;
    new = λ y h. or_both_false (eqb y x) (among y I) (other y h) (f.new y (among_behind y x bound (among_right y (binders e₁) (binders e₂) h)));
    once = distinct_right (binders e₁) (binders e₂) f.once.1;
  };
  apart = f.new x (among_here x bound);
}
  where
    bound : List ℕ
    bound = binders e₁ ++ binders e₂

    -- x is bound once, so no variable that e2 binds is x.
    other : (y : ℕ) → among y (binders e₂) ≡ true → eqb y x ≡ false
    other y h = false_unless_true (eqb y x)
        (λ q. true_is_not_false (sym (among_right y (binders e₁) (binders e₂) h) ∙ ap (λ (z : ℕ). among z bound) (eqb-true y x q) ∙ f.once.0))
