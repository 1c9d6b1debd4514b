-- Putting a value for a variable is one more entry of the environment.
use Rattle.std.proofs.Common.{Option, None, Some}
use Prim.Native.Nat.{ℕ}
use mathlib.Core.Path.{◌≡◌, refl, sym, ◌∙◌, ap, fun_ext}
use mathlib.Core.Logic.{◌≢◌}
use native.Mathlib.Decide.{ℕ_discrete}
use Rattle.spec.specs.Expression.{Expr}
use Rattle.calculus.specs.Expression.{Value, Exp, value, var, let_in, if, while, spawn, write, unary, nullary, choose, substitute}
use Rattle.calculus.specs.State.{update}
use Rattle.calculus.proofs.Laws.Maps.{update_same, update_other, updates_swap}
use Rattle.soundness.specs.Erasure.{erase}
use Rattle.replay_machine.specs.Environment.{Env, PartialEnv, all, hide, value_or, close, closed, closed_under}

-- ---- A value for a variable that may have one: the first one stays

abbrev or_bound : Option Value → Value → Option Value
or_bound (Some w) v = Some w
or_bound None v = Some v

abbrev put : PartialEnv → ℕ → Value → PartialEnv
put ρ x v = update ρ x (or_bound (ρ x) v)

chosen_twice : {A : Type 0} {P : Type 0} (d : Dec P) (a b c : A) → choose d a (choose d b c) ≡ choose d a c
chosen_twice (yes p) a b c = refl
chosen_twice (no p) a b c = refl

-- The later of two updates of one variable stands.
update_twice : (ρ : PartialEnv) (x : ℕ) (a b : Option Value) → update (update ρ x a) x b ≡ update ρ x b
update_twice ρ x a b = fun_ext λ y. chosen_twice (ℕ_discrete y x) b a (ρ y)

put_variable : (ρ : PartialEnv) (x : ℕ) (v : Value) (y : ℕ) → substitute x v (value_or (ρ y) y) ≡ value_or (put ρ x v y) y
put_variable ρ x v y = by_cases (ρ y) (ρ x) (ℕ_discrete y x) (λ p. ap ρ p)
  where
    by_cases : (o p : Option Value) (d : Dec (y ≡ x)) → (y ≡ x → o ≡ p) → substitute x v (value_or o y) ≡ value_or (choose d (or_bound p v) o) y
    by_cases (Some w) p (yes q) h = ap (λ (z : Option Value). value_or (or_bound z v) y) (h q)
    by_cases None p (yes q) h = chosen (ℕ_discrete y x) ∙ ap (λ (z : Option Value). value_or (or_bound z v) y) (h q)
      where
        chosen : (d : Dec (y ≡ x)) → choose d (value v) (var y) ≡ value v
        chosen (yes r) = refl
        chosen (no r) = absurd (r q)
    by_cases (Some w) p (no q) h = refl
    by_cases None p (no q) h = chosen (ℕ_discrete y x)
      where
        chosen : (d : Dec (y ≡ x)) → choose d (value v) (var y) ≡ var y
        chosen (yes r) = absurd (q r)
        chosen (no r) = refl

-- A `let` of another variable does not hide what is put.
put_apart : (ρ : PartialEnv) (x y : ℕ) (v : Value) → y ≢ x → put (hide ρ y) x v ≡ hide (put ρ x v) y
put_apart ρ x y v d =
    ap (λ (o : Option Value). update (hide ρ y) x (or_bound o v)) (update_other ρ y x None (λ q. d (sym q))) ∙ updates_swap ρ y x None (or_bound (ρ x) v) d

-- The e2 of a `let` of y: of x itself, it keeps what it has; of another variable, x is put in it.
put_in_scope : (ρ : PartialEnv) (x y : ℕ) (v : Value) (e : Exp) (d : Dec (y ≡ x)) →
    substitute x v (close (hide ρ y) e) ≡ close (put (hide ρ y) x v) e →
    choose d (close (hide ρ y) e) (substitute x v (close (hide ρ y) e)) ≡ close (hide (put ρ x v) y) e
put_in_scope ρ x y v e (yes p) h =
    ap (λ (σ : PartialEnv). close σ e) (ap (hide ρ) p ∙ sym (update_twice ρ x (or_bound (ρ x) v) None) ∙ ap (hide (put ρ x v)) (sym p))
put_in_scope ρ x y v e (no d) h = h ∙ ap (λ (σ : PartialEnv). close σ e) (put_apart ρ x y v d)

-- e[v/x] of an expression with an environment's values put in it.
substitute_put : (e : Exp) (ρ : PartialEnv) (x : ℕ) (v : Value) → substitute x v (close ρ e) ≡ close (put ρ x v) e
substitute_put (value w) ρ x v = refl
substitute_put (var y) ρ x v = put_variable ρ x v y
substitute_put (let_in y e₁ e₂) ρ x v = λ i.
    let_in y (substitute_put e₁ ρ x v i) (put_in_scope ρ x y v e₂ (ℕ_discrete y x) (substitute_put e₂ (hide ρ y) x v) i)
substitute_put (if e₁ e₂) ρ x v = λ i. if (substitute_put e₁ ρ x v i) (substitute_put e₂ ρ x v i)
substitute_put (while e) ρ x v = ap while (substitute_put e ρ x v)
substitute_put (spawn e₁ e₂) ρ x v = λ i. spawn (substitute_put e₁ ρ x v i) (substitute_put e₂ ρ x v i)
substitute_put (write e₁ e₂) ρ x v = λ i. write (substitute_put e₁ ρ x v i) (substitute_put e₂ ρ x v i)
substitute_put (unary o e) ρ x v = ap (unary o) (substitute_put e ρ x v)
substitute_put (nullary o) ρ x v = refl

-- ---- A whole environment

-- A value for the one variable that was hidden.
pub substitute_hidden : (e : Expr) (σ : Env) (x : ℕ) (v : Value) → substitute x v (closed_under σ x e) ≡ closed (update σ x v) e
substitute_hidden e σ x v = substitute_put (erase e) (hide (all σ) x) x v ∙ ap (λ (ρ : PartialEnv). close ρ (erase e)) bound
  where
    chosen : (y : ℕ) (d : Dec (y ≡ x)) → ◌≡◌ {A = Option Value} (choose d (Some v) (choose d None (Some (σ y)))) (Some (choose d v (σ y)))
    chosen y (yes p) = refl
    chosen y (no p) = refl

    bound : put (hide (all σ) x) x v ≡ all (update σ x v)
    bound =
        ap (λ (o : Option Value). update (hide (all σ) x) x (or_bound o v)) (update_same (all σ) x None)
        ∙ (fun_ext λ y. chosen y (ℕ_discrete y x))

-- No variable is left for a value to be put for.
pub substitute_closed : (e : Expr) (σ : Env) (x : ℕ) (v : Value) → substitute x v (closed σ e) ≡ closed σ e
substitute_closed e σ x v = substitute_put (erase e) (all σ) x v ∙ ap (λ (ρ : PartialEnv). close ρ (erase e)) (fun_ext λ y. stays y (ℕ_discrete y x))
  where
    stays : (y : ℕ) (d : Dec (y ≡ x)) → ◌≡◌ {A = Option Value} (choose d (Some (σ x)) (Some (σ y))) (Some (σ y))
    stays y (yes p) = ap (λ (z : ℕ). Some (σ z)) (sym p)
    stays y (no p) = refl

-- ---- No environment

abbrev pub no_values : PartialEnv
no_values x = None

pub hide_none : (x : ℕ) → hide no_values x ≡ no_values
hide_none x = fun_ext λ y. none_chosen (ℕ_discrete y x)
  where
    none_chosen : {P : Type 0} (d : Dec P) → ◌≡◌ {A = Option Value} (choose d None None) None
    none_chosen (yes p) = refl
    none_chosen (no p) = refl

pub close_with_none : (e : Exp) → close no_values e ≡ e
close_with_none (value v) = refl
close_with_none (var x) = refl
close_with_none (let_in x e₁ e₂) = λ i.
    let_in x (close_with_none e₁ i) ((ap (λ (ρ : PartialEnv). close ρ e₂) (hide_none x) ∙ close_with_none e₂) i)
close_with_none (if e₁ e₂) = λ i. if (close_with_none e₁ i) (close_with_none e₂ i)
close_with_none (while e) = ap while (close_with_none e)
close_with_none (spawn e₁ e₂) = λ i. spawn (close_with_none e₁ i) (close_with_none e₂ i)
close_with_none (write e₁ e₂) = λ i. write (close_with_none e₁ i) (close_with_none e₂ i)
close_with_none (unary o e) = ap (unary o) (close_with_none e)
close_with_none (nullary o) = refl
