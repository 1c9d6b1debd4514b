-- Environments that agree on what an expression uses give the same expression; so a new value changes no frame that does not use its variable.
use Rattle.std.proofs.Common.{Option, None, Some}
use Prim.Native.Nat.{ℕ}
use mathlib.Core.Path.{◌≡◌, refl, sym, ◌∙◌, ap}
use mathlib.Core.Logic.{inl}
use mathlib.Core.Bool.{Bool, true, false, ◌||◌}
use mathlib.Core.List.{List, [], ◌∷◌}
use native.Mathlib.Decide.{ℕ_discrete}
use lib.Dec.{eqb}
use borrow.Author.Tests.{eqb-true}
use Rattle.spec.specs.Expression.{Expr, leaf, unary, binary, among}
use Rattle.spec.specs.WellFormed.{StepInside, UsedInside}
use Rattle.spec.specs.Words.{role, binding}
use Rattle.spec.specs.declared.LeafWord.TheVariants.{Var, Int, Newtid, Newlock, Newsem, Newrwlock}
use Rattle.spec.specs.declared.BinaryWord.TheVariants.{Let, If, Spawn, Write}
use Rattle.spec.proofs.Clashes.{true_is_not_false}
use Rattle.calculus.specs.Expression.{Value, Exp, let_in, if, while, spawn, write, choose, substitute}
use Rattle.calculus.specs.State.{update}
use Rattle.calculus.specs.Reduction.{nowhere}
use Rattle.calculus.proofs.Laws.Maps.{update_other}
use Rattle.soundness.specs.Erasure.{erase, UnaryForm, loop, strict, unary_form, unary_exp}
use Rattle.replay_machine.specs.Environment.{Env, PartialEnv, all, hide, value_or, close, closed, closed_under}
use Rattle.replay_machine.specs.Control.{let_part, spawn_part, write_first, write_second, unary_part, again_part, Frame, step_frame, mark_frame, around, fill}
use Rattle.replay_machine.proofs.Closing.{substitute_hidden, no_values, hide_none, close_with_none}
use Rattle.replay_machine.specs.Scoped.{Fits, Vars, Rest, LetRest, FrameOk, Nested}

-- ---- Environments that agree

abbrev pub AgreeOn : List ℕ → PartialEnv → PartialEnv → Type 0
AgreeOn I ρ ρ' = (y : ℕ) → among y I ≡ true → ρ y ≡ ρ' y

-- A `let` hides its variable from both.
hidden_agree : (I : List ℕ) (ρ ρ' : PartialEnv) (x : ℕ) → AgreeOn I ρ ρ' → AgreeOn (x ∷ I) (hide ρ x) (hide ρ' x)
unfolding among
hidden_agree I ρ ρ' x h y m = by_cases (ℕ_discrete y x)
  where
    elsewhere : (b : Bool) → (b ≡ true → ⊥) → (b || among y I) ≡ true → among y I ≡ true
    elsewhere true n q = absurd (n refl)
    elsewhere false n q = q

    by_cases : (d : Dec (y ≡ x)) → choose d None (ρ y) ≡ choose d None (ρ' y)
    by_cases (yes p) = refl
    by_cases (no n) = h y (elsewhere (eqb y x) (λ q. n (eqb-true y x q)) m)

close_unary : (f : UnaryForm) (e : Exp) (ρ : PartialEnv) → close ρ (unary_exp f e) ≡ unary_exp f (close ρ e)
close_unary loop e ρ = refl
close_unary (strict o) e ρ = refl

pub close_agree : (count : ℕ) (e : Expr) (I : List ℕ) (ρ ρ' : PartialEnv) → UsedInside count I e → AgreeOn I ρ ρ' → close ρ (erase e) ≡ close ρ' (erase e)
unfolding erase UsedInside StepInside role binding
close_agree count (leaf Var k x) I ρ ρ' u h = ap (λ (o : Option Value). value_or o x) (h x u)
close_agree count (leaf Int k v) I ρ ρ' u h = refl
close_agree count (leaf Newtid k v) I ρ ρ' u h = refl
close_agree count (leaf Newlock k v) I ρ ρ' u h = refl
close_agree count (leaf Newsem k v) I ρ ρ' u h = refl
close_agree count (leaf Newrwlock k v) I ρ ρ' u h = refl
close_agree count (unary w k v e) I ρ ρ' u h =
    close_unary (unary_form w v) (erase e) ρ ∙ ap (unary_exp (unary_form w v)) (close_agree count e I ρ ρ' u.1 h) ∙ sym (close_unary (unary_form w v) (erase e) ρ')
close_agree count (binary Let k x e₁ e₂) I ρ ρ' u h = λ i.
    let_in x (close_agree count e₁ I ρ ρ' u.1 h i) (close_agree count e₂ (x ∷ I) (hide ρ x) (hide ρ' x) u.2 (hidden_agree I ρ ρ' x h) i)
close_agree count (binary If k v e₁ e₂) I ρ ρ' u h = λ i. if (close_agree count e₁ I ρ ρ' u.1 h i) (close_agree count e₂ I ρ ρ' u.2 h i)
close_agree count (binary Spawn k v e₁ e₂) I ρ ρ' u h = λ i. spawn (close_agree count e₁ I ρ ρ' u.1 h i) (close_agree count e₂ I ρ ρ' u.2 h i)
close_agree count (binary Write k v e₁ e₂) I ρ ρ' u h = λ i. write (close_agree count e₁ I ρ ρ' u.1 h i) (close_agree count e₂ I ρ ρ' u.2 h i)

-- ---- The body of a procedure

-- With its argument in the environment, whatever else is there, it is the body with its argument put for its variable.
pub argument_put_lem : (σ : Env) (x : ℕ) (v : Value) (e : Expr) → Fits (x ∷ []) e → closed (update σ x v) e ≡ substitute x v (erase e)
unfolding among
argument_put_lem σ x v e f =
    sym (substitute_hidden e σ x v)
    ∙ ap (substitute x v) (close_agree f.count e (x ∷ []) (hide (all σ) x) (hide no_values x) f.used
    (hidden_agree [] (all σ) no_values x (λ y m. true_is_not_false (sym m))))
    ∙ ap (λ (ρ : PartialEnv). substitute x v (close ρ (erase e))) (hide_none x)
    ∙ ap (substitute x v) (close_with_none (erase e))

-- ---- A new value for a variable that no frame uses

module _ (σ : Env) (x : ℕ) (v : Value) where
  abbrev σ' : Env
  σ' = update σ x v

  -- x is not in scope, so nothing in scope changes.
  unchanged : (I : List ℕ) → among x I ≡ false → AgreeOn I (all σ) (all σ')
  unchanged I n y m = ap Some (sym (update_other σ x y v (λ q. true_is_not_false (sym m ∙ ap (λ (z : ℕ). among z I) q ∙ n))))

  rest_agrees : {B : Vars} (e : Expr) → B x → Rest B e → closed σ e ≡ closed σ' e
  rest_agrees e b ok = close_agree ok.fits.count e ok.scope (all σ) (all σ') ok.fits.used (unchanged ok.scope (ok.outside x b))

  let_rest_agrees : {B : Vars} (y : ℕ) (e : Expr) → B x → LetRest B y e → closed_under σ y e ≡ closed_under σ' y e
  let_rest_agrees y e b ok =
      close_agree ok.fits.count e (y ∷ ok.scope) (hide (all σ) y) (hide (all σ') y) ok.fits.used
      (hidden_agree ok.scope (all σ) (all σ') y (unchanged ok.scope (ok.outside x b)))

  around_agree : (B : Vars) → B x → (f : Frame) → FrameOk B f → (E : Exp) → around σ f E ≡ around σ' f E
  around_agree B b (step_frame k (let_part y e)) ok E = ap (let_in y E) (let_rest_agrees y e b ok)
  around_agree B b (step_frame k (spawn_part e)) ok E = ap (spawn E) (rest_agrees e b ok)
  around_agree B b (step_frame k (write_first e)) ok E = ap (write E) (rest_agrees e b ok)
  around_agree B b (step_frame k (write_second w)) ok E = refl
  around_agree B b (step_frame k (unary_part o)) ok E = refl
  around_agree B b (step_frame k (again_part e)) ok E = ap (λ (d : Exp). let_in nowhere E (while d)) (rest_agrees e b ok)
  around_agree B b (mark_frame σ₁) ok E = refl

  pub fill_agree : (K : List Frame) (B : Vars) → B x → Nested B K → (E : Exp) → fill σ K E ≡ fill σ' K E
  fill_agree [] B b n E = refl
  fill_agree (step_frame k f ∷ K) B b n E = fill_agree K _ (inl b) n.1 _ ∙ ap (fill σ' K) (around_agree B b (step_frame k f) n.0 E)
  fill_agree (mark_frame σ₁ ∷ K) B b n E = refl
