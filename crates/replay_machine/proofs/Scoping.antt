-- Finding the next word keeps what runs later apart from what runs before it.
use Prim.Native.Nat.{ℕ}
use mathlib.Core.Path.{◌≡◌, ◌∙◌, ap}
use mathlib.Core.Logic.{◌⊎◌, inl, inr}
use mathlib.Core.List.{List, [], ◌∷◌}
use Rattle.spec.specs.Expression.{Position, Expr, leaf, unary, binary, among}
use Rattle.spec.specs.WellFormed.{binders, UsedInside}
use Rattle.spec.specs.Words.{calls, role, binding}
use Rattle.spec.specs.declared.BinaryWord.TheVariants.{Let, If, Spawn, Write}
use Rattle.calculus.specs.Expression.{Value}
use Rattle.soundness.specs.Erasure.{LeafForm, variable, constant, reduces, leaf_form, UnaryForm, loop, strict, unary_form}
use Rattle.replay_machine.specs.Environment.{Env}
use Rattle.replay_machine.specs.Control.{let_part, spawn_part, write_first, write_second, unary_part, again_part, Frame, step_frame, mark_frame, let_word, spawn_word, write_word, unary_word, again_word, Control, at, seek_leaf, seek_unary, seek, return, enter, run_part}
use Rattle.replay_machine.specs.Scoped.{Fits, Vars, Bound, Rest, LetRest, FrameOk, FrameBinds, BoundBehind, Nested, No, ControlOk}
use Rattle.replay_machine.proofs.Variables.{among_here, among_behind, among_left, among_right, among_either, one_part_binds, part_fits, both_fit, let_fits}

-- ---- Fewer variables to be bound inside

infix 40 ◌within◌
abbrev ◌within◌ : Vars → Vars → Type 0
C within B = (y : ℕ) → C y → B y

rest_fewer : {B C : Vars} {e : Expr} → C within B → Rest B e → Rest C e
rest_fewer h ok = record { scope = ok.scope; fits = ok.fits; outside = λ y c. ok.outside y (h y c) }

let_rest_fewer : {B C : Vars} {x : ℕ} {e : Expr} → C within B → LetRest B x e → LetRest C x e
let_rest_fewer h ok = record { scope = ok.scope; fits = ok.fits; apart = ok.apart; outside = λ y c. ok.outside y (h y c) }

frame_fewer : {B C : Vars} → C within B → (f : Frame) → FrameOk B f → FrameOk C f
frame_fewer h (step_frame k (let_part x e)) ok = let_rest_fewer h ok
frame_fewer h (step_frame k (spawn_part e)) ok = rest_fewer h ok
frame_fewer h (step_frame k (write_first e)) ok = rest_fewer h ok
frame_fewer h (step_frame k (write_second v)) ok = tt
frame_fewer h (step_frame k (unary_part o)) ok = tt
frame_fewer h (step_frame k (again_part e)) ok = rest_fewer h ok
frame_fewer h (mark_frame σ) ok = tt

behind_fewer : {B C : Vars} → C within B → (f : Frame) → BoundBehind C f within BoundBehind B f
behind_fewer h (step_frame k f) y (inl c) = inl (h y c)
behind_fewer h (step_frame k f) y (inr d) = inr d
behind_fewer h (mark_frame σ) y b = b

pub nested_fewer : (K : List Frame) (B C : Vars) → C within B → Nested B K → Nested C K
nested_fewer [] B C h n = tt
nested_fewer (f ∷ K) B C h n = (frame_fewer h f n.0, nested_fewer K _ _ (behind_fewer h f) n.1)

nested_none : (K : List Frame) (B : Vars) → Nested B K → Nested No K
nested_none K B n = nested_fewer K B No (λ y z. absurd z) n

-- A frame that binds nothing itself.
behind_same : (B : Vars) (f : Frame) → FrameBinds f within No → BoundBehind B f within B
behind_same B (step_frame k f) nothing y (inl b) = b
behind_same B (step_frame k f) nothing y (inr z) = absurd (nothing y z)
behind_same B (mark_frame σ) nothing y z = absurd z

nested_behind : (K : List Frame) (B : Vars) (f : Frame) → FrameBinds f within No → FrameOk B f → Nested B K → Nested B (f ∷ K)
nested_behind K B f nothing ok n = (ok, nested_fewer K B _ (behind_same B f nothing) n)

-- ---- What is next

rest_next : {B : Vars} {e : Expr} → Rest B e → Rest No e
rest_next r = rest_fewer (λ y z. absurd z) r

fits_next : {I : List ℕ} {e : Expr} → Fits I e → Rest No e
fits_next {I} f = record { scope = I; fits = f; outside = λ y z. absurd z }

abbrev Goes : (Value → Control) → Type 0
Goes c = (v : Value) → ControlOk (c v)

abbrev Sought : Expr → Env → Type 0
Sought e σ = (I : List ℕ) (K : List Frame) (c : Value → Control) → Fits I e → Nested (Bound e) K → Goes c → ControlOk (seek σ e K c)

leaf_ok : (w : LeafForm) (σ : Env) (k : Position) (B : Vars) (K : List Frame) (c : Value → Control) → Nested B K → Goes c → ControlOk (seek_leaf σ k w K c)
leaf_ok (variable x) σ k B K c n g = g (σ x)
leaf_ok (constant v) σ k B K c n g = g _
leaf_ok (reduces o) σ k B K c n g = (tt, nested_none K B n)

-- A word with one part.
unary_ok : (w : UnaryForm) (k : Position) (e : Expr) (σ : Env) (I : List ℕ) (K : List Frame) → Sought e σ → Fits I e → Nested (Bound e) K →
    ControlOk (seek_unary σ k w e K (seek σ e))
unary_ok loop k e σ I K sought f n = (fits_next f, n)
unary_ok (strict o) k e σ I K sought f n =
    sought I (step_frame k (unary_part o) ∷ K) (λ u. at σ (unary_word k o u) K) f (nested_behind K (Bound e) (step_frame k (unary_part o)) (λ y z. z) tt n)
    (λ u. (tt, nested_none K _ n))

-- Both parts of a `write`, whose values are wanted one after the other.
second_ok : (k : Position) (w : Value) (e : Expr) (σ : Env) (I : List ℕ) (K : List Frame) → Sought e σ → Fits I e → Nested (Bound e) K →
    ControlOk (seek σ e (step_frame k (write_second w) ∷ K) (λ u. at σ (write_word k w u) K))
second_ok k w e σ I K sought f n =
    sought I (step_frame k (write_second w) ∷ K) (λ u. at σ (write_word k w u) K) f (nested_behind K (Bound e) (step_frame k (write_second w)) (λ y z. z) tt n)
    (λ u. (tt, nested_none K _ n))

seek_ok : (e : Expr) (σ : Env) → Sought e σ
unfolding UsedInside binders calls role binding
seek_ok (leaf w k v) σ I K c f n g = leaf_ok (leaf_form w v) σ k (Bound (leaf w k v)) K c n g
seek_ok (unary w k v e) σ I K c f n g = unary_ok (unary_form w v) k e σ I K (seek_ok e σ) (part_fits w e f) (nested_fewer K _ _ (λ y h. ap (among y) (one_part_binds w k v e) ∙ h) n)
seek_ok (binary Let k x e₁ e₂) σ I K c f n g =
    let P = let_fits x e₁ e₂ f in
    seek_ok e₁ σ I (step_frame k (let_part x e₂) ∷ K) (λ v. at σ (let_word k x v e₂) K) P.value_fits
    (record { scope = I; fits = P.rest_fits; apart = P.apart; outside = P.value_fits.new }, nested_fewer K _ _ parts n)
    (λ v. (record { scope = I; fits = P.rest_fits; apart = P.apart; outside = λ y z. absurd z }, nested_fewer K _ _ rest n))
  where
    rest : (λ y. (y ≡ x) ⊎ Bound e₂ y) within Bound (binary Let k x e₁ e₂)
    rest y (inl q) = rw q (among_here x _)
    rest y (inr b) = among_behind y x _ (among_right y (binders e₁) (binders e₂) b)

    parts : (λ y. Bound e₁ y ⊎ ((y ≡ x) ⊎ Bound e₂ y)) within Bound (binary Let k x e₁ e₂)
    parts y (inl b) = among_behind y x _ (among_left y (binders e₁) (binders e₂) b)
    parts y (inr b) = rest y b
seek_ok (binary If k v e₁ e₂) σ I K c f n g =
    let P = both_fit f.count I e₁ e₂ f.used.1 f.used.2 f.new f.once in
    ((I, P.left, P.right), nested_fewer K _ _ (λ y. among_either y (binders e₁) (binders e₂)) n)
seek_ok (binary Spawn k v e₁ e₂) σ I K c f n g =
    let P = both_fit f.count I e₁ e₂ f.used.1 f.used.2 f.new f.once in
    seek_ok e₁ σ I (step_frame k (spawn_part e₂) ∷ K) (λ w. at σ (spawn_word k w e₂) K) P.left
    (nested_behind K (Bound e₁) (step_frame k (spawn_part e₂)) (λ y z. z) (record { scope = I; fits = P.right; outside = P.left.new })
    (nested_fewer K _ _ (λ y. among_left y (binders e₁) (binders e₂)) n))
    (λ w. (fits_next P.right, nested_none K _ n))
seek_ok (binary Write k v e₁ e₂) σ I K c f n g =
    let P = both_fit f.count I e₁ e₂ f.used.1 f.used.2 f.new f.once in
    seek_ok e₁ σ I (step_frame k (write_first e₂) ∷ K) _ P.left
    (record { scope = I; fits = P.right; outside = P.left.new }, nested_fewer K _ _ (λ y. among_either y (binders e₁) (binders e₂)) n)
    (λ w. second_ok k w e₂ σ I K (seek_ok e₂ σ) P.right (nested_fewer K _ _ (λ y. among_right y (binders e₁) (binders e₂)) n))

pub return_ok : (σ : Env) (v : Value) (K : List Frame) (B : Vars) → Nested B K → ControlOk (return σ v K)
return_ok σ v [] B n = tt
return_ok σ v (step_frame k (let_part x e) ∷ K) B n = (let_rest_fewer (λ y z. absurd z) n.0, nested_fewer K _ _ (λ y b. inr b) n.1)
return_ok σ v (step_frame k (spawn_part e) ∷ K) B n = (rest_next n.0, nested_none K _ n.1)
return_ok σ v (step_frame k (write_first e) ∷ K) B n = second_ok k v e σ n.0.scope K (seek_ok e σ) n.0.fits (nested_fewer K _ _ (λ y b. inr b) n.1)
return_ok σ v (step_frame k (write_second w) ∷ K) B n = (tt, nested_none K _ n.1)
return_ok σ v (step_frame k (unary_part o) ∷ K) B n = (tt, nested_none K _ n.1)
return_ok σ v (step_frame k (again_part e) ∷ K) B n = (rest_next n.0, nested_fewer K _ _ (λ y b. inr b) n.1)
return_ok σ v (mark_frame σ' ∷ K) B n = return_ok σ' v K No n.1

pub enter_ok : (σ : Env) (e : Expr) (I : List ℕ) (K : List Frame) → Fits I e → Nested (Bound e) K → ControlOk (enter σ e K)
enter_ok σ e I K f n = seek_ok e σ I K (λ v. return σ v K) f n (λ v. return_ok σ v K (Bound e) n)

pub run_part_ok : (σ : Env) (k : Position) (e : Expr) (I : List ℕ) (K : List Frame) → Fits I e → Nested (Bound e) K → ControlOk (run_part σ k e K)
run_part_ok σ k e I K f n =
    seek_ok e σ I (step_frame k (again_part e) ∷ K) (λ v. at σ (again_word k v e) K) f
    (record { scope = I; fits = f; outside = f.new }, nested_fewer K _ _ twice n) (λ v. (fits_next f, n))
  where
    twice : (λ y. Bound e y ⊎ Bound e y) within Bound e
    twice y (inl b) = b
    twice y (inr b) = b
